-- Each entry and each answer of a journal has its cause in the script, in the opening and in the entries before it.
-- Source: the array states of the kernel's md.rst and mdmon-design.txt (read-auto, clean, write-pending, active,
-- active-idle; the monitor's metadata writes); what is a cause of which entry is this project's own.
use Rattle.std.specs.Prelude.{◌≡◌, ℕ, ◌+◌, ◌<◌, ◌≤◌, ◌==◌, ◌&&◌, nat_lt, Bool, true, false, List, [], ◌∷◌, Option, Some, None, if◌then◌else◌, ⊤, ◌⊎◌}
use Rattle.array_model.specs.declared.script.Op.{Op}
use Rattle.array_model.specs.declared.script.OpKind.{OpKind}
use Rattle.array_model.specs.declared.script.OpKind.TheVariants.{Write, Read, Whole}
use Rattle.array_model.specs.declared.journal.Entry.{Entry}
use Rattle.array_model.specs.declared.journal.Event.{Event}
use Rattle.array_model.specs.declared.journal.Event.TheVariants.{Begin, End, Ready, Submit, Pending, Active, Ack, Idle, Clean}
use Rattle.array_model.specs.declared.journal.Answer.{Answer}
use Rattle.array_model.specs.declared.journal.Answer.TheVariants.{Done, Value, Past, Failed, NoSpare}
use Rattle.array_model.specs.Script.{VolumeWrite, kind_at, write_at}
use Rattle.array_model.specs.Events.{AtEach, has, is_submit, is_ack_of, is_any_fault}
use Rattle.array_model.specs.Start.{Start}

-- ROUNDS

abbrev pub note_at : ℕ → Event → ℕ
note_at note (Begin g) = g
note_at note _ = note

abbrev pub note_from : ℕ → List Entry → ℕ
note_from note [] = note
note_from note (e ∷ es) = note_from (note_at note e.event) es

-- the generation of the round begun last; before the first, the newest's at opening
abbrev pub note_of : Start → List Entry → ℕ
note_of start journal = note_from (start.words.generation start.newest.anchor) journal

-- where the rounds are: none has begun, the last that began has this generation and goes on, or it has ended
pub data Course : Type 0 where
  NoRound : Course
  GoesOn : (g : ℕ) → Course
  Over : Course

abbrev pub course_at : Course → Event → Course
course_at course (Begin g) = GoesOn g
course_at course (End g) = Over
course_at course _ = course

abbrev pub course_from : Course → List Entry → Course
course_from course [] = course
course_from course (e ∷ es) = course_from (course_at course e.event) es

-- by the last of the entries begin and end
abbrev pub course_of : List Entry → Course
course_of journal = course_from NoRound journal

-- ARRAY STATES

-- the state of a volume by a journal; closed before its ready
pub data ArrayState : Type 0 where
  ArrayClosed : ArrayState
  ArrayReadAuto : ArrayState
  ArrayClean : ArrayState
  ArrayPending : ArrayState
  ArrayActive : ArrayState
  ArrayIdle : ArrayState

abbrev pub size_of : Start → ℕ → ℕ
size_of start v = (start.words.shape start.newest v).size

abbrev pub is_inside : Start → ℕ → Option VolumeWrite → Bool
is_inside start v None = false
is_inside start v (Some t) = (t.volume == v) && nat_lt t.sector (size_of start v)

-- op i is a write to a sector of the volume
abbrev pub is_write_inside : Start → List Op → ℕ → ℕ → Bool
is_write_inside start ops v i = is_inside start v (write_at ops i)

-- a write that is asked for makes an idle volume active, without an entry
abbrev pub woken : ArrayState → ArrayState
woken ArrayClosed = ArrayClosed
woken ArrayReadAuto = ArrayReadAuto
woken ArrayClean = ArrayClean
woken ArrayPending = ArrayPending
woken ArrayActive = ArrayActive
woken ArrayIdle = ArrayActive

abbrev pub array_state_at : Start → List Op → ℕ → ArrayState → Event → ArrayState
array_state_at start ops v now (Ready w) = if w.0 == v then ArrayReadAuto else now
array_state_at start ops v now (Pending w) = if w.0 == v then ArrayPending else now
array_state_at start ops v now (Active w) = if w.0 == v then ArrayActive else now
array_state_at start ops v now (Idle w) = if w.0 == v then ArrayIdle else now
array_state_at start ops v now (Clean w) = if w.0 == v then ArrayClean else now
array_state_at start ops v now (Submit i) = if is_write_inside start ops v i then woken now else now
array_state_at start ops v now _ = now

abbrev pub array_state_from : Start → List Op → ℕ → ArrayState → List Entry → ArrayState
array_state_from start ops v now [] = now
array_state_from start ops v now (e ∷ es) = array_state_from start ops v (array_state_at start ops v now e.event) es

abbrev pub array_state_of : Start → List Op → List Entry → ℕ → ArrayState
array_state_of start ops journal v = array_state_from start ops v ArrayClosed journal

-- the volume was started, and is in this state
pub record IsInState (start : Start) (ops : List Op) (journal : List Entry) (v : ℕ) (now : ArrayState) : Type 0 where
  pub started : start.is_started v ≡ true
  pub state : array_state_of start ops journal v ≡ now

-- the volume was started, and is ready
pub record IsReady (start : Start) (ops : List Op) (journal : List Entry) (v : ℕ) : Type 0 where
  pub started : start.is_started v ≡ true
  pub ready : array_state_of start ops journal v ≡ ArrayClosed → ⊥

-- an operation is asked for where its volume is ready
abbrev pub IsAskedFor : Start → List Op → List Entry → Option OpKind → Type 0
IsAskedFor start ops front None = ⊥
IsAskedFor start ops front (Some (Write v s value)) = IsReady start ops front v.0
IsAskedFor start ops front (Some (Read v s)) = IsReady start ops front v.0
IsAskedFor start ops front (Some (Whole v)) = IsReady start ops front v.0

-- WHEN A ROUND IS DUE

-- in these states a round's block is dirty
abbrev pub needs_dirty : ArrayState → Bool
needs_dirty ArrayClosed = false
needs_dirty ArrayReadAuto = false
needs_dirty ArrayClean = false
needs_dirty ArrayPending = true
needs_dirty ArrayActive = true
needs_dirty ArrayIdle = true

abbrev pub recorded_at : ArrayState → Bool → Event → Bool
recorded_at now recorded (Begin g) = needs_dirty now
recorded_at now recorded _ = recorded

abbrev pub recorded_from : Start → List Op → ArrayState → Bool → List Entry → Bool
recorded_from start ops now recorded [] = recorded
recorded_from start ops now recorded (e ∷ es) =
    recorded_from start ops (array_state_at start ops 0 now e.event) (recorded_at now recorded e.event) es

-- the dirty bit of volume 0 in the block of the round begun last
abbrev pub recorded_of : Start → List Op → List Entry → Bool
recorded_of start ops journal = recorded_from start ops ArrayClosed false journal

-- a round is due where the volume is write-pending and was recorded as clean, and where it is read-auto or clean and
-- was recorded as dirty
abbrev pub IsDueIn : ArrayState → Bool → Type 0
IsDueIn ArrayClosed recorded = ⊥
IsDueIn ArrayReadAuto recorded = recorded ≡ true
IsDueIn ArrayClean recorded = recorded ≡ true
IsDueIn ArrayPending recorded = recorded ≡ false
IsDueIn ArrayActive recorded = ⊥
IsDueIn ArrayIdle recorded = ⊥

-- and once before all else
abbrev pub IsDueBy : Course → ArrayState → Bool → Type 0
IsDueBy NoRound now recorded = ⊤
IsDueBy (GoesOn g) now recorded = ⊥
IsDueBy Over now recorded = IsDueIn now recorded

abbrev pub IsDue : Start → List Op → List Entry → Type 0
IsDue start ops front = IsDueBy (course_of front) (array_state_of start ops front 0) (recorded_of start ops front)

-- SUBMITS

abbrev pub wakes_at : Start → List Op → ℕ → Event → Bool
wakes_at start ops v (Submit i) = is_write_inside start ops v i
wakes_at start ops v _ = false

abbrev pub wakes_from : Start → List Op → ℕ → Bool → List Entry → Bool
wakes_from start ops v wakes [] = wakes
wakes_from start ops v wakes (e ∷ es) = wakes_from start ops v (wakes_at start ops v e.event) es

-- the last entry submits a write to a sector of the volume
abbrev pub is_woken : Start → List Op → List Entry → ℕ → Bool
is_woken start ops journal v = wakes_from start ops v false journal

-- each write to the volume that was submitted was answered
abbrev pub AreAnswered : Start → List Op → List Entry → ℕ → Type 0
AreAnswered start ops journal v =
    (i : ℕ) → is_write_inside start ops v i ≡ true → has (is_submit i) journal ≡ true → has (is_ack_of i) journal ≡ true

-- ANSWERS

-- only an operation on a sector of the volume fails, and only after a fault
pub record MayFail (start : Start) (front : List Entry) (v s : ℕ) : Type 0 where
  pub inside : s < size_of start v
  pub fault : has is_any_fault front ≡ true

abbrev pub WriteAnswer : Start → List Entry → (v s : ℕ) → Answer → Type 0
WriteAnswer start front v s Done = s < size_of start v
WriteAnswer start front v s (Value x) = ⊥
WriteAnswer start front v s Past = size_of start v ≤ s
WriteAnswer start front v s Failed = MayFail start front v s
WriteAnswer start front v s NoSpare = ⊥

abbrev pub ReadAnswer : Start → List Entry → (v s : ℕ) → Answer → Type 0
ReadAnswer start front v s Done = ⊥
ReadAnswer start front v s (Value x) = s < size_of start v
ReadAnswer start front v s Past = size_of start v ≤ s
ReadAnswer start front v s Failed = MayFail start front v s
ReadAnswer start front v s NoSpare = ⊥

abbrev pub WholeAnswer : Answer → Type 0
WholeAnswer Done = ⊤
WholeAnswer (Value x) = ⊥
WholeAnswer Past = ⊥
WholeAnswer Failed = ⊥
WholeAnswer NoSpare = ⊤

-- what an operation of this kind may be answered; when a volume is whole the answer law says
abbrev pub IsAnswerTo : Start → List Entry → Option OpKind → Answer → Type 0
IsAnswerTo start front None answer = ⊥
IsAnswerTo start front (Some (Write v s value)) answer = WriteAnswer start front v.0 s answer
IsAnswerTo start front (Some (Read v s)) answer = ReadAnswer start front v.0 s answer
IsAnswerTo start front (Some (Whole v)) answer = WholeAnswer answer

-- THE LAW

-- the volume is read-auto or clean: the next write to it makes it write-pending
abbrev pub AwaitsWrite : Start → List Op → List Entry → ℕ → Type 0
AwaitsWrite start ops front v = IsInState start ops front v ArrayReadAuto ⊎ IsInState start ops front v ArrayClean

-- The cause of an entry behind a front of the journal. A round begins where one is due and none goes on, with the next
-- generation, and the round that goes on ends. A volume is write-pending right behind the submit of a write to it.
-- Ready and active come where the last round has ended, the states follow one another, and operations are submitted
-- once their volume is ready; the form of the journal and the order of answers say more of them. Entries of failures,
-- passes, updates and takeovers have no cause today: a failed call ends the run, and there are none of the others.
abbrev pub IsCaused : Start → List Op → List Entry → Event → Type 0
IsCaused start ops front (Begin g) = IsDue start ops front × (g ≡ note_of start front + 1)
IsCaused start ops front (End g) = course_of front ≡ GoesOn g
IsCaused start ops front (Ready v) = IsInState start ops front v.0 ArrayClosed × (course_of front ≡ Over)
IsCaused start ops front (Pending v) = AwaitsWrite start ops front v.0 × (is_woken start ops front v.0 ≡ true)
IsCaused start ops front (Active v) = IsInState start ops front v.0 ArrayPending × (course_of front ≡ Over)
IsCaused start ops front (Idle v) = IsInState start ops front v.0 ArrayActive × AreAnswered start ops front v.0
IsCaused start ops front (Clean v) = IsInState start ops front v.0 ArrayIdle
IsCaused start ops front (Submit i) = IsAskedFor start ops front (kind_at ops i)
IsCaused start ops front (Ack i answer) = IsAnswerTo start front (kind_at ops i) answer
IsCaused start ops front _ = ⊥

abbrev pub AreCaused : Start → List Op → List Entry → Type 0
AreCaused start ops journal = AtEach (λ front e. IsCaused start ops front e.event) journal
