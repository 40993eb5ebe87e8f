-- The causes of array states. Source: array_state in the kernel's md.rst (readonly, read-auto, clean, write-pending,
-- active, active-idle) and the order of mdmon-design.txt.
use Rattle.std.specs.Prelude.{⊤, ◌≡◌, ℕ, ◌==◌, Bool, true, false, List, [], ◌∷◌, Option, Some, None, if◌then◌else◌, ◌⊎◌}
use Rattle.std.specs.List.{last_or}
use Rattle.array_model.specs.declared.script.Op.{Op}
use Rattle.array_model.specs.declared.script.OpKind.{OpKind}
use Rattle.array_model.specs.declared.script.OpKind.TheVariants.{Write, Read, Whole}
use Rattle.array_model.specs.declared.journal.Entry.{Entry}
use Rattle.array_model.specs.declared.journal.Event.{Event}
use Rattle.array_model.specs.declared.journal.Event.TheVariants.{Ready, Pending, Active, Idle, Clean, Submit}
use Rattle.array_model.specs.Script.{kind_at, is_write_in}
use Rattle.array_model.specs.Events.{AtEach, has, is_submit, is_ack_of, is_any_fault}
use Rattle.array_model.specs.Counts.{IsSubmitOf}
use Rattle.array_model.specs.Causes.{ArrayState, ArrayClosed, ArrayReadAuto, ArrayClean, ArrayPending, ArrayActive, ArrayIdle}
use Rattle.array_model.specs.Start.{Start}
use Rattle.array_causes.specs.Writes.{is_write_there}
use Rattle.array_causes.specs.Failures.{has_settled}

-- WHAT A JOURNAL SAYS OF A VOLUME

-- its state by the last of its entries ready, pending, active, idle and clean
abbrev pub said_at : ℕ → ArrayState → Event → ArrayState
said_at v said (Ready w) = if w.0 == v then ArrayReadAuto else said
said_at v said (Pending w) = if w.0 == v then ArrayPending else said
said_at v said (Active w) = if w.0 == v then ArrayActive else said
said_at v said (Idle w) = if w.0 == v then ArrayIdle else said
said_at v said (Clean w) = if w.0 == v then ArrayClean else said
said_at v said _ = said

abbrev pub said_from : ℕ → ArrayState → List Entry → ArrayState
said_from v said [] = said
said_from v said (e ∷ es) = said_from v (said_at v said e.event) es

abbrev pub said_of : ℕ → List Entry → ArrayState
said_of v journal = said_from v ArrayClosed journal

-- a write to a sector of the volume was submitted since it fell idle last
abbrev pub woken_at : Start → List Op → ℕ → Bool → Event → Bool
woken_at start ops v woken (Idle w) = if w.0 == v then false else woken
woken_at start ops v woken (Submit i) = if is_write_there start ops v i then true else woken
woken_at start ops v woken _ = woken

abbrev pub woken_from : Start → List Op → ℕ → Bool → List Entry → Bool
woken_from start ops v woken [] = woken
woken_from start ops v woken (e ∷ es) = woken_from start ops v (woken_at start ops v woken e.event) es

abbrev pub is_woken : Start → List Op → ℕ → List Entry → Bool
is_woken start ops v journal = woken_from start ops v false journal

-- it is active: it became so, or it fell idle and a write was submitted since
abbrev pub IsLive : Start → List Op → ℕ → List Entry → Type 0
IsLive start ops v journal =
    (said_of v journal ≡ ArrayActive) ⊎ ((said_of v journal ≡ ArrayIdle) × (is_woken start ops v journal ≡ true))

-- it is idle: no write was submitted since
pub record IsIdle (start : Start) (ops : List Op) (v : ℕ) (journal : List Entry) : Type 0 where
  pub said : said_of v journal ≡ ArrayIdle
  pub still : is_woken start ops v journal ≡ false

-- it is read-auto or clean: the next write to it makes it write-pending
abbrev pub IsAtRest : ℕ → List Entry → Type 0
IsAtRest v journal = (said_of v journal ≡ ArrayReadAuto) ⊎ (said_of v journal ≡ ArrayClean)

-- each write to the volume that was submitted was answered
abbrev pub AreAnswered : List Op → ℕ → List Entry → Type 0
AreAnswered ops v journal =
    (i : ℕ) → is_write_in ops v i ≡ true → has (is_submit i) journal ≡ true → has (is_ack_of i) journal ≡ true

-- the volume was made ready, or a disk failed: what is asked of a broken volume is answered at once
abbrev pub IsOpen : ℕ → List Entry → Type 0
IsOpen v journal = said_of v journal ≡ ArrayClosed → has is_any_fault journal ≡ true

abbrev pub IsAskedFor : List Entry → Option OpKind → Type 0
IsAskedFor front None = ⊥
IsAskedFor front (Some (Write v s value)) = IsOpen v.0 front
IsAskedFor front (Some (Read v s)) = IsOpen v.0 front
IsAskedFor front (Some (Whole v)) = IsOpen v.0 front

-- CAUSES

-- A volume is made ready once; it is write-pending right behind the submit of a write to it, where it was at rest;
-- active where it was write-pending; idle where it was active, and clean where it was idle, each where no write to it
-- is open. Ready and active come where a round has ended since the opening or the last kill. An operation is submitted
-- where its volume is open.
abbrev pub StateCause : Start → List Op → List Entry → (stamp : ℕ) → Event → Type 0
StateCause start ops front stamp (Ready v) = (said_of v.0 front ≡ ArrayClosed) × (has_settled front ≡ true)
StateCause start ops front stamp (Pending v) = IsAtRest v.0 front × IsSubmitOf ops v.0 stamp (last_or None front)
StateCause start ops front stamp (Active v) = (said_of v.0 front ≡ ArrayPending) × (has_settled front ≡ true)
StateCause start ops front stamp (Idle v) = IsLive start ops v.0 front × AreAnswered ops v.0 front
StateCause start ops front stamp (Clean v) = IsIdle start ops v.0 front × AreAnswered ops v.0 front
StateCause start ops front stamp (Submit i) = IsAskedFor front (kind_at ops i)
StateCause start ops front stamp _ = ⊤

-- The law: each entry of a volume's state, and each submit, has its cause.
abbrev pub StateCauses : Start → List Op → List Entry → Type 0
StateCauses start ops journal = AtEach (λ front e. StateCause start ops front e.stamp e.event) journal
