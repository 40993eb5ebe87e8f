-- Words of a journal: what its entries tell. Source: this project's own.
use Rattle.std.specs.Prelude.{ℕ, ◌==◌, ◌&&◌, nat_le, Bool, true, false, List, [], ◌∷◌, ◌++◌, filter, count_by, if◌then◌else◌, ⊤}
use Rattle.std.specs.List.{list_any}
use Rattle.array_model.specs.declared.script.Op.{Op}
use Rattle.array_model.specs.declared.journal.Entry.{Entry}
use Rattle.array_model.specs.declared.journal.Event.{Event}
use Rattle.array_model.specs.declared.journal.Event.TheVariants.{Begin, End, Spare, Ready, Pass, Point, PassEnd, Active, Clean, Unblock, Posted, Applied, Declined, Submit, Pending, Ack, Idle, Fault, Kill, Takeover}
use Rattle.array_model.specs.declared.journal.Answer.{Answer}
use Rattle.array_model.specs.declared.journal.Answer.TheVariants.{Done}
use Rattle.array_model.specs.Script.{is_write_in}

-- WHICH ENTRY IT IS

abbrev pub is_begin : Event → Bool
is_begin (Begin g) = true
is_begin _ = false

abbrev pub is_end : Event → Bool
is_end (End g) = true
is_end _ = false

abbrev pub is_spare : Event → Bool
is_spare (Spare d) = true
is_spare _ = false

abbrev pub is_spare_of : ℕ → Event → Bool
is_spare_of d (Spare e) = e.0 == d
is_spare_of d _ = false

abbrev pub is_ready : ℕ → Event → Bool
is_ready v (Ready w) = w.0 == v
is_ready v _ = false

abbrev pub is_any_ready : Event → Bool
is_any_ready (Ready v) = true
is_any_ready _ = false

abbrev pub is_pass : ℕ → Event → Bool
is_pass v (Pass w row) = w.0 == v
is_pass v _ = false

abbrev pub is_any_point : Event → Bool
is_any_point (Point v unit) = true
is_any_point _ = false

abbrev pub is_pass_end : ℕ → Event → Bool
is_pass_end v (PassEnd w) = w.0 == v
is_pass_end v _ = false

abbrev pub is_any_pass_end : Event → Bool
is_any_pass_end (PassEnd v) = true
is_any_pass_end _ = false

abbrev pub is_active : ℕ → Event → Bool
is_active v (Active w) = w.0 == v
is_active v _ = false

abbrev pub is_clean : ℕ → Event → Bool
is_clean v (Clean w) = w.0 == v
is_clean v _ = false

abbrev pub is_any_clean : Event → Bool
is_any_clean (Clean v) = true
is_any_clean _ = false

abbrev pub is_unblock : ℕ → Event → Bool
is_unblock d (Unblock e) = e.0 == d
is_unblock d _ = false

abbrev pub is_posted : Event → Bool
is_posted (Posted n) = true
is_posted _ = false

abbrev pub is_applied : Event → Bool
is_applied (Applied n) = true
is_applied _ = false

-- applied or declined
abbrev pub is_settled : Event → Bool
is_settled (Applied n) = true
is_settled (Declined n kind) = true
is_settled _ = false

-- applied or declined under this number
abbrev pub is_settled_as : ℕ → Event → Bool
is_settled_as n (Applied m) = m == n
is_settled_as n (Declined m kind) = m == n
is_settled_as n _ = false

-- an update of a number from this one on was applied
abbrev pub is_applied_from : ℕ → Event → Bool
is_applied_from n (Applied m) = nat_le n m
is_applied_from n _ = false

abbrev pub is_pending : ℕ → Event → Bool
is_pending v (Pending w) = w.0 == v
is_pending v _ = false

abbrev pub is_any_pending : Event → Bool
is_any_pending (Pending v) = true
is_any_pending _ = false

abbrev pub is_idle : ℕ → Event → Bool
is_idle v (Idle w) = w.0 == v
is_idle v _ = false

abbrev pub is_fault : ℕ → Event → Bool
is_fault d (Fault e) = e.0 == d
is_fault d _ = false

abbrev pub is_any_fault : Event → Bool
is_any_fault (Fault d) = true
is_any_fault _ = false

abbrev pub is_kill : Event → Bool
is_kill Kill = true
is_kill _ = false

abbrev pub is_takeover : Event → Bool
is_takeover Takeover = true
is_takeover _ = false

abbrev pub is_submit : ℕ → Event → Bool
is_submit i (Submit j) = j == i
is_submit i _ = false

-- a write to volume v was submitted
abbrev pub is_submit_in : List Op → ℕ → Event → Bool
is_submit_in ops v (Submit i) = is_write_in ops v i
is_submit_in ops v _ = false

-- op i was answered
abbrev pub is_ack_of : ℕ → Event → Bool
is_ack_of i (Ack j answer) = j == i
is_ack_of i _ = false

abbrev pub is_done : Answer → Bool
is_done Done = true
is_done _ = false

-- op i was acknowledged as done
abbrev pub is_ack_done : ℕ → Event → Bool
is_ack_done i (Ack j answer) = (j == i) && is_done answer
is_ack_done i _ = false

-- WHAT A JOURNAL SAYS

-- some entry of the journal is one of these
abbrev pub has : (Event → Bool) → List Entry → Bool
has test journal = list_any (λ e. test e.event) journal

-- how many of them it has
abbrev pub count : (Event → Bool) → List Entry → ℕ
count test journal = count_by (λ e. test e.event) journal

-- disk d has a fault
abbrev pub is_faulty : ℕ → List Entry → Bool
is_faulty d journal = has (is_fault d) journal

-- the entries stamped at most n
abbrev pub up_to : ℕ → List Entry → List Entry
up_to n journal = filter (λ e. nat_le e.stamp n) journal

-- the stamp of the last entry, and 0 where there is none
abbrev pub stamp_from : ℕ → List Entry → ℕ
stamp_from n [] = n
stamp_from n (e ∷ es) = stamp_from e.stamp es

abbrev pub last_stamp : List Entry → ℕ
last_stamp journal = stamp_from 0 journal

-- of a volume's entries ready, pending, active and clean the last is active
abbrev pub live_at : ℕ → Bool → Event → Bool
live_at v live (Ready w) = if w.0 == v then false else live
live_at v live (Pending w) = if w.0 == v then false else live
live_at v live (Active w) = if w.0 == v then true else live
live_at v live (Clean w) = if w.0 == v then false else live
live_at v live _ = live

abbrev pub live_from : ℕ → Bool → List Entry → Bool
live_from v live [] = live
live_from v live (e ∷ es) = live_from v (live_at v live e.event) es

abbrev pub is_live : ℕ → List Entry → Bool
is_live v journal = live_from v false journal

-- it holds at each entry, of what stands before the entry and of the entry
abbrev pub AtEachFrom : (List Entry → Entry → Type 0) → List Entry → List Entry → Type 0
AtEachFrom P front [] = ⊤
AtEachFrom P front (e ∷ es) = P front e × AtEachFrom P (front ++ e ∷ []) es

abbrev pub AtEach : (List Entry → Entry → Type 0) → List Entry → Type 0
AtEach P journal = AtEachFrom P [] journal
