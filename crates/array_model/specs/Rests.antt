-- Where a run has come to rest, told by its journal alone. Source: this project's own.
use Rattle.std.specs.Prelude.{◌≡◌, ℕ, ◌<◌, ◌==◌, Bool, true, false, List, [], ◌∷◌, length, if◌then◌else◌, ⊤}
use Rattle.array_model.specs.declared.script.Op.{Op}
use Rattle.array_model.specs.declared.journal.Entry.{Entry}
use Rattle.array_model.specs.declared.journal.Event.{Event}
use Rattle.array_model.specs.declared.journal.Event.TheVariants.{Begin, Clean}
use Rattle.array_model.specs.Events.{has, is_ack_of}
use Rattle.array_model.specs.Causes.{Over, course_of, ArrayState, ArrayClosed, ArrayReadAuto, ArrayClean, ArrayPending, ArrayActive, ArrayIdle, array_state_of}
use Rattle.array_model.specs.Start.{Start}

-- no round has begun since the volume's last clean: its being clean is still to be recorded
abbrev pub owed_at : ℕ → Bool → Event → Bool
owed_at v owed (Begin g) = false
owed_at v owed (Clean w) = if w.0 == v then true else owed
owed_at v owed _ = owed

abbrev pub owed_from : ℕ → Bool → List Entry → Bool
owed_from v owed [] = owed
owed_from v owed (e ∷ es) = owed_from v (owed_at v owed e.event) es

abbrev pub is_owed : List Entry → ℕ → Bool
is_owed journal v = owed_from v false journal

-- read-auto, or clean with a round begun since
abbrev pub RestsAs : ArrayState → Bool → Type 0
RestsAs ArrayClosed owed = ⊥
RestsAs ArrayReadAuto owed = ⊤
RestsAs ArrayClean owed = owed ≡ false
RestsAs ArrayPending owed = ⊥
RestsAs ArrayActive owed = ⊥
RestsAs ArrayIdle owed = ⊥

-- each operation was answered, the last round that began has ended, and each started volume is read-auto, or clean with
-- a round begun since
pub record HasComeToRest (start : Start) (ops : List Op) (journal : List Entry) : Type 0 where
  pub answered : (i : ℕ) → i < length ops → has (is_ack_of i) journal ≡ true
  pub recorded : course_of journal ≡ Over
  pub volumes : (v : ℕ) → start.is_started v ≡ true → RestsAs (array_state_of start ops journal v) (is_owed journal v)
