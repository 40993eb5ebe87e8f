-- The form of a journal. Source: this project's own.
use Rattle.std.specs.Prelude.{ℕ, ◌<◌, ◌≤◌, List, [], ◌∷◌, length, ⊤}
use Rattle.std.specs.List.{AllByRecursion}
use Rattle.array_model.specs.declared.script.Op.{Op}
use Rattle.array_model.specs.declared.journal.Entry.{Entry}
use Rattle.array_model.specs.declared.journal.Event.{Event}
use Rattle.array_model.specs.declared.journal.Event.TheVariants.{Submit, Ack}
use Rattle.array_model.specs.Script.{Asked}
use Rattle.array_model.specs.Moments.{AllBelow}
use Rattle.array_model.specs.Counts.{KeepsCounts}
use Rattle.array_model.specs.Start.{Start}

-- stamps never fall
abbrev pub RisesFrom : ℕ → List Entry → Type 0
RisesFrom n [] = ⊤
RisesFrom n (e ∷ es) = (n ≤ e.stamp) × RisesFrom e.stamp es

-- a submit and an ack name an operation of the script
abbrev pub NamesOp : List Op → Event → Type 0
NamesOp ops (Submit i) = i < length ops
NamesOp ops (Ack i answer) = i < length ops
NamesOp ops _ = ⊤

-- a journal of a run that made so many calls
pub record IsJournal (start : Start) (asked : Asked) (calls : ℕ) (journal : List Entry) : Type 0 where
  pub rises : RisesFrom 0 journal
  pub stamped : AllBelow calls journal
  pub named : AllByRecursion (λ e. NamesOp asked.ops e.event) journal
  pub counts : KeepsCounts start asked journal
