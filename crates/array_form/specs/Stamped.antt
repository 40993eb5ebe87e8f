-- The form of a run's journal but for its counts. Source: this project's own.
use Rattle.std.specs.Prelude.{ℕ, List}
use Rattle.std.specs.List.{AllByRecursion}
use Rattle.array_model.specs.declared.script.Op.{Op}
use Rattle.array_model.specs.declared.journal.Entry.{Entry}
use Rattle.array_model.specs.Form.{RisesFrom, NamesOp}
use Rattle.array_model.specs.Moments.{AllBelow}

-- stamps never fall, and are no higher than the calls made; submits and acks name operations of the script
pub record IsStamped (ops : List Op) (calls : ℕ) (journal : List Entry) : Type 0 where
  pub rises : RisesFrom 0 journal
  pub stamped : AllBelow calls journal
  pub named : AllByRecursion (λ e. NamesOp ops e.event) journal
