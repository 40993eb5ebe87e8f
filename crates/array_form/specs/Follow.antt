-- How a law follows a run that asks of each change what it stands behind in its turn. Source: this project's own.
use Rattle.std.specs.Prelude.{List, [], ◌∷◌, Option, Some, None}
use Rattle.device_log.specs.Log.{Call}
use Rattle.array_machine.specs.Setting.{Setting}
use Rattle.array_machine.specs.Volumes.{Volume}
use Rattle.std.specs.Prelude.{ℕ}
use Rattle.array_machine.specs.Rounds.{Ended}
use Rattle.array_machine.specs.Changes.{Change}
use Rattle.array_machine.specs.Machine.{Actor, Monitor, World, begins_at}
use Rattle.array_paths.specs.InTurn.{InTurn}
use Rattle.array_paths.specs.Effects.{after_effect}
use Rattle.array_paths.specs.Follows.{in_turn}
use Rattle.array_base.specs.Premises.{Premises}
use Rattle.array_base.specs.Laws.{OverBase}
use Rattle.array_form.specs.Behind.{Behind}

-- A fact of the turn, of the change that was made last in it, of those still to come, and of the world: it holds when a
-- run begins, is kept when the next turn begins, whatever its changes, and is kept by each effect.
pub record FollowsTurns (S : Setting) (P : Premises S) (volumes : List Volume) (spares : List ℕ)
    (Q : InTurn → Option Change → List Change → World → Type 0) : Type 0 where
  pub opens : Q (in_turn (begins_at S volumes spares).control Monitor) None [] (begins_at S volumes spares)
  pub begins : (t : InTurn) (prev : Option Change) (w : World) (who : Actor) (more : List Change) → Q t prev [] w
      → Q (in_turn w.control who) None more w
  pub step : (t : InTurn) (prev : Option Change) (more : List Change) (w : World) (call : Option Call) (x : Ended)
      (a : Change) → OverBase S P t w call x a → Behind S t.before w.control prev more a → Q t prev (a ∷ more) w
      → Q t (Some a) more (after_effect S w call a)
