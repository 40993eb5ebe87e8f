-- How a law follows a run: a fact of the turn and of the world holds when a run begins, is kept when the next turn
-- begins, and is kept by each effect. Source: this project's own.
use Rattle.std.specs.Prelude.{ℕ, ◌+◌, List, [], ◌∷◌, Option, None}
use Rattle.device_log.specs.Log.{Call}
use Rattle.array_model.specs.Renewal.{FitsGeneration}
use Rattle.array_machine.specs.Setting.{Setting}
use Rattle.array_machine.specs.Volumes.{Volume}
use Rattle.array_machine.specs.Rounds.{Ended}
use Rattle.array_machine.specs.Control.{Control}
use Rattle.array_machine.specs.Changes.{Change}
use Rattle.array_machine.specs.Machine.{Actor, Action, turn, World, begins_at}
use Rattle.array_paths.specs.InTurn.{InTurn}
use Rattle.array_paths.specs.Effects.{Effect, Path, after_effect}
use Rattle.array_paths.specs.Ready.{Ready}
use Rattle.array_paths.specs.Honest.{GaveWhatStood}

-- the turn of an actor that begins now
abbrev pub in_turn : Control → Actor → InTurn
in_turn c who = record { who = who; before = c }

-- the turn of an action is a path
abbrev pub TurnPath : Setting → Control → Action → Type 0
TurnPath S c a = Path S (in_turn c a.actor) c (turn S c a).call (turn S c a).ended (turn S c a).changes

-- each turn is, from a control state that is ready for it, as long as the next generation has its place
abbrev pub TurnsArePaths : Setting → Type 0
TurnsArePaths S = (c : Control) → Ready S c → (a : Action) → FitsGeneration (c.round.note + 1) → TurnPath S c a

-- effects one after the other: the call, if there is one, comes with the first
abbrev pub followed : Setting → World → Option Call → List Change → World
followed S w call [] = w
followed S w call (a ∷ more) = followed S (after_effect S w call a) None more

-- A fact that a law follows along each run. Within a turn the control state that it began with is at hand, and that the
-- next generation had its place then.
pub record Follows (S : Setting) (volumes : List Volume) (spares : List ℕ) (P : InTurn → World → Type 0) : Type 0 where
  pub opens : (who : Actor) → P (in_turn (begins_at S volumes spares).control who) (begins_at S volumes spares)
  pub begins : (t : InTurn) (w : World) (who : Actor) → P t w → P (in_turn w.control who) w
  pub ready : (t : InTurn) (w : World) → P t w → Ready S w.control
  pub step : (t : InTurn) (w : World) (call : Option Call) (x : Ended) (a : Change)
      → FitsGeneration (t.before.round.note + 1) → Effect S t w.control call x a → P t w → P t (after_effect S w call a)

-- the same along runs whose reads gave what stood there
pub record FollowsHonest (S : Setting) (volumes : List Volume) (spares : List ℕ) (P : InTurn → World → Type 0) : Type 0
  where
    pub opens : (who : Actor) → P (in_turn (begins_at S volumes spares).control who) (begins_at S volumes spares)
    pub begins : (t : InTurn) (w : World) (who : Actor) → P t w → P (in_turn w.control who) w
    pub ready : (t : InTurn) (w : World) → P t w → Ready S w.control
    pub step : (t : InTurn) (w : World) (call : Option Call) (x : Ended) (a : Change)
        → FitsGeneration (t.before.round.note + 1) → Effect S t w.control call x a → GaveWhatStood S w.log call x
        → P t w → P t (after_effect S w call a)
