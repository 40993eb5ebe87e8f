-- How a law follows a run over the base fact: at each effect it may use what holds of the disks before the call, behind
-- it, and behind the change. Source: this project's own.
use Rattle.std.specs.Prelude.{ℕ, ◌+◌, List, [], ◌∷◌, Option}
use Rattle.device_log.specs.Log.{Call}
use Rattle.array_model.specs.Renewal.{FitsGeneration}
use Rattle.array_machine.specs.Setting.{Setting}
use Rattle.array_machine.specs.Volumes.{Volume}
use Rattle.array_machine.specs.Rounds.{Ended}
use Rattle.array_machine.specs.Changes.{Change}
use Rattle.array_machine.specs.Puts.{put}
use Rattle.array_machine.specs.Machine.{Actor, Action, turn, World, begins_at, log_after, Reached}
use Rattle.array_paths.specs.InTurn.{InTurn}
use Rattle.array_paths.specs.Effects.{Effect, after_effect}
use Rattle.array_paths.specs.Follows.{in_turn}
use Rattle.array_paths.specs.Honest.{GaveWhatStood, HonestRun}
use Rattle.array_paths.specs.Ready.{Ready}
use Rattle.array_base.specs.Premises.{Premises}
use Rattle.array_base.specs.Opening.{Opening}
use Rattle.array_base.specs.CallDoes.{CallDoes}
use Rattle.array_base.specs.Base.{disks_by, Base, BaseAfterCall}

-- an effect between two worlds, with what holds there
pub record OverBase (S : Setting) (P : Premises S) (t : InTurn) (w : World) (call : Option Call) (x : Ended)
    (a : Change) : Type 0 where
  pub fits : FitsGeneration (t.before.round.note + 1)
  pub effect : Effect S t w.control call x a
  pub before : Base S P w.log w.control
  pub ready : Ready S w.control
  pub does : CallDoes S w.control.round.phase (disks_by S w.log) (disks_by S (log_after w.log call))
  pub between : BaseAfterCall S P (log_after w.log call) w.control
  pub behind : Base S P (log_after w.log call) (put S a w.control)

-- A fact of the turn and of the world: it holds when a run begins, is kept when the next turn begins, and is kept by
-- each effect.
pub record FollowsBase (S : Setting) (P : Premises S) (volumes : List Volume) (spares : List ℕ)
    (Q : InTurn → World → Type 0) : Type 0 where
  pub opens : (who : Actor) → Q (in_turn (begins_at S volumes spares).control who) (begins_at S volumes spares)
  pub begins : (t : InTurn) (w : World) (who : Actor) → Q t w → Q (in_turn w.control who) w
  pub step : (t : InTurn) (w : World) (call : Option Call) (x : Ended) (a : Change) → OverBase S P t w call x a
      → Q t w → Q t (after_effect S w call a)

-- the same along runs whose reads gave what stood there
pub record FollowsBaseHonest (S : Setting) (P : Premises S) (volumes : List Volume) (spares : List ℕ)
    (Q : InTurn → World → Type 0) : Type 0 where
  pub opens : (who : Actor) → Q (in_turn (begins_at S volumes spares).control who) (begins_at S volumes spares)
  pub begins : (t : InTurn) (w : World) (who : Actor) → Q t w → Q (in_turn w.control who) w
  pub step : (t : InTurn) (w : World) (call : Option Call) (x : Ended) (a : Change) → OverBase S P t w call x a
      → GaveWhatStood S w.log call x → Q t w → Q t (after_effect S w call a)

-- of each world of each run whose premises and opening are given
abbrev pub OfEachWorld : ((S : Setting) → Premises S → World → Type 0) → Type 0
OfEachWorld Law =
    (S : Setting) (P : Premises S) (volumes : List Volume) (spares : List ℕ) → Opening S P volumes spares
    → (w : World) → Reached S volumes spares w → Law S P w

-- of each world of each such run whose reads gave what stood there
abbrev pub OfEachHonestWorld : ((S : Setting) → Premises S → World → Type 0) → Type 0
OfEachHonestWorld Law =
    (S : Setting) (P : Premises S) (volumes : List Volume) (spares : List ℕ) → Opening S P volumes spares
    → (w : World) → HonestRun S volumes spares w → Law S P w

-- WITH THE REST OF A TURN

-- A fact of the turn, of the world, and of the changes that the turn has still to make; between turns there are none. So
-- a law may rest on the order in which a turn makes its changes.
pub record FollowsRest (S : Setting) (P : Premises S) (volumes : List Volume) (spares : List ℕ)
    (Q : InTurn → World → List Change → Type 0) : Type 0 where
  pub opens : (who : Actor) → Q (in_turn (begins_at S volumes spares).control who) (begins_at S volumes spares) []
  pub begins : (t : InTurn) (w : World) (a : Action) → Q t w []
      → Q (in_turn w.control a.actor) w (turn S w.control a).changes
  pub step : (t : InTurn) (w : World) (call : Option Call) (x : Ended) (a : Change) (more : List Change)
      → OverBase S P t w call x a → Q t w (a ∷ more) → Q t (after_effect S w call a) more
