-- How a law follows a run where it asks what a change leans on: as along other runs (array_paths), with the link that
-- the change before left. Source: this project's own.
use Rattle.std.specs.Prelude.{⊤, ℕ, ◌+◌, List, Option}
use Rattle.device_log.specs.Log.{Call}
use Rattle.array_model.specs.Renewal.{FitsGeneration}
use Rattle.array_machine.specs.Setting.{Setting}
use Rattle.array_machine.specs.Volumes.{Volume}
use Rattle.array_machine.specs.Rounds.{Ended}
use Rattle.array_machine.specs.Changes.{Change}
use Rattle.array_machine.specs.Machine.{Actor, Monitor, World, begins_at, Reached, opens, goes}
use Rattle.array_paths.specs.InTurn.{InTurn}
use Rattle.array_paths.specs.Effects.{Effect, after_effect}
use Rattle.array_paths.specs.Ready.{Ready}
use Rattle.array_paths.specs.Follows.{in_turn}
use Rattle.array_base.specs.Premises.{Premises}
use Rattle.array_base.specs.Opening.{Opening}
use Rattle.array_base.specs.Base.{Base}
use Rattle.array_causes.specs.Links.{Link, First, link_after, Leans, IsFirst, IsSettled}

-- each actor that took a turn in a run is one of these
abbrev pub AllActors : (S : Setting) (volumes : List Volume) (spares : List ℕ) → (Actor → Type 0) → (w : World)
    → Reached S volumes spares w → Type 0
AllActors S volumes spares A w opens = ⊤
AllActors S volumes spares A w (goes {w = before} run a fits) = A a.actor × AllActors S volumes spares A before run

-- an effect behind a link, with what holds of the control state and the disks before it
pub record OverLink (S : Setting) (P : Premises S) (t : InTurn) (link : Link) (w : World) (call : Option Call)
    (x : Ended) (a : Change) : Type 0 where
  pub first : IsFirst link call
  pub leans : Leans S t.before link a
  pub fits : FitsGeneration (t.before.round.note + 1)
  pub effect : Effect S t w.control call x a
  pub base : Base S P w.log w.control
  pub ready : Ready S w.control

-- a fact that a law follows along runs whose actors are some
pub record FollowsLinks (S : Setting) (P : Premises S) (volumes : List Volume) (spares : List ℕ) (A : Actor → Type 0)
    (Q : InTurn → Link → World → Type 0) : Type 0 where
  pub opens : Q (in_turn (begins_at S volumes spares).control Monitor) First (begins_at S volumes spares)
  pub begins : (t : InTurn) (link : Link) (w : World) (who : Actor) → A who → IsSettled link → Q t link w
      → Q (in_turn w.control who) First w
  pub step : (t : InTurn) (link : Link) (w : World) (call : Option Call) (x : Ended) (a : Change)
      → OverLink S P t link w call x a → Q t link w → Q t (link_after link a) (after_effect S w call a)

-- of each world of each run whose premises and opening are given, where the actors are some
abbrev pub OfEachRunBy : (S : Setting) → Premises S → (Actor → Type 0) → (World → Type 0) → Type 0
OfEachRunBy S P A Law =
    (volumes : List Volume) (spares : List ℕ) → Opening S P volumes spares → (w : World)
    → (run : Reached S volumes spares w) → AllActors S volumes spares A w run → Law w
