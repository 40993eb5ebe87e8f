-- Two settings in which every turn is the same, and that hold the same when a run begins, have the same honest runs.
use Rattle.std.proofs.Common.{◌≡◌, ℕ, List, Option, Some, None, ap, sym, subst, ◌∙◌}
use Rattle.units.specs.declared.disk.Sector.{Sector}
use Rattle.device_log.specs.Log.{Call}
use Rattle.device_log.specs.Cells.{Cell, resting, cell_after}
use Rattle.stage_machine.specs.Setting.{Setting}
use Rattle.stage_machine.specs.Machine.{Control, Action, Out, World, Reached, opens, goes, Honest, opens_true, goes_true, GaveOf, begins_at, turned, call_of, got_of, after, happens}
use Rattle.stage_machine.proofs.Cells.{cells_after}

pub record Alike (S T : Setting) : Type 0 where
  pub begins : begins_at S ≡ begins_at T
  pub turns : (c : Control) (a : Action) → turned S c a ≡ turned T c a
  pub calls : (c : Control) (a : Action) → call_of S c a ≡ call_of T c a

happens_alike : (S T : Setting) → Alike S T → (w : World) (a : Action) → happens S w a ≡ happens T w a
happens_alike S T alike w a =
    ap (λ (o : Out). after w o (call_of S w.control a)) (alike.turns w.control a) ∙ ap (after w (turned T w.control a)) (alike.calls w.control a)

pub reached_alike : (S T : Setting) → Alike S T → (w : World) → Reached S w → Reached T w
reached_alike S T alike w opens = subst (Reached T) (sym alike.begins) opens
reached_alike S T alike w (goes {w = v} run a) = subst (Reached T) (sym (happens_alike S T alike v a)) (goes (reached_alike S T alike v run) a)

gave_alike : (S T : Setting) → ((d p : ℕ) → S.start.disks.opening d p ≡ T.start.disks.opening d p) → (log : List Call) (got : Sector) (call : Option Call) → GaveOf S log got call → GaveOf T log got call
gave_alike S T same log got None gave = gave
gave_alike S T same log got (Some call) gave = λ place read went.
    gave place read went
    ∙ ap (λ (c : Cell). c.stood)
    (cells_after S.start.words S.start.disks log call.disk place
    ∙ ap (λ (s : Sector). cell_after call.disk place (resting s) log) (same call.disk place)
    ∙ sym (cells_after T.start.words T.start.disks log call.disk place))

pub honest_alike : (S T : Setting) → Alike S T → ((d p : ℕ) → S.start.disks.opening d p ≡ T.start.disks.opening d p) → (w : World) → Honest S w → Honest T w
honest_alike S T alike same w opens_true = subst (Honest T) (sym alike.begins) opens_true
honest_alike S T alike same w (goes_true {w = v} run a true_turn) =
    subst (Honest T) (sym (happens_alike S T alike v a))
    (goes_true (honest_alike S T alike same v run) a
    (gave_alike S T same v.log (got_of a) (call_of T v.control a) (subst (GaveOf S v.log (got_of a)) (alike.calls v.control a) true_turn)))
