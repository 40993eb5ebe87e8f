use Rattle.std.proofs.Common.{sym, ◌∙◌}
use Rattle.stage_machine.specs.Machine.{Asks}
use Rattle.control_state.specs.Seen.{plan_setting}
use Rattle.control_state.specs.Controls.{control_of}
use Rattle.control_state.proofs.Stillness.{live_seen, live_still}
use Rattle.control_state.proofs.control.Control.client_is_still.Goals as goal

pub returns-else-is_some-clause-still : goal.returns-else-is_some-clause-still
returns-else-is_some-clause-still c = λ x. λ got.
    live_still (plan_setting c.args.plan.now) (control_of c.args.plan.now c.args.self.now) (Asks c.args.k x got) _
    (live_seen c.args.self.now.failed (sym c.is_some.ensures ∙ c.if-is_some.false)) (c.client_waits.ensures x got)
