use Rattle.std.proofs.Common.{◌<◌, List, ℕ, length, sym, ap, ◌∙◌, arith}
use Rattle.stage_machine.specs.Machine.{submit_next}
use Rattle.control_state.specs.Seen.{plan_setting}
use Rattle.control_state.specs.Controls.{control_of}
use Rattle.control_state.specs.Still.{is_silent}
use Rattle.control_state.proofs.Submitted.{left_at, left_is}
use Rattle.control_state.proofs.control.Control.is_silent_submit.Goals as goal

pub returns-in-Some : goal.returns-in-Some
returns-in-Some c =
    let S = plan_setting c.args.plan.now in
    let C = control_of c.args.plan.now c.args.self.now in
    let below : c.args.k < length c.args.self.now.clients = omega (arith, c.requires) in
    c.is_silent_op.ensures c.args.k _
    ∙ sym (ap (λ (left : List ℕ). is_silent (submit_next S C c.args.k left).events)
    (left_at c.args.plan.now c.args.self.now.clients c.args.k _ below
    ∙ left_is c.args.plan.now.ops.items c.deref.result.now _ _ c.in-Some.op c.deref.ensures.value c.in-Some.ensures.some.1))
