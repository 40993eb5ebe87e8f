use Rattle.std.proofs.Common.{◌<◌, ◌+◌, ℕ, ◌∷◌, length, sym, ap, ◌∙◌, arith}
use Rattle.stage_machine.specs.Machine.{submit_next}
use Rattle.control_state.specs.Seen.{left_from, plan_setting}
use Rattle.control_state.specs.Controls.{control_of}
use Rattle.control_state.proofs.Clients.{number_at}
use Rattle.control_state.proofs.Submitted.{left_at, left_is}
use Rattle.control_state.proofs.control.Control.submit.Goals as goal

pub returns-in-Some : goal.returns-in-Some
returns-in-Some c =
    let S = plan_setting c.args.plan.now in
    let C = control_of c.args.plan.now c.args.self.now in
    let below : c.args.k < length c.args.self.now.clients = omega (arith, c.requires) in
    c.submit_op.ensures
    ∙ sym (ap (submit_next S C c.args.k)
    (left_at c.args.plan.now c.args.self.now.clients c.args.k _ below
    ∙ left_is c.args.plan.now.ops.items c.deref.result.now _ _ c.in-Some.op c.deref.ensures.value c.in-Some.ensures.some.1
    ∙ ap (λ (n : ℕ). c.in-Some.op ∷ left_from c.args.plan.now.ops.items n (c.in-Some.op + 1)) (sym (number_at c.args.self.now.clients c.args.k _ below))))
