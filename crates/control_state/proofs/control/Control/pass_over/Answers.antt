use Rattle.std.proofs.Common.{◌<◌, List, length, get_or, ap, arith}
use Rattle.stage_machine.specs.Jobs as jobs
use Rattle.control_state.specs.Controls.{control_of}
use Rattle.control_state.proofs.Passed.{moved_same, passed_same}
use Rattle.control_state.proofs.control.Control.pass_over.Goals as goal

pub returns : goal.returns
returns c =
    let p = c.args.plan.now in
    let cs = c.args.self.now.clients in
    let below : c.args.k < length cs = omega (arith, c.if-k-ge-CLIENTS.false) in
    ap (λ (xs : List jobs.Client). record (control_of p c.args.self.now) { clients = xs })
    (passed_same p cs c.args.k _ _ below (moved_same p (get_or cs c.args.k _) c.deref.result.now c.next_place-next.result c.deref.ensures.value c.next_place-next.ensures))
