use Rattle.std.proofs.Common.{◌∙◌}
use Rattle.control_state.proofs.Left.{left_here, left_on}
use Rattle.control_state.proofs.client.next_op.Goals as goal

pub returns-then-ops-i-clause-some : goal.returns-then-ops-i-clause-some
returns-then-ops-i-clause-some c =
    (c.loop-i-test.true, c.loop-i.invariant ∙ left_here c.args.ops.now c.args.client c.loop-i.i _ c.loop-i-test.true c.if-ops-i.true)

pub loop-i-preserved : goal.loop-i-preserved
loop-i-preserved c = c.loop-i.invariant ∙ left_on c.args.ops.now c.args.client c.loop-i.i _ c.loop-i-test.true c.if-ops-i.false
