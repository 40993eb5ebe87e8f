use Rattle.std.proofs.Common.{sym, ◌∙◌}
use Rattle.control_state.proofs.Held.{locked_on, locked_here}
use Rattle.control_state.proofs.client.is_locked.Goals as goal

pub loop-j-preserved : goal.loop-j-preserved
loop-j-preserved c =
    c.loop-j.invariant
    ∙ locked_on c.args.plan.now c.args.row c.args.but c.loop-j.j c.args.clients.now _ c.loop-j-test.true (sym c.locks.ensures ∙ c.if-locks.false)

pub returns-then-locks : goal.returns-then-locks
returns-then-locks c =
    sym (c.loop-j.invariant
    ∙ locked_here c.args.plan.now c.args.row c.args.but c.loop-j.j c.args.clients.now _ c.loop-j-test.true (sym c.locks.ensures ∙ c.if-locks.true))
