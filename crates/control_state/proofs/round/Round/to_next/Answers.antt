use Rattle.std.proofs.Common.{arith}
use Rattle.control_state.specs.Book.{laid_at}
use Rattle.control_state.specs.Rounds.{round_of}
use Rattle.control_state.specs.Seen.{plan_setting}
use Rattle.control_state.proofs.Rounded.{next_some}
use Rattle.control_state.proofs.round.Round.to_next.Goals as goal

pub returns-then-at-len : goal.returns-then-at-len
returns-then-at-len c =
    next_some (plan_setting c.args.plan.now) (round_of c.args.plan.now c.args.self.now) (laid_at c.args.self.now.next.anchor) c.args.plan.now.targets.items c.args.at
    (omega (arith, c.len.ensures.value, c.if-at-len.true))
