use Rattle.std.proofs.Common.{arith}
use Rattle.control_state.specs.Seen.{plan_setting}
use Rattle.control_state.proofs.Members.{still_writing}
use Rattle.control_state.proofs.plan.Plan.after_write.Goals as goal

pub returns-then-rest-len : goal.returns-then-rest-len
returns-then-rest-len c = λ read. still_writing (plan_setting c.args.self.now) c.args.self.now.members.items c.args.rest (omega (arith, c.len.ensures.value, c.if-rest-len.true))
