use Rattle.std.proofs.Common.{arith}
use Rattle.control_state.proofs.Members.{still_syncing}
use Rattle.control_state.proofs.plan.Plan.after_sync.Goals as goal

pub returns-then-rest-len : goal.returns-then-rest-len
returns-then-rest-len c = λ read. still_syncing c.args.self.now.members.items c.args.rest (omega (arith, c.len.ensures.value, c.if-rest-len.true))
