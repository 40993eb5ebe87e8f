use Rattle.std.proofs.Common.{sym, ◌∙◌}
use Rattle.control_state.proofs.Passed.{left_end}
use Rattle.control_state.proofs.client.next_place.Goals as goal

pub returns-in-None : goal.returns-in-None
returns-in-None c = left_end c.args.ops.now c.args.client ∙ sym c.in-None.ensures.none
