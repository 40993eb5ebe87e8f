use Rattle.std.proofs.Common.{◌≡◌}
use Rattle.control_state.specs.Seen.{left_from}
use Rattle.control_state.proofs.client.next_op.Given as goal

abbrev pub invariant-loop-i : goal.invariant-loop-i
invariant-loop-i l = left_from l.ops l.client l.fn.from ≡ left_from l.ops l.client l.i
