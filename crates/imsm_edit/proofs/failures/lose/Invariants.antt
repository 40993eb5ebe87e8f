use Rattle.std.proofs.Common.{◌≡◌}
use Rattle.imsm_buffer.proofs.Lowered.{changed_to}
use Rattle.imsm_edit.specs.Failures.{lost}
use Rattle.imsm_edit.proofs.failures.lose.Given as goal

abbrev pub invariant-loop-slot : goal.invariant-loop-slot
invariant-loop-slot l = l.slots ≡ changed_to l.slot-index (lost l.i) l.fn.slots
