use Rattle.imsm_buffer.proofs.Lowered.{IsLowered}
use Rattle.imsm_buffer.proofs.buffer.MpbBuf.lower_map.Given as goal

abbrev pub invariant-loop-slot : goal.invariant-loop-slot
invariant-loop-slot l = IsLowered l.v.0 l.m l.slot l.i l.fn.self l.self
