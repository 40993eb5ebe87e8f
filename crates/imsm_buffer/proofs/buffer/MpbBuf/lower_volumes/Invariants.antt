use Rattle.imsm_buffer.proofs.Lowered.{AreLowered}
use Rattle.imsm_buffer.proofs.buffer.MpbBuf.lower_volumes.Given as goal

abbrev pub invariant-loop-v : goal.invariant-loop-v
invariant-loop-v l = AreLowered l.v l.i l.fn.self l.self
