use Rattle.std.proofs.Common.{take}
use Rattle.generation_pick.proofs.Paired.{TwinIs}
use Rattle.generation_pick.proofs.twins.twin_of.Given as goal

abbrev pub invariant-loop-other : goal.invariant-loop-other
invariant-loop-other l = TwinIs l.entry (take l.other-index l.list) l.least
