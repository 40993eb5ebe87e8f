use Rattle.std.proofs.Common.{take}
use Rattle.generation_pick.proofs.Paired.{FirstIs}
use Rattle.generation_pick.proofs.twins.first_twins.Given as goal

abbrev pub invariant-loop-entry : goal.invariant-loop-entry
invariant-loop-entry l = FirstIs l.list (take l.entry-index l.list) l.first
