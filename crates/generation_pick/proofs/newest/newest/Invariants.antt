use Rattle.std.proofs.Common.{take}
use Rattle.generation_pick.proofs.Leading.{Leads}
use Rattle.generation_pick.proofs.newest.newest.Given as goal

abbrev pub invariant-loop-entry : goal.invariant-loop-entry
invariant-loop-entry l = Leads l.list (take l.entry-index l.list) l.best
