use Rattle.std.proofs.Common.{◌≡◌, take}
use Rattle.image_assemble.proofs.assembling.serials_of.Given as goal

abbrev pub invariant-loop-d : goal.invariant-loop-d
invariant-loop-d g l = l.serials.items ≡ take l.d (g.B.Bank.serials l.bank)
