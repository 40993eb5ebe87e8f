use Rattle.std.proofs.Common.{arith}
use Rattle.std.proofs.lemmas.Bool.Decides.{nat_tests}
use Rattle.first_opening.proofs.the_first_volume_starts_alone.Goals as goal

pub returns : goal.returns
returns c o asked content unsure v is = grind (arith, nat_tests, is)
