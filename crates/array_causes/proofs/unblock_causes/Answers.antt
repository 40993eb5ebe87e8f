use Rattle.array_causes.proofs.UnblockLaw.{unblocks_are_recorded}
use Rattle.array_causes.proofs.unblock_causes.Goals as goal

pub returns : goal.returns
returns c S P volumes spares o w run = unblocks_are_recorded S P volumes spares o w run
