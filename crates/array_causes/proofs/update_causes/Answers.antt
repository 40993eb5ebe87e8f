use Rattle.array_causes.proofs.UpdateLaw.{updates_have_causes}
use Rattle.array_causes.proofs.update_causes.Goals as goal

pub returns : goal.returns
returns c S P volumes spares o w run = updates_have_causes S P volumes spares o w run
