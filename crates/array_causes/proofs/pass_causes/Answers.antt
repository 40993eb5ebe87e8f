use Rattle.array_causes.proofs.PassLaw.{passes_have_causes}
use Rattle.array_causes.proofs.pass_causes.Goals as goal

pub returns : goal.returns
returns c S P volumes spares o w run = passes_have_causes S P volumes spares o w run
