use Rattle.array_causes.proofs.RoundLaw.{rounds_have_causes}
use Rattle.array_causes.proofs.round_causes.Goals as goal

pub returns : goal.returns
returns c S P volumes spares o w run = rounds_have_causes S P volumes spares o w run
