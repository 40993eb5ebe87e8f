use Rattle.array_causes.proofs.StateLaw.{states_have_causes}
use Rattle.array_causes.proofs.state_causes.Goals as goal

pub returns : goal.returns
returns c S P volumes spares o w run = states_have_causes S P volumes spares o w run
