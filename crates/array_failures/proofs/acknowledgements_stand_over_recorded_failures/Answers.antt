use Rattle.array_failures.proofs.AckRuns.{acks_stand}
use Rattle.array_failures.proofs.acknowledgements_stand_over_recorded_failures.Goals as goal

pub returns : goal.returns
returns c S P volumes spares o w run = acks_stand S P volumes spares o w run
