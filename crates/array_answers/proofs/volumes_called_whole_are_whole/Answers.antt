use Rattle.array_answers.proofs.WholeRuns.{dones_are_whole}
use Rattle.array_answers.proofs.volumes_called_whole_are_whole.Goals as goal

pub returns : goal.returns
returns c S P volumes spares opening w run = dones_are_whole S P volumes spares opening w run
