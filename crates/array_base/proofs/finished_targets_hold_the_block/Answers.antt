use Rattle.array_base.proofs.Runs.{each_world_has, finished_hold}
use Rattle.array_base.proofs.finished_targets_hold_the_block.Goals as goal

pub returns : goal.returns
returns c S P volumes spares o w run = finished_hold S P w (each_world_has S P volumes spares o w run).base
