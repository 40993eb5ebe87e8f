use Rattle.array_base.proofs.Runs.{each_world_has, working_hold}
use Rattle.array_base.proofs.working_disks_hold_metadata.Goals as goal

pub returns : goal.returns
returns c S P volumes spares o w run = working_hold S P w (each_world_has S P volumes spares o w run).base
