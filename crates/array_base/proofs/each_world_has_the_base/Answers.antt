use Rattle.array_base.proofs.Runs.{each_world_has}
use Rattle.array_base.proofs.each_world_has_the_base.Goals as goal

pub returns : goal.returns
returns c S P volumes spares o w run = let had = each_world_has S P volumes spares o w run in (had.base, had.ready)
