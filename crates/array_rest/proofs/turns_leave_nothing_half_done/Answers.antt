use Rattle.array_rest.proofs.Reach.{each_leaves}
use Rattle.array_rest.proofs.turns_leave_nothing_half_done.Goals as goal

pub returns : goal.returns
returns c S P volumes spares o w run = (each_leaves S P volumes spares o w run).over
