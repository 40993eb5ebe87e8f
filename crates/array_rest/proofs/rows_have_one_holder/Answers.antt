use Rattle.array_rest.proofs.Reach.{each_leaves}
use Rattle.array_rest.proofs.rows_have_one_holder.Goals as goal

pub returns : goal.returns
returns c S P volumes spares o w run = (each_leaves S P volumes spares o w run).kept.locks
