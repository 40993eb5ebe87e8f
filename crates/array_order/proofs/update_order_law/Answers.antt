use Rattle.array_order.proofs.Runs.{updates_in_order}
use Rattle.array_order.proofs.update_order_law.Goals as goal

pub returns : goal.returns
returns c S P volumes spares o w run = updates_in_order S P volumes spares o w run
