use Rattle.array_order.proofs.Runs.{asks_in_order}
use Rattle.array_order.proofs.client_order_law.Goals as goal

pub returns : goal.returns
returns c S P volumes spares o w run = asks_in_order S P volumes spares o w run
