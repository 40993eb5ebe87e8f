use Rattle.array_base.proofs.ToyOpens.{toy_premises, toy_opening}
use Rattle.array_base.proofs.the_premises_can_be_met.Goals as goal

pub returns : goal.returns
returns c = (toy_premises, toy_opening)
