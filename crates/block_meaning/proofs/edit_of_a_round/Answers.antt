use Rattle.block_meaning.proofs.Renewal.{renewal}
use Rattle.block_meaning.proofs.edit_of_a_round.Goals as goal

pub returns : goal.returns
returns c = renewal
