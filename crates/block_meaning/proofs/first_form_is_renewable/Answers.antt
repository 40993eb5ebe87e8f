use Rattle.block_meaning.proofs.Renewal.{first-form}
use Rattle.block_meaning.proofs.first_form_is_renewable.Goals as goal

pub returns : goal.returns
returns c = first-form
