use Rattle.first_opening.proofs.Asked.{asks-first}
use Rattle.first_opening.proofs.the_script_is_taken.Goals as goal

pub returns : goal.returns
returns c = asks-first
