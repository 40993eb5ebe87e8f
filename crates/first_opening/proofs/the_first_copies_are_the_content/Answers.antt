use Rattle.first_opening.proofs.Copies.{copies-are-held}
use Rattle.first_opening.proofs.the_first_copies_are_the_content.Goals as goal

pub returns : goal.returns
returns c = copies-are-held
