use Rattle.first_opening.proofs.Copies.{holds-content}
use Rattle.first_opening.proofs.the_members_hold_the_content.Goals as goal

pub returns : goal.returns
returns c = holds-content
