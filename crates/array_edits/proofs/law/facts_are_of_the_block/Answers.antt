use Rattle.array_edits.proofs.Given.{facts_are}
use Rattle.array_edits.proofs.law.facts_are_of_the_block.Goals as goal

pub returns : goal.returns
returns c = facts_are
