use Rattle.array_edits.proofs.NewBlocks.{created_formed, created_laid}
use Rattle.array_edits.proofs.created.created_blocks_are_formed.Goals as goal

pub returns : goal.returns
returns c = record { formed = created_formed; laid = created_laid }
