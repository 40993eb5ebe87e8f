use Rattle.array_openings.proofs.SpareBlocks.{spare_is}
use Rattle.array_openings.proofs.law.spare_blocks_are_whole.Goals as goal

pub returns : goal.returns
returns c = spare_is
