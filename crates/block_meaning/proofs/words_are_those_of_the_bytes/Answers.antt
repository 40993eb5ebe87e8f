use Rattle.block_meaning.proofs.Words.{reads_blocks}
use Rattle.block_meaning.proofs.words_are_those_of_the_bytes.Goals as goal

pub returns : goal.returns
returns c = reads_blocks
