use Rattle.first_opening.proofs.Found.{bytes-are, targets-are, stands-on-all}
use Rattle.first_opening.proofs.the_newest_block_stands_on_all.Goals as goal

pub returns : goal.returns
returns c = record { bytes = bytes-are; targets = targets-are; stands = stands-on-all }
