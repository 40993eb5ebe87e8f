use Rattle.block_meaning.proofs.Renewal.{renewal}
use Rattle.first_opening.proofs.Found.{renewable, round-edits}
use Rattle.first_opening.proofs.each_round_renews.Goals as goal

pub returns : goal.returns
returns c = record { renewable = renewable; edited = round-edits; renews = λ o asked content unsure. renewal }
