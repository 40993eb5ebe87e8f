use Rattle.run_script.proofs.WrongWords.{first_wrong_word}
use Rattle.run_script.proofs.law.first_wrong_word.Goals as goal

pub returns : goal.returns
returns c = first_wrong_word
