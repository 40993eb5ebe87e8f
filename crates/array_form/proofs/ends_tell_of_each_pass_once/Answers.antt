use Rattle.array_form.proofs.Words.{words_counted}
use Rattle.array_form.proofs.ends_tell_of_each_pass_once.Goals as goal

pub returns : goal.returns
returns c S P volumes spares o w run = words_counted S P volumes spares o w run
