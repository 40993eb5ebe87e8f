use Rattle.array_form.proofs.Runs.{states_counted}
use Rattle.array_form.proofs.states_keep_their_counts.Goals as goal

pub returns : goal.returns
returns c S P volumes spares o w run = states_counted S P volumes spares o w run
