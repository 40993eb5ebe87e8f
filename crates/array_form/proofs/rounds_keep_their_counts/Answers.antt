use Rattle.array_form.proofs.Spares.{rounds_counted}
use Rattle.array_form.proofs.rounds_keep_their_counts.Goals as goal

pub returns : goal.returns
returns c S P volumes spares o w run = rounds_counted S P volumes spares o w run
