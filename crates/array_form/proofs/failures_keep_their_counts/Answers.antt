use Rattle.array_form.proofs.Runs.{failures_counted}
use Rattle.array_form.proofs.failures_keep_their_counts.Goals as goal

pub returns : goal.returns
returns c S P volumes spares o w run = failures_counted S P volumes spares o w run
