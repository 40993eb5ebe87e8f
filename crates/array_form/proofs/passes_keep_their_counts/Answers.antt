use Rattle.array_form.proofs.PassRuns.{passes_counted}
use Rattle.array_form.proofs.passes_keep_their_counts.Goals as goal

pub returns : goal.returns
returns c S P volumes spares o w run = passes_counted S P volumes spares o w run
