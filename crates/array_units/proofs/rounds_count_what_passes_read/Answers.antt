use Rattle.array_units.proofs.Runs.{rounds_count}
use Rattle.array_units.proofs.rounds_count_what_passes_read.Goals as goal

pub returns : goal.returns
returns c S P volumes spares o w run units apart = rounds_count S P units apart volumes spares o w run
