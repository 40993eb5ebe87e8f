use Rattle.array_failures.proofs.WholeLaw.{law_given_units}
use Rattle.array_units.proofs.Runs.{rounds_count}
use Rattle.array_units.proofs.each_run_meets_the_failure_law.Goals as goal

pub returns : goal.returns
returns c S P volumes spares o w run units apart =
    law_given_units S P volumes spares o w run (rounds_count S P units apart volumes spares o w run)
