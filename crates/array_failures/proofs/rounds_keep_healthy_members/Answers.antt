use Rattle.array_failures.proofs.RoundRuns.{rounds_keep}
use Rattle.array_failures.proofs.rounds_keep_healthy_members.Goals as goal

pub returns : goal.returns
returns c S P volumes spares o w run = rounds_keep S P volumes spares o w run
