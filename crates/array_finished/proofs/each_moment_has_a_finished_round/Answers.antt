use Rattle.array_finished.proofs.Law.{run_keeps}
use Rattle.array_finished.proofs.each_moment_has_a_finished_round.Goals as goal

pub returns : goal.returns
returns c S P volumes spares opening w run = (run_keeps S P volumes spares opening w run).law
