use Rattle.array_gate.proofs.Gate.{run_keeps}
use Rattle.array_gate.proofs.each_run_meets_the_write_gate.Goals as goal

pub returns : goal.returns
returns c S P volumes spares opening w run = (run_keeps S P volumes spares opening w run).law
