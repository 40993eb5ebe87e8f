use Rattle.array_gate.proofs.Gate.{run_keeps}
use Rattle.array_gate.proofs.live_volumes_stay_dirty.Goals as goal

pub returns : goal.returns
returns c = record {
  blocks = λ S P volumes spares opening w run. (run_keeps S P volumes spares opening w run).live;
  writers = λ S P volumes spares opening w run. (run_keeps S P volumes spares opening w run).writers;
}
