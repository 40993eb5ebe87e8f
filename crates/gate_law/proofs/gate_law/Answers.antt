use Rattle.gate_law.proofs.Gate.{gate_reached}
use Rattle.gate_law.proofs.gate_law.Goals as goal

pub returns : goal.returns
returns c S w asks renews on volume fits r = gate_reached S asks renews on volume w fits r
