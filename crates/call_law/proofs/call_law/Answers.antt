use Rattle.call_law.proofs.Calls.{few_reached}
use Rattle.call_law.proofs.call_law.Goals as goal

pub returns : goal.returns
returns c S w b renews on rounds writes fits r = few_reached S renews on b rounds writes w fits r
