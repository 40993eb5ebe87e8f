use Rattle.cause_law.proofs.Law.{caused_reached}
use Rattle.cause_law.proofs.cause_law.Goals as goal

pub returns : goal.returns
returns c S w asks renews on volume fits r = caused_reached S asks renews on volume w fits r
