use Rattle.cause_law.proofs.Short.{short_reached}
use Rattle.cause_law.proofs.short_law.Goals as goal

pub returns : goal.returns
returns c S w asks renews on fits r = short_reached S asks renews on w fits r
