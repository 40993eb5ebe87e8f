use Rattle.array_openings.proofs.Finds.{opens}
use Rattle.array_openings.proofs.law.real_containers_open.Goals as goal

pub returns : goal.returns
returns c S o f = opens S o f
