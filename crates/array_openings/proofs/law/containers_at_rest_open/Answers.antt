use Rattle.array_openings.proofs.Rests.{rest_opens}
use Rattle.array_openings.proofs.law.containers_at_rest_open.Goals as goal

pub returns : goal.returns
returns c = rest_opens
