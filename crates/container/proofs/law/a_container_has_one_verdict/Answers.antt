use Rattle.container.proofs.OneVerdict.{one_verdict}
use Rattle.container.proofs.law.a_container_has_one_verdict.Goals as goal

pub returns : goal.returns
returns c = one_verdict
