use Rattle.stage_machine.proofs.Failed.{ends_reached}
use Rattle.failure_law.proofs.Failures.{failures_reached}
use Rattle.failure_law.proofs.failure_law.Goals as goal

pub returns-clause-law : goal.returns-clause-law
returns-clause-law c S w renews on volume fits r = failures_reached S renews on volume w fits r

pub returns-clause-ends : goal.returns-clause-ends
returns-clause-ends c S w r = ends_reached S w r
