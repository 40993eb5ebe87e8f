use Rattle.rest_law.proofs.Halts.{ended}
use Rattle.rest_law.proofs.Durable.{durably_clean}
use Rattle.rest_law.proofs.rest_law.Goals as goal

pub returns-clause-ended : goal.returns-clause-ended
returns-clause-ended c S w asks can r alive rest = ended S asks can w r alive rest

pub returns-clause-durable : goal.returns-clause-durable
returns-clause-durable c = durably_clean
