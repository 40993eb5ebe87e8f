use Rattle.refused_verdicts.proofs.Ended.{ends_as_assembled}
use Rattle.refused_verdicts.proofs.arrivals.arrivals_end_as_an_assembly.Goals as goal

pub returns : goal.returns
returns c = ends_as_assembled
