use Rattle.array_openings.proofs.RealUnits.{keep_units}
use Rattle.array_openings.proofs.law.real_edits_keep_units.Goals as goal

pub returns : goal.returns
returns c = keep_units
