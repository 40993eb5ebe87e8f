use Rattle.array_openings.proofs.Meets.{meets, form_is}
use Rattle.array_openings.proofs.law.real_disks_meet_the_premises.Goals as goal

pub returns : goal.returns
returns c S o = (meets S o, form_is S o)
