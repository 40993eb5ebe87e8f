use Rattle.generation_pick.proofs.Exclusive.{one_pick, one_fault, pick_or_fault}
use Rattle.generation_pick.proofs.law.picks_and_faults_exclude_one_another.Goals as goal

pub returns-clause-picks : goal.returns-clause-picks
returns-clause-picks c = one_pick

pub returns-clause-faults : goal.returns-clause-faults
returns-clause-faults c = one_fault

pub returns-clause-both : goal.returns-clause-both
returns-clause-both c = pick_or_fault
