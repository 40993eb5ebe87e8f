use Rattle.array_disks.proofs.Marks.{best_grows, mark_grows, mark_raised}
use Rattle.array_disks.proofs.what_is_counted.Goals as goal

pub returns : goal.returns
returns c = record { best = best_grows; grows = mark_grows; raised = mark_raised }
