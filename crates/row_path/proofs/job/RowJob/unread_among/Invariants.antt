use Rattle.std.proofs.Common.{◌≡◌, ◌-◌}
use Rattle.row_path.specs.Jobs.{place_for}
use Rattle.row_path.proofs.Unread.{unread_from}
use Rattle.row_path.proofs.job.RowJob.unread_among.Given as goal

abbrev pub invariant-loop-slot : goal.invariant-loop-slot
invariant-loop-slot l =
    unread_from l.self.read.marks (place_for l.self) l.data_alone 0 l.self.geometry.members
    ≡ unread_from l.self.read.marks (place_for l.self) l.data_alone l.slot (l.self.geometry.members - l.slot)
