use Rattle.std.proofs.Common.{ap, sym, ◌∙◌}
use Rattle.array_machine.specs.Numbers.{first_of}
use Rattle.row_path.specs.Plans.{unmarked, slots_of}
use Rattle.row_path.specs.Jobs.{shape_for, place_for}
use Rattle.row_path.proofs.Unread.{other_data}
use Rattle.row_path.proofs.job.RowJob.next_read.Goals as goal

pub returns-in-OtherData-clause-slot : goal.returns-in-OtherData-clause-slot
returns-in-OtherData-clause-slot c =
    c.unread_among-in-OtherData.ensures.slot
    ∙ ap (λ slots. first_of (unmarked c.args.self.now.read.marks slots))
    (other_data (shape_for c.args.self.now) (place_for c.args.self.now))
    ∙ ap (λ plan. first_of (unmarked c.args.self.now.read.marks
    (slots_of (shape_for c.args.self.now) (place_for c.args.self.now) plan)))
    (sym c.in-OtherData.is)
