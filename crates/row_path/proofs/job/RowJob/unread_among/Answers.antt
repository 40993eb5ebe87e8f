use Rattle.std.proofs.Common.{◌∙◌, sym, arith}
use Rattle.row_path.specs.Jobs.{place_for}
use Rattle.row_path.proofs.Unread.{skipped, unplanned_not_kept, read_not_kept}
use Rattle.row_path.proofs.job.RowJob.unread_among.Goals as goal
use Rattle.row_path.proofs.job.RowJob.unread_among.Goals.{else-is_planned-via-then-is_planned+else-not-has, else-is_planned-via-else-is_planned}

pub loop-slot-preserved : goal.loop-slot-preserved
loop-slot-preserved c =
    c.loop-slot.invariant
    ∙ skipped c.args.self.now.read.marks (place_for c.args.self.now) c.args.data_alone c.loop-slot.slot
    c.args.self.now.geometry.members (omega (arith, c.loop-slot-test.true))
    (elim c.else-is_planned.branch [
      | else-is_planned-via-then-is_planned+else-not-has w ↦ read_not_kept _ _ (sym w.has.ensures ∙ w.if-not-has.false)
      | else-is_planned-via-else-is_planned w ↦ unplanned_not_kept _ _ (sym c.is_planned.ensures ∙ w.if-is_planned.false)
    ])
