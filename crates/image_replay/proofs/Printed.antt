-- What is printed of a run, and of images that none was made on.
use Rattle.std.proofs.Common.{◌≡◌, ℕ, inl, inr, false, List}
use Rattle.stage.specs.declared.ends.DriveEnd.{DriveEnd}
use Rattle.stage.specs.declared.ends.DriveEnd.TheVariants.{Over, Full, Member}
use Rattle.image_outside.specs.Endings.{Ends, Prints}
use Rattle.image_outside.specs.Told.{SinkTold}
use Rattle.image_verdict.specs.declared.report.Report.{Report}
use Rattle.image_verdict.specs.declared.report.Report.TheVariants.{Unbuilt, Waiting, Started}
use Rattle.image_verdict.specs.Text.{report_status, starts}
use Rattle.image_replay.specs.Ends.{IsUnstarted, end_status}

-- a run that was made doesn't end without memory
ended_not_nine : (ended : DriveEnd) (status : ℕ) → status ≡ end_status ended → status ≡ 9 → ⊥
ended_not_nine Over status is nine = absurd (cc (is, nine))
ended_not_nine Full status is nine = absurd (cc (is, nine))
ended_not_nine (Member d) status is nine = absurd (cc (is, nine))

pub run_not_nine : (old new : SinkTold) (lines : List ℕ) (ended : DriveEnd) (status : ℕ) → Ends old new (Prints lines (end_status ended)) status → status ≡ 9 → ⊥
run_not_nine old new lines ended status (inl written) nine = ended_not_nine ended status written.ends.status_is nine
run_not_nine old new lines ended status (inr (six, cut)) nine = absurd (cc (six, nine))

-- the status of a report that says that the volume doesn't start
pub unstarted_of : (report : Report) (status : ℕ) → status ≡ report_status report → starts report ≡ false → IsUnstarted status
unstarted_of (Unbuilt s) status is off = inr is
unstarted_of (Waiting family generation missing) status is off = inl is
unstarted_of (Started family generation present) status is off = absurd (cc off)
