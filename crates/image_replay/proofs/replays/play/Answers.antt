use Rattle.std.proofs.Common.{List, inl, subst, sym}
use Rattle.units.specs.declared.disk.Sector.{Sector}
use Rattle.array_model.specs.declared.journal.Entry.{Entry}
use Rattle.array_model.specs.Kept.{asked_by}
use Rattle.image_outside.specs.Told.{bank_told}
use Rattle.image_outside.specs.Views.{sink_told}
use Rattle.image_outside.proofs.Ended.{ends_as}
use Rattle.image_verdict.specs.Images.{anchor_reads, serials_of_all, StandIn}
use Rattle.image_start.specs.Openings.{opened_on}
use Rattle.image_replay.specs.Ends.{end_status}
use Rattle.image_replay.specs.Lines.{run_text}
use Rattle.image_replay.specs.Replays.{Replays}
use Rattle.image_replay.specs.Runs.{LeavesRun}
use Rattle.image_replay.proofs.Held.{replayed}
use Rattle.image_replay.proofs.Printed.{run_not_nine}
use Rattle.image_replay.proofs.replays.play.Goals as goal

pub returns-in-Ok-clause-ends : goal.returns-in-Ok-clause-ends
returns-in-Ok-clause-ends g c =
    let K = g.K.Sink in
    let made = c.in-Ok.field-0 in
    let images = c.args.images.now in
    let bank = bank_told g.B.Bank made.bank in
    let script = c.args.script.now in
    let limit = c.args.limit in
    let journal = c.entries.result.now in
    let run = subst (λ (j : List Entry). (contents : List (List Sector)) → StandIn images contents → LeavesRun (opened_on images contents) (asked_by script) limit (anchor_reads images) bank j made.end)
    (sym c.entries.ensures.all) c.in-Ok.ensures.run in
    inl (ends_as (sink_told K c.args.sink.now) (sink_told K c.print_run-status.new.sink) (run_text (serials_of_all images) journal made.end) (end_status made.end) (Replays script limit bank)
    c.print_run-status.result.0 (replayed script limit bank images journal made.end c.requires.starts c.requires.asks c.in-Ok.ensures.found run c.entries.ensures.fits) c.print_run-status.ensures)

pub returns-in-Ok-clause-unrun : goal.returns-in-Ok-clause-unrun
returns-in-Ok-clause-unrun g c nine =
    let K = g.K.Sink in
    absurd (run_not_nine (sink_told K c.args.sink.now) (sink_told K c.print_run-status.new.sink) _ c.in-Ok.field-0.end c.print_run-status.result.0 c.print_run-status.ensures nine)
