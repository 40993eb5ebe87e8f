use Rattle.std.proofs.Common.{List, inl, inr, refl, subst, sym, ◌∙◌, arith}
use Rattle.image_outside.specs.Told.{bank_told}
use Rattle.image_outside.specs.Views.{sink_told}
use Rattle.image_outside.specs.Endings.{Prints}
use Rattle.image_outside.proofs.Ended.{ends_as, ends_map}
use Rattle.image_verdict.specs.declared.images.ImageRead.{ImageRead}
use Rattle.image_verdict.specs.Reports.{IsReport}
use Rattle.image_verdict.specs.Text.{report_status, report_text}
use Rattle.image_verdict.proofs.Reported.{reported}
use Rattle.image_replay.specs.Lines.{absent_volume_line}
use Rattle.image_replay.specs.Replays.{Replays, ReplaysBy}
use Rattle.image_replay.proofs.Held.{started_of, starts_as}
use Rattle.image_replay.proofs.Printed.{unstarted_of}
use Rattle.image_replay.proofs.Scripts.{asks_rows, asks_first}
use Rattle.image_replay.proofs.replays.replay.Goals as goal

pub play-requires-clause-rows : goal.play-requires-clause-rows
play-requires-clause-rows g c = asks_rows c.args.script.now.ops c.requires.script.ops

pub play-requires-clause-first : goal.play-requires-clause-first
play-requires-clause-first g c = asks_first c.args.script.now.ops c.requires.script.ops (sym c.asks_second.ensures ∙ c.if-asks_second.false)

pub play-requires-clause-starts : goal.play-requires-clause-starts
play-requires-clause-starts g c =
    let read = c.in-Ok.ensures in
    starts_as (bank_told g.B.Bank c.read_images.new.bank) c.in-Ok.images.items c.as_slice-2.result.now c.as_slice.result.now c.report_on-report.result
    c.as_slice-2.ensures.value c.as_slice.ensures.value c.report_on-report.ensures (sym c.starts.ensures ∙ c.if-not-starts.false)
    (let some = c.requires.some in let count = read.count in omega (arith, some, count)) read.few read.found read.distinct

pub returns-then-not-starts-clause-ends : goal.returns-then-not-starts-clause-ends
returns-then-not-starts-clause-ends g c =
    let K = g.K.Sink in
    let report = c.report_on-report.result in
    let bank = bank_told g.B.Bank c.read_images.new.bank in
    ends_map (sink_told K c.args.sink.now) (sink_told K c.print_report-status.new.sink) (Prints (report_text report) (report_status report)) (ReplaysBy c.args.script.now c.args.limit bank) c.print_report-status.result.0
    (λ lines status prints. inl (record {
      unstarted = unstarted_of report status prints.status_is (sym c.starts.ensures ∙ c.if-not-starts.true);
      reports = reported bank c.in-Ok.images.items c.as_slice.result.now report c.as_slice.ensures.value c.in-Ok.ensures.found c.in-Ok.ensures.calls c.report_on-report.ensures lines status prints;
    }))
    c.print_report-status.ensures

pub returns-then-asks_second-clause-ends : goal.returns-then-asks_second-clause-ends
returns-then-asks_second-clause-ends g c =
    let K = g.K.Sink in
    let bank = bank_told g.B.Bank c.read_images.new.bank in
    let images = c.in-Ok.images.items in
    let says = subst (λ (is : List ImageRead). IsReport is c.report_on-report.result) c.as_slice.ensures.value c.report_on-report.ensures in
    inl (ends_as (sink_told K c.args.sink.now) (sink_told K c.end.new.sink) absent_volume_line 3 (ReplaysBy c.args.script.now c.args.limit bank) c.end.result.0
    (inr (inl (record {
      asks = sym c.asks_second.ensures ∙ c.if-asks_second.true;
      images = images;
      found = c.in-Ok.ensures.found;
      reads = c.in-Ok.ensures.calls;
      started = started_of images c.report_on-report.result says (sym c.starts.ensures ∙ c.if-not-starts.false);
      lines_are = refl;
      status_is = refl;
    })))
    c.end.ensures)

pub returns-clause-ends : goal.returns-clause-ends
returns-clause-ends g c =
    let K = g.K.Sink in
    let bank = bank_told g.B.Bank c.play.result.0 in
    let script = c.args.script.now in
    ends_map (sink_told K c.args.sink.now) (sink_told K c.play.new.sink) (Replays script c.args.limit bank) (ReplaysBy script c.args.limit bank) c.play.result.1.0 (λ lines status replays. inr (inr replays)) c.play.ensures.ends
