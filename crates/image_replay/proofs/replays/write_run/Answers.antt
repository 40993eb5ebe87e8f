use Rattle.image_outside.proofs.Written.{breaks_first, breaks_later, on_err}
use Rattle.journal_text.specs.Lines.{journal_text}
use Rattle.image_verdict.specs.Images.{serials_of_all}
use Rattle.image_replay.specs.Lines.{end_line}
use Rattle.image_replay.proofs.replays.write_run.Goals as goal
use Rattle.std.proofs.lemmas.Result.{on_err_weaker}

pub returns-in_err-write_journal-clause-err : goal.returns-in_err-write_journal-clause-err
returns-in_err-write_journal-clause-err g c =
    on_err c.from_residual.result _
    (breaks_first (g.K.Sink.written c.args.sink.now) (g.K.Sink.written c.write_journal.new.sink) (g.K.Sink.faults_of c.args.sink.now) (g.K.Sink.faults_of c.write_journal.new.sink)
    (journal_text c.args.entries.now) (end_line (serials_of_all c.args.images.now) c.args.end) c.in_err-write_journal.ensures.err)

pub returns-clause-err : goal.returns-clause-err
returns-clause-err g c =
    let told = g.K.Sink.written in
    let faults = g.K.Sink.faults_of in
    on_err_weaker c.write_end.result
    (breaks_later (told c.args.sink.now) (told c.write_journal.new.sink) (told c.write_end.new.sink) (faults c.args.sink.now) (faults c.write_journal.new.sink) (faults c.write_end.new.sink)
    (journal_text c.args.entries.now) (end_line (serials_of_all c.args.images.now) c.args.end) c.in_ok-write_journal.ensures.ok c.write_journal.ensures.later)
    c.write_end.ensures.err
