use Rattle.std.proofs.Common.{codes}
use Rattle.std.proofs.lemmas.Result.{on_err_weaker}
use Rattle.imsm_text.specs.Text.{word_text}
use Rattle.image_outside.proofs.Written.{breaks_first, breaks_later, on_err}
use Rattle.image_outside.proofs.line.write_spaced.Goals as goal

pub returns-in_err-write_all-clause-err : goal.returns-in_err-write_all-clause-err
returns-in_err-write_all-clause-err g c =
    on_err c.from_residual.result _
    (breaks_first (g.K.Sink.written c.args.sink.now) (g.K.Sink.written c.write_all.new.sink) (g.K.Sink.faults_of c.args.sink.now) (g.K.Sink.faults_of c.write_all.new.sink)
    (codes " ") (word_text c.args.word.now) c.in_err-write_all.ensures.failed)

pub returns-clause-err : goal.returns-clause-err
returns-clause-err g c =
    let told = g.K.Sink.written in
    let faults = g.K.Sink.faults_of in
    on_err_weaker c.write_word.result
    (breaks_later (told c.args.sink.now) (told c.write_all.new.sink) (told c.write_word.new.sink) (faults c.args.sink.now) (faults c.write_all.new.sink) (faults c.write_word.new.sink)
    (codes " ") (word_text c.args.word.now) c.in_ok-write_all.ensures.all c.write_all.ensures.later)
    c.write_word.ensures.err
