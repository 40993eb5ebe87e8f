use Rattle.std.proofs.Common.{arith}
use Rattle.image_outside.specs.Lines.{spaced_text}
use Rattle.image_outside.proofs.Written.{breaks_within, on_err}
use Rattle.image_outside.proofs.line.write_words.Goals as goal

pub returns-in_err-write_spaced-clause-err : goal.returns-in_err-write_spaced-clause-err
returns-in_err-write_spaced-clause-err g c =
    let told = g.K.Sink.written in
    let faults = g.K.Sink.faults_of in
    on_err c.from_residual.result _
    (breaks_within spaced_text (told c.args.sink.now) (told c.loop-word.sink) (told c.write_spaced.new.sink) (faults c.args.sink.now) (faults c.loop-word.sink) (faults c.write_spaced.new.sink)
    c.args.words.now c.loop-word.word-index _ (omega arith) c.loop-word.invariant.added c.loop-word.invariant.later c.in_err-write_spaced.ensures.err)
