use Rattle.std.proofs.Common.{arith}
use Rattle.imsm_text.specs.Text.{escaped}
use Rattle.image_outside.proofs.Written.{breaks_within, on_err}
use Rattle.image_outside.proofs.name.write_all_escaped.Goals as goal

pub returns-in_err-write_escaped-clause-err : goal.returns-in_err-write_escaped-clause-err
returns-in_err-write_escaped-clause-err g c =
    let told = g.K.Sink.written in
    let faults = g.K.Sink.faults_of in
    on_err c.from_residual.result _
    (breaks_within escaped (told c.args.sink.now) (told c.loop-byte.sink) (told c.write_escaped.new.sink) (faults c.args.sink.now) (faults c.loop-byte.sink) (faults c.write_escaped.new.sink)
    c.args.bytes.now c.loop-byte.byte-index 0 (omega arith) c.loop-byte.invariant.added c.loop-byte.invariant.later c.in_err-write_escaped.ensures.err)
