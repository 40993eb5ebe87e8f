use Rattle.std.proofs.Common.{arith}
use Rattle.std.proofs.lemmas.Grind.{common_steps}
use Rattle.image_outside.proofs.Written.{adds_more, breaks_at, on_err}
use Rattle.image_outside.proofs.outside.write_all.Goals as goal

pub loop-at-preserved : goal.loop-at-preserved
loop-at-preserved g c = record {
  within = grind (arith, common_steps, c.in_ok-at.ensures.count);
  added = adds_more (g.K.Sink.written c.args.sink.now) (g.K.Sink.written c.loop-at.sink) (g.K.Sink.written c.write.new.self) c.args.bytes.now c.loop-at.at c.in_ok-at.field-0
      c.loop-at.invariant.added c.in_ok-at.ensures.taken;
  later = omega (arith, c.loop-at.invariant.later, c.write.ensures.later);
}

pub returns-in_err-at-clause-failed : goal.returns-in_err-at-clause-failed
returns-in_err-at-clause-failed g c =
    on_err c.from_residual.result _
    (breaks_at (g.K.Sink.written c.args.sink.now) (g.K.Sink.written c.loop-at.sink) (g.K.Sink.written c.write.new.self)
    (g.K.Sink.faults_of c.args.sink.now) (g.K.Sink.faults_of c.loop-at.sink) (g.K.Sink.faults_of c.write.new.self) c.args.bytes.now c.loop-at.at
    c.loop-at.invariant.added c.loop-at.invariant.later c.in_err-at.ensures.refused c.in_err-at.ensures.failed)
