use Rattle.std.proofs.Common.{length, ◌-◌, ◌≤◌, take}
use Rattle.image_outside.specs.Outside.{Adds}
use Rattle.image_outside.proofs.outside.write_all.Given as goal

abbrev pub invariant-loop-at : goal.invariant-loop-at
invariant-loop-at g l = record {
  within : l.at ≤ length l.bytes;
  added : Adds (g.K.Sink.written l.initial.sink) (g.K.Sink.written l.sink) (take l.at l.bytes);
  later : g.K.Sink.faults_of l.initial.sink ≤ g.K.Sink.faults_of l.sink;
}

abbrev pub decreases-loop-at : goal.decreases-loop-at
decreases-loop-at g l = length l.bytes - l.at
