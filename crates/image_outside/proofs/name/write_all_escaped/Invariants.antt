use Rattle.std.proofs.Common.{◌≤◌, take}
use Rattle.std.specs.List.{flat_map}
use Rattle.image_outside.specs.Outside.{Adds}
use Rattle.imsm_text.specs.Text.{escaped}
use Rattle.image_outside.proofs.name.write_all_escaped.Given as goal

abbrev pub invariant-loop-byte : goal.invariant-loop-byte
invariant-loop-byte g l = record {
  added : Adds (g.K.Sink.written l.initial.sink) (g.K.Sink.written l.sink) (flat_map escaped (take l.byte-index l.bytes));
  later : g.K.Sink.faults_of l.initial.sink ≤ g.K.Sink.faults_of l.sink;
}
