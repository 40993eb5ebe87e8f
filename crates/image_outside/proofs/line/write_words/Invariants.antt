use Rattle.std.proofs.Common.{◌≤◌, take}
use Rattle.std.specs.List.{flat_map}
use Rattle.image_outside.specs.Outside.{Adds}
use Rattle.image_outside.specs.Lines.{spaced_text}
use Rattle.image_outside.proofs.line.write_words.Given as goal

abbrev pub invariant-loop-word : goal.invariant-loop-word
invariant-loop-word g l = record {
  added : Adds (g.K.Sink.written l.initial.sink) (g.K.Sink.written l.sink) (flat_map spaced_text (take l.word-index l.words));
  later : g.K.Sink.faults_of l.initial.sink ≤ g.K.Sink.faults_of l.sink;
}
