use Rattle.std.proofs.Common.{◌≤◌, take}
use Rattle.journal_text.specs.Lines.{journal_text}
use Rattle.image_replay.specs.Pieces.{AddsFront}
use Rattle.image_replay.proofs.lines.write_journal.Given as goal

abbrev pub invariant-loop-entry : goal.invariant-loop-entry
invariant-loop-entry g l = record {
  added : AddsFront (g.K.Sink.written l.initial.sink) (g.K.Sink.written l.sink) (journal_text (take l.entry-index l.entries)) l.piece.items;
  later : g.K.Sink.faults_of l.initial.sink ≤ g.K.Sink.faults_of l.sink;
}
