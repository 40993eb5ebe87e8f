use Rattle.std.proofs.Common.{◌+◌, ◌-◌, ◌≤◌, length}
use Rattle.image_outside.specs.Outside.{Takes}
use Rattle.image_outside.specs.declared.source.TheConstants.{MAX_SOURCE_BYTES}
use Rattle.image_outside.proofs.source.read_all.Given as goal

abbrev pub invariant-loop-piece : goal.invariant-loop-piece
invariant-loop-piece g l = record {
  few : length l.bytes.items ≤ MAX_SOURCE_BYTES + 1;
  taken : Takes (g.S.Source.left l.fn.source) (g.S.Source.left l.source) l.bytes.items;
  later : g.S.Source.faults_of l.fn.source ≤ g.S.Source.faults_of l.source;
}

abbrev pub decreases-loop-piece : goal.decreases-loop-piece
decreases-loop-piece g l = MAX_SOURCE_BYTES + 1 - length l.bytes.items
