use Rattle.std.proofs.Common.{◌≡◌, ◌++◌, take}
use Rattle.image_incremental.specs.Lines.{arrival_lines}
use Rattle.image_incremental.proofs.text.push_arrivals.Given as goal

abbrev pub invariant-loop-k : goal.invariant-loop-k
invariant-loop-k l = l.out.items ≡ l.initial.out.items ++ arrival_lines l.serials 0 (take l.k l.verdicts)
