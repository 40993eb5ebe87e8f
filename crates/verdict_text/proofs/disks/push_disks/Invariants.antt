use Rattle.std.proofs.Common.{◌≡◌, ◌++◌}
use Rattle.verdict_text.proofs.Pushed.{lines_to}
use Rattle.verdict_text.proofs.disks.push_disks.Given as goal

abbrev pub invariant-loop-k : goal.invariant-loop-k
invariant-loop-k l = l.out.items ≡ l.initial.out.items ++ lines_to l.present l.roles l.k
