use Rattle.std.proofs.Common.{◌≡◌, ◌++◌}
use Rattle.examine.proofs.Numbered.{first_numbered}
use Rattle.verdict_text.specs.Lines.{volume_line}
use Rattle.verdict_text.proofs.volumes.push_volumes.Given as goal

abbrev pub invariant-loop-v : goal.invariant-loop-v
invariant-loop-v l = l.out.items ≡ l.initial.out.items ++ first_numbered l.v volume_line l.list
