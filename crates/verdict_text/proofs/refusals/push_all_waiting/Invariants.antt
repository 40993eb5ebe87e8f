use Rattle.std.proofs.Common.{◌≡◌, ◌++◌, take}
use Rattle.std.specs.List.{flat_map}
use Rattle.verdict_text.specs.Lines.{waiting_line}
use Rattle.verdict_text.proofs.refusals.push_all_waiting.Given as goal

abbrev pub invariant-loop-missing : goal.invariant-loop-missing
invariant-loop-missing l = l.out.items ≡ l.initial.out.items ++ flat_map waiting_line (take l.missing-index l.list)
