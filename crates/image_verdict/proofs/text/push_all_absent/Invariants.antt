use Rattle.std.proofs.Common.{◌≡◌, ◌++◌, take}
use Rattle.std.specs.List.{flat_map}
use Rattle.image_verdict.specs.Text.{absent_line}
use Rattle.image_verdict.proofs.text.push_all_absent.Given as goal

abbrev pub invariant-loop-serial : goal.invariant-loop-serial
invariant-loop-serial l = l.out.items ≡ l.initial.out.items ++ flat_map absent_line (take l.serial-index l.serials)
