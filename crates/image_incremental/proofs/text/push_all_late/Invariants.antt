use Rattle.std.proofs.Common.{◌≡◌, ◌++◌, take}
use Rattle.std.specs.List.{flat_map}
use Rattle.image_incremental.specs.Lines.{late_line}
use Rattle.image_incremental.proofs.text.push_all_late.Given as goal

abbrev pub invariant-loop-serial : goal.invariant-loop-serial
invariant-loop-serial l = l.out.items ≡ l.initial.out.items ++ flat_map late_line (take l.serial-index l.serials)
