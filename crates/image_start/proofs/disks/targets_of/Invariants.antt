use Rattle.std.proofs.Common.{◌≡◌, length}
use Rattle.std.specs.List.{range_with_len}
use Rattle.control_state.specs.Seen.{numbers}
use Rattle.image_start.proofs.disks.targets_of.Given as goal

abbrev pub invariant-loop-d : goal.invariant-loop-d
invariant-loop-d l = record {
  numbered : numbers l.targets.items ≡ range_with_len 0 l.d;
  count : length l.targets.items ≡ l.d;
}
