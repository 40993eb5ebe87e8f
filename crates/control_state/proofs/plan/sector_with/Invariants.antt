use Rattle.std.proofs.Common.{◌≡◌, ◌*◌, take, length}
use Rattle.std.specs.List.{repeat}
use Rattle.byteorder.specs.Endian.{big_bytes}
use Rattle.control_state.proofs.plan.sector_with.Given as goal

abbrev pub invariant-loop-i : goal.invariant-loop-i
invariant-loop-i l = record {
  long : length l.bytes ≡ 512;
  stand : take (8 * l.i) l.bytes ≡ repeat l.i (big_bytes 8 l.value);
}
