use Rattle.std.proofs.Common.{◌≡◌, ℕ, ◌<◌, false, length}
use Rattle.imsm_base.specs.Parts.{block_in}
use Rattle.imsm_codec.specs.Table.{are_twins_at}
use Rattle.imsm_codec.proofs.disk.check_serials.Given as goal

abbrev pub invariant-loop-i : goal.invariant-loop-i
invariant-loop-i l = (k j : ℕ) → k < l.i → k < j → j < length (block_in l.bytes).disks → are_twins_at (block_in l.bytes).disks k j ≡ false
