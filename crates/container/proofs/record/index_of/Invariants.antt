use Rattle.std.proofs.Common.{◌≡◌, ◌<◌, ℕ, [], false, slice_index_or}
use Rattle.imsm_codec.specs.Mpb.{block_of}
use Rattle.container.specs.Steps.{is_named}
use Rattle.container.proofs.record.index_of.Given as goal

abbrev pub invariant-loop-i : goal.invariant-loop-i
invariant-loop-i l = (k : ℕ) → k < l.i → is_named l.only_expected l.serial.0 (slice_index_or (block_of l.mpb).disks k []) ≡ false
