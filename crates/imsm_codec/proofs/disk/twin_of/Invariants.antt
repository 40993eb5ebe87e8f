use Rattle.std.proofs.Common.{◌≡◌, ℕ, ◌<◌, false}
use Rattle.imsm_base.specs.Parts.{block_in}
use Rattle.imsm_codec.specs.Table.{are_twins_at}
use Rattle.imsm_codec.proofs.disk.twin_of.Given as goal

abbrev pub invariant-loop-j : goal.invariant-loop-j
invariant-loop-j l = (k : ℕ) → l.fn.i < k → k < l.j → are_twins_at (block_in l.bytes).disks l.fn.i k ≡ false
