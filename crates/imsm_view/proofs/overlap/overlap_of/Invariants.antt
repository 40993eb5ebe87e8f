use Rattle.std.proofs.Common.{◌≡◌, ◌<◌, ℕ, false}
use Rattle.imsm_base.specs.Volumes.{overlaps}
use Rattle.imsm_codec.specs.Mpb.{block_of, volume_at}
use Rattle.imsm_view.proofs.overlap.overlap_of.Given as goal

abbrev pub invariant-loop-other : goal.invariant-loop-other
invariant-loop-other l = (k : ℕ) → k < l.other → overlaps (block_of l.mpb) l.v.0 (volume_at l.v.0 (block_of l.mpb)) k ≡ false
