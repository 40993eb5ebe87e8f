use Rattle.std.proofs.Common.{◌≡◌, ℕ, length, Some}
use Rattle.std.specs.Prelude.{slice_get}
use Rattle.imsm_codec.specs.Mpb.{block_of, volume_at}
use Rattle.container.specs.declared.volume.VolumeVerdict.{VolumeVerdict}
use Rattle.container.specs.Volumes.{IsVolumeVerdict, is_listed}
use Rattle.container.proofs.volume.verdicts_of.Given as goal

abbrev pub invariant-loop-v : goal.invariant-loop-v
invariant-loop-v l = record {
  count : length l.list.items ≡ l.v;
  each : (k : ℕ) (v : VolumeVerdict) → slice_get l.list.items k ≡ Some v
      → IsVolumeVerdict (block_of l.mpb) (is_listed (block_of l.mpb) l.missing) k (volume_at k (block_of l.mpb)) v;
}
