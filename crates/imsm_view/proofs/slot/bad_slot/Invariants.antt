use Rattle.std.proofs.Common.{◌≡◌, ◌<◌, ℕ, false}
use Rattle.imsm_base.specs.Volumes.{members, is_bad_slot}
use Rattle.imsm_codec.specs.Mpb.{block_of, volume_at}
use Rattle.imsm_view.proofs.slot.bad_slot.Given as goal

abbrev pub invariant-loop-slot : goal.invariant-loop-slot
invariant-loop-slot l =
    (k : ℕ) → k < l.slot → is_bad_slot (block_of l.mpb) (members (volume_at l.v.0 (block_of l.mpb))) k ≡ false
