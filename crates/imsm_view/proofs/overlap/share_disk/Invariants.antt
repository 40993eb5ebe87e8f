use Rattle.std.proofs.Common.{◌≡◌, take, false}
use Rattle.std.specs.List.{list_any}
use Rattle.imsm_base.specs.Volumes.{members, has_index}
use Rattle.imsm_codec.specs.Mpb.{block_of, volume_at}
use Rattle.imsm_view.proofs.overlap.share_disk.Given as goal

abbrev pub invariant-loop-slot : goal.invariant-loop-slot
invariant-loop-slot l =
    list_any (has_index (volume_at l.other.0 (block_of l.mpb))) (take l.slot (members (volume_at l.v.0 (block_of l.mpb)))) ≡ false
