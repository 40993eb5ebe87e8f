use Rattle.std.proofs.Common.{◌≡◌, map, take}
use Rattle.imsm_base.specs.Volumes.{members}
use Rattle.imsm_codec.specs.Mpb.{block_of, volume_at}
use Rattle.imsm_view.specs.Views.{slot_view}
use Rattle.imsm_view.proofs.slot.slots_of.Given as goal

abbrev pub invariant-loop-slot : goal.invariant-loop-slot
invariant-loop-slot l =
    l.slots.items ≡ map (slot_view (block_of l.mpb)) (take l.slot (members (volume_at l.v.0 (block_of l.mpb))))
