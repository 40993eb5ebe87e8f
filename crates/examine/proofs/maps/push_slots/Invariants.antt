use Rattle.std.proofs.Common.{◌≡◌, ◌++◌}
use Rattle.imsm_base.specs.Layout.{orders_of}
use Rattle.imsm_codec.specs.Mpb.{block_of, volume_at, map_at}
use Rattle.examine.specs.Lines.{slot_line}
use Rattle.examine.proofs.Numbered.{first_numbered}
use Rattle.examine.proofs.maps.push_slots.Given as goal

abbrev pub invariant-loop-slot : goal.invariant-loop-slot
invariant-loop-slot l = l.out.items ≡ l.initial.out.items ++ first_numbered l.slot slot_line (orders_of (map_at l.m (volume_at l.v.0 (block_of l.mpb))))
