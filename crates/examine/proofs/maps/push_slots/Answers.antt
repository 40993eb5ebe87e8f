use Rattle.std.proofs.Common.{ℕ, List, arith}
use Rattle.imsm_base.specs.Layout.{orders_of}
use Rattle.imsm_codec.specs.Mpb.{block_bytes, block_of, volume_at, map_at}
use Rattle.examine.proofs.Numbered.{orders_counted}
use Rattle.examine.specs.Lines.{slot_line}
use Rattle.examine.proofs.Numbered.{numbered_more, numbered_all}
use Rattle.examine.proofs.maps.push_slots.Goals as goal

pub loop-slot-preserved : goal.loop-slot-preserved
loop-slot-preserved c =
    let xs : List ℕ = orders_of (map_at c.args.m (volume_at c.args.v.0 (block_of c.args.mpb.now))) in
    let count = orders_counted c.args.v.0 c.args.m (block_bytes c.args.mpb.now) c.args.mpb.now.laid c.requires.volume c.requires.map in
    numbered_more c.loop-slot.slot slot_line xs 0 c.args.out.now.items c.loop-slot.out.items c.push_slot.new.out.items (omega arith) c.loop-slot.invariant (rw (← c.map_ord.ensures) c.in_ok-push_slot.ensures)

pub returns : goal.returns
returns c =
    let xs : List ℕ = orders_of (map_at c.args.m (volume_at c.args.v.0 (block_of c.args.mpb.now))) in
    let count = orders_counted c.args.v.0 c.args.m (block_bytes c.args.mpb.now) c.args.mpb.now.laid c.requires.volume c.requires.map in
    numbered_all c.loop-slot.slot slot_line xs c.args.out.now.items c.loop-slot.out.items (omega arith) c.loop-slot.invariant
