use Rattle.std.proofs.Common.{◌∙◌, ap, arith}
use Rattle.imsm_base.specs.Layout.{Block, member_count_of}
use Rattle.imsm_codec.specs.Mpb.{volume_at, map_at}
use Rattle.imsm_buffer.proofs.Lowered.{there_of}
use Rattle.imsm_edit.specs.Slots.{seen_with}
use Rattle.imsm_edit.proofs.Marking.{none_marked, map_still, slot_still, slot_next, slots_done}
use Rattle.imsm_edit.proofs.slots.mark_map.Goals as goal

pub loop-slot-init : goal.loop-slot-init
loop-slot-init c = none_marked c.args.v.0 c.args.m c.args.on (seen_with c.args.disks.now c.args.slots.now) c.args.book.now

pub mark_slot-requires-clause-map : goal.mark_slot-requires-clause-map
mark_slot-requires-clause-map c =
    map_still c.args.v.0 c.args.m c.loop-slot.slot c.args.on (seen_with c.args.disks.now c.args.slots.now) c.args.book.now c.loop-slot.book
    (there_of c.args.v.0 c.args.m c.args.book.now c.parts.result.bytes.now c.parts.result.laid c.parts.ensures.bytes c.requires.volume c.requires.map) c.loop-slot.invariant c.requires.map

pub mark_slot-requires-clause-slot : goal.mark_slot-requires-clause-slot
mark_slot-requires-clause-slot c =
    slot_still c.args.v.0 c.args.m c.loop-slot.slot c.map_members-members.result c.args.on (seen_with c.args.disks.now c.args.slots.now) c.args.book.now c.loop-slot.book
    (there_of c.args.v.0 c.args.m c.args.book.now c.parts.result.bytes.now c.parts.result.laid c.parts.ensures.bytes c.requires.volume c.requires.map) c.loop-slot.invariant
    (c.map_members-members.ensures ∙ ap (λ (x : Block). member_count_of (map_at c.args.m (volume_at c.args.v.0 x))) c.parts.ensures.parts) (omega arith)

pub loop-slot-preserved : goal.loop-slot-preserved
loop-slot-preserved c =
    slot_next c.args.v.0 c.args.m c.loop-slot.slot c.args.on c.is_named.result (seen_with c.args.disks.now c.args.slots.now) c.args.book.now c.loop-slot.book c.mark_slot.new.book
    c.loop-slot.invariant c.is_named.ensures c.mark_slot.ensures.room c.mark_slot.ensures.block

pub returns-clause-block : goal.returns-clause-block
returns-clause-block c =
    slots_done c.args.v.0 c.args.m c.loop-slot.slot c.map_members-members.result c.args.on (seen_with c.args.disks.now c.args.slots.now) c.args.book.now c.loop-slot.book
    (there_of c.args.v.0 c.args.m c.args.book.now c.parts.result.bytes.now c.parts.result.laid c.parts.ensures.bytes c.requires.volume c.requires.map) c.loop-slot.invariant
    (c.map_members-members.ensures ∙ ap (λ (x : Block). member_count_of (map_at c.args.m (volume_at c.args.v.0 x))) c.parts.ensures.parts) (omega arith)
