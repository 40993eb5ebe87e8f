use Rattle.std.proofs.Common.{refl, arith}
use Rattle.imsm_buffer.specs.Buffer.{parts_of}
use Rattle.imsm_buffer.proofs.Lowered.{lowered_none, there_of, map_still, slot_still, slot_next, slots_done}
use Rattle.imsm_buffer.proofs.buffer.MpbBuf.lower_map.Goals as goal

pub loop-slot-init : goal.loop-slot-init
loop-slot-init c = record { room = refl; block = lowered_none c.args.v.0 c.args.m c.args.i (parts_of c.args.self.now) }

pub map_ord-ord-requires-clause-map : goal.map_ord-ord-requires-clause-map
map_ord-ord-requires-clause-map c =
    map_still c.args.v.0 c.args.m c.loop-slot.slot c.args.i c.args.self.now c.loop-slot.self _ (there_of c.args.v.0 c.args.m c.args.self.now c.parts.result.bytes.now c.parts.result.laid c.parts.ensures.bytes c.requires.volume c.requires.map) c.loop-slot.invariant c.parts-in-loop-slot.ensures.parts c.requires.map

pub map_ord-ord-requires-clause-slot : goal.map_ord-ord-requires-clause-slot
map_ord-ord-requires-clause-slot c =
    slot_still c.args.v.0 c.args.m c.loop-slot.slot c.args.i c.map_members-members.result c.args.self.now c.loop-slot.self _ _ (there_of c.args.v.0 c.args.m c.args.self.now c.parts.result.bytes.now c.parts.result.laid c.parts.ensures.bytes c.requires.volume c.requires.map) c.loop-slot.invariant c.parts-in-loop-slot.ensures.parts c.parts.ensures.parts c.map_members-members.ensures (omega arith)

pub set_ord-requires-clause-map : goal.set_ord-requires-clause-map
set_ord-requires-clause-map c =
    map_still c.args.v.0 c.args.m c.loop-slot.slot c.args.i c.args.self.now c.loop-slot.self (parts_of c.loop-slot.self) (there_of c.args.v.0 c.args.m c.args.self.now c.parts.result.bytes.now c.parts.result.laid c.parts.ensures.bytes c.requires.volume c.requires.map) c.loop-slot.invariant refl c.requires.map

pub set_ord-requires-clause-slot : goal.set_ord-requires-clause-slot
set_ord-requires-clause-slot c =
    slot_still c.args.v.0 c.args.m c.loop-slot.slot c.args.i c.map_members-members.result c.args.self.now c.loop-slot.self (parts_of c.loop-slot.self) _ (there_of c.args.v.0 c.args.m c.args.self.now c.parts.result.bytes.now c.parts.result.laid c.parts.ensures.bytes c.requires.volume c.requires.map) c.loop-slot.invariant refl c.parts.ensures.parts c.map_members-members.ensures (omega arith)

pub loop-slot-preserved : goal.loop-slot-preserved
loop-slot-preserved c =
    slot_next c.args.v.0 c.args.m c.loop-slot.slot c.args.i c.map_members-members.result c.map_ord-ord.result c.lowered.result c.args.self.now c.loop-slot.self c.set_ord.new.self _ _ (there_of c.args.v.0 c.args.m c.args.self.now c.parts.result.bytes.now c.parts.result.laid c.parts.ensures.bytes c.requires.volume c.requires.map) c.loop-slot.invariant
    c.parts-in-loop-slot.ensures.parts c.parts.ensures.parts c.map_members-members.ensures (omega arith) c.map_ord-ord.ensures c.lowered.ensures c.set_ord.ensures.bytes c.set_ord.ensures.block

pub returns-clause-block : goal.returns-clause-block
returns-clause-block c =
    slots_done c.args.v.0 c.args.m c.loop-slot.slot c.args.i c.map_members-members.result c.args.self.now c.loop-slot.self _ (there_of c.args.v.0 c.args.m c.args.self.now c.parts.result.bytes.now c.parts.result.laid c.parts.ensures.bytes c.requires.volume c.requires.map) c.loop-slot.invariant c.parts.ensures.parts c.map_members-members.ensures (omega arith)
