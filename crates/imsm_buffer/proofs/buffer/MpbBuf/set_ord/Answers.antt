use Rattle.std.proofs.Common.{arith}
use Rattle.imsm_buffer.proofs.Done.{order_done}
use Rattle.imsm_buffer.proofs.buffer.MpbBuf.set_ord.Goals as goal

pub invariant_of-self : goal.invariant_of-self
invariant_of-self c =
    (order_done c.self.inside.bytes c.put_u32.new.bytes c.deref_mut.result.now c.deref.result.now c.self.inside.room c.map_place.result _ c.args.v.0 c.args.m c.args.slot.0 c.args.ord c.args.self.now
    c.self.view_is c.self.invariant c.requires.volume c.requires.map c.requires.slot c.deref.ensures.value (record { place = c.map_place.ensures.place; inside = c.map_place.ensures.inside }) (omega arith) c.put_u32.ensures c.deref_mut.ensures.value).kept

pub returns-clause-bytes : goal.returns-clause-bytes
returns-clause-bytes c =
    (order_done c.self.inside.bytes c.put_u32.new.bytes c.deref_mut.result.now c.deref.result.now c.self.inside.room c.map_place.result _ c.args.v.0 c.args.m c.args.slot.0 c.args.ord c.args.self.now
    c.self.view_is c.self.invariant c.requires.volume c.requires.map c.requires.slot c.deref.ensures.value (record { place = c.map_place.ensures.place; inside = c.map_place.ensures.inside }) (omega arith) c.put_u32.ensures c.deref_mut.ensures.value).bytes

pub returns-clause-block : goal.returns-clause-block
returns-clause-block c =
    (order_done c.self.inside.bytes c.put_u32.new.bytes c.deref_mut.result.now c.deref.result.now c.self.inside.room c.map_place.result _ c.args.v.0 c.args.m c.args.slot.0 c.args.ord c.args.self.now
    c.self.view_is c.self.invariant c.requires.volume c.requires.map c.requires.slot c.deref.ensures.value (record { place = c.map_place.ensures.place; inside = c.map_place.ensures.inside }) (omega arith) c.put_u32.ensures c.deref_mut.ensures.value).block
