use Rattle.imsm_buffer.proofs.Done.{map_state_done}
use Rattle.imsm_buffer.proofs.buffer.MpbBuf.set_state.Goals as goal

pub invariant_of-self : goal.invariant_of-self
invariant_of-self c =
    (map_state_done c.self.inside.bytes c.put_u8.new.bytes c.deref_mut.result.now c.deref.result.now c.self.inside.room c.map_place-at.result c.args.v.0 c.args.m c.args.state c.args.self.now
    c.self.view_is c.self.invariant c.requires.volume c.requires.map c.deref.ensures.value (record { place = c.map_place-at.ensures.place; inside = c.map_place-at.ensures.inside }) c.put_u8.ensures c.deref_mut.ensures.value).kept

pub returns-clause-bytes : goal.returns-clause-bytes
returns-clause-bytes c =
    (map_state_done c.self.inside.bytes c.put_u8.new.bytes c.deref_mut.result.now c.deref.result.now c.self.inside.room c.map_place-at.result c.args.v.0 c.args.m c.args.state c.args.self.now
    c.self.view_is c.self.invariant c.requires.volume c.requires.map c.deref.ensures.value (record { place = c.map_place-at.ensures.place; inside = c.map_place-at.ensures.inside }) c.put_u8.ensures c.deref_mut.ensures.value).bytes

pub returns-clause-block : goal.returns-clause-block
returns-clause-block c =
    (map_state_done c.self.inside.bytes c.put_u8.new.bytes c.deref_mut.result.now c.deref.result.now c.self.inside.room c.map_place-at.result c.args.v.0 c.args.m c.args.state c.args.self.now
    c.self.view_is c.self.invariant c.requires.volume c.requires.map c.deref.ensures.value (record { place = c.map_place-at.ensures.place; inside = c.map_place-at.ensures.inside }) c.put_u8.ensures c.deref_mut.ensures.value).block
