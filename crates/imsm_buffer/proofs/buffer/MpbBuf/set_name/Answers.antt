use Rattle.imsm_buffer.proofs.Done.{name_done}
use Rattle.imsm_buffer.proofs.buffer.MpbBuf.set_name.Goals as goal

pub invariant_of-self : goal.invariant_of-self
invariant_of-self c =
    (name_done c.self.inside.bytes c.put_name.new.bytes c.deref_mut.result.now c.deref.result.now c.args.name.now c.self.inside.room c.volume_place-at.result c.args.v.0 c.args.self.now
    c.self.view_is c.self.invariant c.requires c.deref.ensures.value (record { place = c.volume_place-at.ensures.place; inside = c.volume_place-at.ensures.inside }) c.put_name.ensures c.deref_mut.ensures.value c.told-name).kept

pub returns-clause-bytes : goal.returns-clause-bytes
returns-clause-bytes c =
    (name_done c.self.inside.bytes c.put_name.new.bytes c.deref_mut.result.now c.deref.result.now c.args.name.now c.self.inside.room c.volume_place-at.result c.args.v.0 c.args.self.now
    c.self.view_is c.self.invariant c.requires c.deref.ensures.value (record { place = c.volume_place-at.ensures.place; inside = c.volume_place-at.ensures.inside }) c.put_name.ensures c.deref_mut.ensures.value c.told-name).bytes

pub returns-clause-block : goal.returns-clause-block
returns-clause-block c =
    (name_done c.self.inside.bytes c.put_name.new.bytes c.deref_mut.result.now c.deref.result.now c.args.name.now c.self.inside.room c.volume_place-at.result c.args.v.0 c.args.self.now
    c.self.view_is c.self.invariant c.requires c.deref.ensures.value (record { place = c.volume_place-at.ensures.place; inside = c.volume_place-at.ensures.inside }) c.put_name.ensures c.deref_mut.ensures.value c.told-name).block
