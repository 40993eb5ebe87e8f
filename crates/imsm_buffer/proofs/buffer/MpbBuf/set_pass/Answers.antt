use Rattle.imsm_buffer.proofs.Done.{pass_done}
use Rattle.imsm_buffer.proofs.buffer.MpbBuf.set_pass.Goals as goal

pub invariant_of-self : goal.invariant_of-self
invariant_of-self c =
    (pass_done c.self.inside.bytes c.put_pass.new.bytes c.deref_mut.result.now c.deref.result.now c.self.inside.room c.volume_place-at.result c.args.v.0 c.args.kind c.args.unit c.args.self.now
    c.self.view_is c.self.invariant c.requires c.deref.ensures.value (record { place = c.volume_place-at.ensures.place; inside = c.volume_place-at.ensures.inside }) c.put_pass.ensures c.deref_mut.ensures.value).kept

pub returns-clause-bytes : goal.returns-clause-bytes
returns-clause-bytes c =
    (pass_done c.self.inside.bytes c.put_pass.new.bytes c.deref_mut.result.now c.deref.result.now c.self.inside.room c.volume_place-at.result c.args.v.0 c.args.kind c.args.unit c.args.self.now
    c.self.view_is c.self.invariant c.requires c.deref.ensures.value (record { place = c.volume_place-at.ensures.place; inside = c.volume_place-at.ensures.inside }) c.put_pass.ensures c.deref_mut.ensures.value).bytes

pub returns-clause-block : goal.returns-clause-block
returns-clause-block c =
    (pass_done c.self.inside.bytes c.put_pass.new.bytes c.deref_mut.result.now c.deref.result.now c.self.inside.room c.volume_place-at.result c.args.v.0 c.args.kind c.args.unit c.args.self.now
    c.self.view_is c.self.invariant c.requires c.deref.ensures.value (record { place = c.volume_place-at.ensures.place; inside = c.volume_place-at.ensures.inside }) c.put_pass.ensures c.deref_mut.ensures.value).block
