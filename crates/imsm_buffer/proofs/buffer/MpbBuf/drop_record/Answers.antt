use Rattle.std.proofs.Common.{◌<◌, refl, sym, subst, arith}
use Rattle.imsm_base.specs.Layout.{disk_count_of}
use Rattle.imsm_buffer.specs.Buffer.{Buffer, parts_of}
use Rattle.imsm_buffer.proofs.Done.{drop_done, disks_read}
use Rattle.imsm_buffer.proofs.buffer.MpbBuf.drop_record.Goals as goal

pub overflow_sub-others : goal.overflow_sub-others
overflow_sub-others c =
    let read = disks_read c.self.inside.bytes.items c.deref.result.now c.get_u8-others.result c.get_u8-others.ensures c.deref.ensures.value in
    let below = subst (λ (x : Buffer). c.args.i < disk_count_of (parts_of x)) (sym c.self.view_is) c.requires in
    omega (arith, below)

pub invariant_of-self : goal.invariant_of-self
invariant_of-self c =
    (drop_done c.self.inside.bytes.items c.remove_record.new.bytes.items c.deref.result.now c.self.inside.bytes.cap c.remove_record.new.bytes.cap c.self.inside.room c.get_u8-others.result _ c.disk_place.result c.args.i c.args.self.now
    c.self.view_is c.self.invariant (omega (arith, c.remove_record.ensures.capacity)) (omega arith) c.requires c.get_u8-others.ensures c.deref.ensures.value refl c.disk_place.ensures c.remove_record.ensures.items).kept

pub returns-clause-block : goal.returns-clause-block
returns-clause-block c =
    (drop_done c.self.inside.bytes.items c.remove_record.new.bytes.items c.deref.result.now c.self.inside.bytes.cap c.remove_record.new.bytes.cap c.self.inside.room c.get_u8-others.result _ c.disk_place.result c.args.i c.args.self.now
    c.self.view_is c.self.invariant (omega (arith, c.remove_record.ensures.capacity)) (omega arith) c.requires c.get_u8-others.ensures c.deref.ensures.value refl c.disk_place.ensures c.remove_record.ensures.items).block
