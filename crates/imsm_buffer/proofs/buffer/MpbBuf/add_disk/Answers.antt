use Rattle.std.proofs.Common.{◌<◌, sym, ap, subst, ◌∙◌, arith}
use Rattle.units.specs.declared.bounds.TheConstants.{MAX_DISKS}
use Rattle.imsm_base.specs.Layout.{disk_count_of}
use Rattle.imsm_buffer.specs.Buffer.{Buffer, parts_of}
use Rattle.imsm_buffer.specs.Record.{part_of}
use Rattle.imsm_buffer.proofs.Done.{add_done, disks_read}
use Rattle.imsm_buffer.proofs.buffer.MpbBuf.add_disk.Goals as goal

pub add_record-requires-clause-inside : goal.add_record-requires-clause-inside
add_record-requires-clause-inside c =
    let room = c.self.invariant.laid.room in
    let read = disks_read c.self.inside.bytes.items c.deref.result.now c.get_u8-count.result c.get_u8-count.ensures c.deref.ensures.value in
    omega (arith, c.self.inside.bytes.ok.0)

pub add_record-requires-clause-few : goal.add_record-requires-clause-few
add_record-requires-clause-few c =
    let read = disks_read c.self.inside.bytes.items c.deref.result.now c.get_u8-count.result c.get_u8-count.ensures c.deref.ensures.value in
    let few = subst (λ (x : Buffer). disk_count_of (parts_of x) < MAX_DISKS) (sym c.self.view_is) c.requires in
    omega (arith, few)

pub invariant_of-self : goal.invariant_of-self
invariant_of-self c =
    (add_done c.self.inside.bytes.items c.add_record.new.bytes.items c.record_bytes.result c.deref.result.now _ _ c.self.inside.room c.get_u8-count.result c.args.self.now (part_of c.args.added.now)
    c.self.view_is c.self.invariant c.add_record.ensures.capacity c.requires (omega (arith, c.self.inside.bytes.ok.0)) c.record_bytes.ensures.lengths c.get_u8-count.ensures c.deref.ensures.value c.record_bytes.ensures.bytes c.add_record.ensures.items).kept

pub returns-clause-bytes : goal.returns-clause-bytes
returns-clause-bytes c =
    (add_done c.self.inside.bytes.items c.add_record.new.bytes.items c.record_bytes.result c.deref.result.now _ _ c.self.inside.room c.get_u8-count.result c.args.self.now (part_of c.args.added.now)
    c.self.view_is c.self.invariant c.add_record.ensures.capacity c.requires (omega (arith, c.self.inside.bytes.ok.0)) c.record_bytes.ensures.lengths c.get_u8-count.ensures c.deref.ensures.value c.record_bytes.ensures.bytes c.add_record.ensures.items).bytes

pub returns-clause-block : goal.returns-clause-block
returns-clause-block c =
    (add_done c.self.inside.bytes.items c.add_record.new.bytes.items c.record_bytes.result c.deref.result.now _ _ c.self.inside.room c.get_u8-count.result c.args.self.now (part_of c.args.added.now)
    c.self.view_is c.self.invariant c.add_record.ensures.capacity c.requires (omega (arith, c.self.inside.bytes.ok.0)) c.record_bytes.ensures.lengths c.get_u8-count.ensures c.deref.ensures.value c.record_bytes.ensures.bytes c.add_record.ensures.items).block

pub returns-clause-index : goal.returns-clause-index
returns-clause-index c =
    disks_read c.self.inside.bytes.items c.deref.result.now c.get_u8-count.result c.get_u8-count.ensures c.deref.ensures.value
    ∙ ap (λ (x : Buffer). disk_count_of (parts_of x)) c.self.view_is
