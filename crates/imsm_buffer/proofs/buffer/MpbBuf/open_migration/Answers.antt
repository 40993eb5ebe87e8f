use Rattle.std.proofs.Common.{arith}
use Rattle.imsm_buffer.proofs.Done.{open_done, open_inside}
use Rattle.imsm_buffer.proofs.buffer.MpbBuf.open_migration.Goals as goal

pub invariant_of-self : goal.invariant_of-self
invariant_of-self c =
    (open_done c.self.inside.bytes.items c.open_at.new.bytes.items c.deref.result.now c.deref-2.result.now c.self.inside.bytes.cap c.open_at.new.bytes.cap c.self.inside.room c.args.v.0 c.volume_place-volume.result c.map_size-len.result c.args.self.now
    c.self.view_is c.self.invariant c.open_at.ensures.capacity c.requires.volume c.requires.closed (omega (arith, c.self.inside.bytes.ok.0)) c.deref.ensures.value (record { place = c.volume_place-volume.ensures.place; inside = c.volume_place-volume.ensures.inside }) c.deref-2.ensures.value c.map_size-len.ensures.size c.open_at.ensures.items).kept

pub returns-clause-bytes : goal.returns-clause-bytes
returns-clause-bytes c =
    (open_done c.self.inside.bytes.items c.open_at.new.bytes.items c.deref.result.now c.deref-2.result.now c.self.inside.bytes.cap c.open_at.new.bytes.cap c.self.inside.room c.args.v.0 c.volume_place-volume.result c.map_size-len.result c.args.self.now
    c.self.view_is c.self.invariant c.open_at.ensures.capacity c.requires.volume c.requires.closed (omega (arith, c.self.inside.bytes.ok.0)) c.deref.ensures.value (record { place = c.volume_place-volume.ensures.place; inside = c.volume_place-volume.ensures.inside }) c.deref-2.ensures.value c.map_size-len.ensures.size c.open_at.ensures.items).bytes

pub returns-clause-block : goal.returns-clause-block
returns-clause-block c =
    (open_done c.self.inside.bytes.items c.open_at.new.bytes.items c.deref.result.now c.deref-2.result.now c.self.inside.bytes.cap c.open_at.new.bytes.cap c.self.inside.room c.args.v.0 c.volume_place-volume.result c.map_size-len.result c.args.self.now
    c.self.view_is c.self.invariant c.open_at.ensures.capacity c.requires.volume c.requires.closed (omega (arith, c.self.inside.bytes.ok.0)) c.deref.ensures.value (record { place = c.volume_place-volume.ensures.place; inside = c.volume_place-volume.ensures.inside }) c.deref-2.ensures.value c.map_size-len.ensures.size c.open_at.ensures.items).block

pub open_at-requires-clause-inside : goal.open_at-requires-clause-inside
open_at-requires-clause-inside c =
    let inside = open_inside c.self.inside.bytes.items c.deref.result.now c.deref-2.result.now c.self.inside.bytes.cap c.self.inside.room c.args.v.0 c.volume_place-volume.result c.map_size-len.result c.args.self.now
    c.self.view_is c.self.invariant c.requires.volume c.requires.closed c.deref.ensures.value (record { place = c.volume_place-volume.ensures.place; inside = c.volume_place-volume.ensures.inside })
    c.deref-2.ensures.value c.map_size-len.ensures.size in
    omega (arith, inside, c.self.inside.bytes.ok.0)
