use Rattle.std.proofs.Common.{arith}
use Rattle.imsm_buffer.proofs.Done.{close_done}
use Rattle.imsm_buffer.proofs.buffer.MpbBuf.close_migration.Goals as goal

pub invariant_of-self : goal.invariant_of-self
invariant_of-self c =
    (close_done c.self.inside.bytes.items c.close_at.new.bytes.items c.deref.result.now c.deref-2.result.now c.deref-3.result.now c.self.inside.bytes.cap c.close_at.new.bytes.cap c.self.inside.room c.args.v.0 c.volume_place-volume.result c.map_place-second.result c.map_size-len.result c.args.self.now
    c.self.view_is c.self.invariant (omega (arith, c.close_at.ensures.capacity)) c.requires.volume c.requires.open c.deref.ensures.value (record { place = c.volume_place-volume.ensures.place; inside = c.volume_place-volume.ensures.inside }) c.deref-2.ensures.value (record { place = c.map_place-second.ensures.place; inside = c.map_place-second.ensures.inside }) c.deref-3.ensures.value c.map_size-len.ensures.size c.close_at.ensures.items).kept

pub returns-clause-bytes : goal.returns-clause-bytes
returns-clause-bytes c =
    (close_done c.self.inside.bytes.items c.close_at.new.bytes.items c.deref.result.now c.deref-2.result.now c.deref-3.result.now c.self.inside.bytes.cap c.close_at.new.bytes.cap c.self.inside.room c.args.v.0 c.volume_place-volume.result c.map_place-second.result c.map_size-len.result c.args.self.now
    c.self.view_is c.self.invariant (omega (arith, c.close_at.ensures.capacity)) c.requires.volume c.requires.open c.deref.ensures.value (record { place = c.volume_place-volume.ensures.place; inside = c.volume_place-volume.ensures.inside }) c.deref-2.ensures.value (record { place = c.map_place-second.ensures.place; inside = c.map_place-second.ensures.inside }) c.deref-3.ensures.value c.map_size-len.ensures.size c.close_at.ensures.items).bytes

pub returns-clause-block : goal.returns-clause-block
returns-clause-block c =
    (close_done c.self.inside.bytes.items c.close_at.new.bytes.items c.deref.result.now c.deref-2.result.now c.deref-3.result.now c.self.inside.bytes.cap c.close_at.new.bytes.cap c.self.inside.room c.args.v.0 c.volume_place-volume.result c.map_place-second.result c.map_size-len.result c.args.self.now
    c.self.view_is c.self.invariant (omega (arith, c.close_at.ensures.capacity)) c.requires.volume c.requires.open c.deref.ensures.value (record { place = c.volume_place-volume.ensures.place; inside = c.volume_place-volume.ensures.inside }) c.deref-2.ensures.value (record { place = c.map_place-second.ensures.place; inside = c.map_place-second.ensures.inside }) c.deref-3.ensures.value c.map_size-len.ensures.size c.close_at.ensures.items).block
