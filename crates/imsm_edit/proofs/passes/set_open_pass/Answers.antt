use Rattle.std.proofs.Common.{◌<◌, length, arith}
use Rattle.imsm_base.specs.Layout.{Block}
use Rattle.imsm_base.specs.EditsOfTables.{volume_with_pass}
use Rattle.imsm_codec.proofs.Found.{volumes_counted}
use Rattle.imsm_buffer.specs.Buffer.{parts_of}
use Rattle.imsm_edit.proofs.Told.{edit_done}
use Rattle.imsm_edit.proofs.Opened.{told_pass, long_state}
use Rattle.imsm_edit.proofs.passes.set_open_pass.Goals as goal

pub set_states-requires-clause-told : goal.set_states-requires-clause-told
set_states-requires-clause-told c =
    let b : Block = parts_of c.args.book.now in
    let count = volumes_counted c.args.book.now.bytes in
    let below : c.args.v.0 < length b.volumes = omega arith in
    told_pass b (parts_of c.set_pass.new.self) c.args.v.0 c.args.kind c.args.unit c.args.view c.requires.slots below c.set_pass.ensures.block
    (long_state c.args.book.now.bytes c.args.v.0 c.requires.volume) c.requires.open c.ranges.kind.fits

pub returns-clause-block : goal.returns-clause-block
returns-clause-block c =
    edit_done (parts_of c.args.book.now) (parts_of c.set_pass.new.self) (parts_of c.set_states.new.book) c.args.v.0 c.args.broken (volume_with_pass c.args.kind c.args.unit)
    c.set_pass.ensures.block c.set_states.ensures.block
