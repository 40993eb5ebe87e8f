use Rattle.std.proofs.Common.{◌<◌, Bool, length, ◌∙◌, ap, arith, if◌then◌else◌}
use Rattle.imsm_base.specs.Layout.{Block}
use Rattle.imsm_codec.proofs.Found.{volumes_counted}
use Rattle.imsm_buffer.specs.Buffer.{parts_of}
use Rattle.imsm_edit.proofs.Opened.{long_state}
use Rattle.imsm_edit.proofs.Started.{closed_there, close_done}
use Rattle.imsm_edit.proofs.passes.close_pass.Goals as goal

pub has_out-requires-clause-closed : goal.has_out-requires-clause-closed
has_out-requires-clause-closed c =
    let b : Block = parts_of c.args.book.now in
    let count = volumes_counted c.args.book.now.bytes in
    let below : c.args.v.0 < length b.volumes = omega arith in
    closed_there b (parts_of c.close_migration.new.self) c.args.v.0 below (long_state c.args.book.now.bytes c.args.v.0 c.requires.volume) c.close_migration.ensures.block

pub returns-clause-block : goal.returns-clause-block
returns-clause-block c =
    let b : Block = parts_of c.args.book.now in
    let mid : Block = parts_of c.close_migration.new.self in
    let count = volumes_counted c.args.book.now.bytes in
    let below : c.args.v.0 < length b.volumes = omega arith in
    close_done b mid (parts_of c.set_state.new.self) c.args.v.0 c.state_alone-state.result c.args.broken below c.close_migration.ensures.block
    (closed_there b mid c.args.v.0 below (long_state c.args.book.now.bytes c.args.v.0 c.requires.volume) c.close_migration.ensures.block)
    (c.state_alone-state.ensures ∙ ap (λ (t : Bool). if c.args.broken then 3 else (if t then 2 else 0)) c.has_out.ensures) c.set_state.ensures.block
