use Rattle.std.proofs.Common.{◌≡◌, ◌<◌, Bool, length, refl, subst, arith}
use Rattle.imsm_base.specs.Layout.{Block}
use Rattle.imsm_base.specs.EditsOfTables.{volume_with_pass}
use Rattle.imsm_codec.specs.Mpb.{volume_at}
use Rattle.imsm_codec.proofs.Found.{volumes_counted, maps_counted}
use Rattle.imsm_buffer.specs.Buffer.{parts_of}
use Rattle.imsm_edit.specs.Meanings.{edited, is_told}
use Rattle.imsm_edit.specs.Passes.{with_migration, with_pass}
use Rattle.imsm_edit.proofs.Told.{slots_told, open_told, edited_after}
use Rattle.imsm_edit.proofs.Opened.{slots_stay, opened, long_state}
use Rattle.imsm_edit.proofs.passes.start_pass.Goals as goal

pub set_open_pass-requires-clause-open : goal.set_open_pass-requires-clause-open
set_open_pass-requires-clause-open c =
    let b : Block = parts_of c.args.book.now in
    let count = volumes_counted c.args.book.now.bytes in
    let below : c.args.v.0 < length b.volumes = omega arith in
    open_told b (parts_of c.open_pass.new.book) c.args.v.0 with_migration below c.in_ok-open_pass.ensures.block (opened (volume_at c.args.v.0 b) (long_state c.args.book.now.bytes c.args.v.0 c.requires.volume))

pub set_open_pass-requires-clause-slots : goal.set_open_pass-requires-clause-slots
set_open_pass-requires-clause-slots c =
    let b : Block = parts_of c.args.book.now in
    let count = volumes_counted c.args.book.now.bytes in
    let below : c.args.v.0 < length b.volumes = omega arith in
    slots_told b (parts_of c.open_pass.new.book) c.args.v.0 with_migration c.view_of-view.result c.view_of-view.ensures below c.in_ok-open_pass.ensures.block
    (slots_stay (volume_at c.args.v.0 b) (maps_counted c.args.book.now.bytes c.args.v.0 c.requires.volume))

pub returns-clause-block : goal.returns-clause-block
returns-clause-block c =
    let b : Block = parts_of c.args.book.now in
    let mid : Block = parts_of c.open_pass.new.book in
    edited_after b mid (parts_of c.set_open_pass.new.book) c.args.v.0 (is_told c.args.facts.now.broken.items c.args.v.0) with_migration (volume_with_pass c.args.kind 0) (with_pass c.args.kind 0) c.in_ok-open_pass.ensures.block
    (subst (λ (t : Bool). parts_of c.set_open_pass.new.book ≡ edited mid c.args.v.0 t (volume_with_pass c.args.kind 0)) c.is_broken.ensures c.set_open_pass.ensures.block) refl
