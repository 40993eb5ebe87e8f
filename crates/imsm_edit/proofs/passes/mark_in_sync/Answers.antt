use Rattle.std.proofs.Common.{◌≡◌, ◌<◌, Bool, false, List, length, refl, ◌∙◌, ap, subst, arith}
use Rattle.imsm_base.specs.Layout.{Block}
use Rattle.imsm_base.specs.EditsOfTables.{with_volume, volume_without_migration}
use Rattle.imsm_codec.specs.Mpb.{volume_at}
use Rattle.imsm_codec.proofs.Found.{volumes_counted}
use Rattle.imsm_buffer.specs.Buffer.{parts_of}
use Rattle.imsm_edit.specs.Meanings.{edited, is_told}
use Rattle.imsm_edit.specs.Slots.{maps_marked, volume_marked, seen_with, with_pass_over}
use Rattle.imsm_edit.proofs.Told.{open_told, edited_after}
use Rattle.imsm_edit.proofs.Marked.{seen_is, marked_as}
use Rattle.imsm_edit.proofs.passes.mark_in_sync.Goals as goal

pub close_pass-requires-clause-open : goal.close_pass-requires-clause-open
close_pass-requires-clause-open c =
    let b : Block = parts_of c.args.book.now in
    let count = volumes_counted c.args.book.now.bytes in
    let below : c.args.v.0 < length b.volumes = omega arith in
    open_told b (parts_of c.mark_maps.new.book) c.args.v.0 (maps_marked false (seen_with c.as_slice-2.result.now c.as_slice.result.now)) below c.mark_maps.ensures.block c.requires.open

pub returns-clause-block : goal.returns-clause-block
returns-clause-block c =
    let b : Block = parts_of c.args.book.now in
    let mid : Block = parts_of c.mark_maps.new.book in
    let working : List Bool = c.args.facts.now.working.items in
    let marked : mid ≡ with_volume c.args.v.0 (volume_marked false (is_told working)) b =
    marked_as b mid c.args.v.0 false (is_told working) c.as_slice-2.result.now c.as_slice.result.now
    (ap (λ (ds : List Bool). seen_with ds c.as_slice.result.now) c.as_slice-2.ensures.value ∙ ap (seen_with working) c.as_slice.ensures.value
    ∙ seen_is b (volume_at c.args.v.0 b) c.view_of-view.result working c.view_of-view.ensures) c.mark_maps.ensures.block in
    edited_after b mid (parts_of c.close_pass.new.book) c.args.v.0 (is_told c.args.facts.now.broken.items c.args.v.0) (volume_marked false (is_told working)) volume_without_migration (with_pass_over working) marked
    (subst (λ (t : Bool). parts_of c.close_pass.new.book ≡ edited mid c.args.v.0 t volume_without_migration) c.is_broken.ensures c.close_pass.ensures.block) refl
