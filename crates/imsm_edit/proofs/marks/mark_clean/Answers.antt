use Rattle.std.proofs.Common.{◌≡◌, ◌<◌, Bool, false, length, refl, ◌∙◌, subst, arith}
use Rattle.imsm_base.specs.Layout.{Block}
use Rattle.imsm_base.specs.Edits.{volume_with_dirty}
use Rattle.imsm_base.specs.EditsOfTables.{with_volume}
use Rattle.imsm_codec.specs.Mpb.{volume_at}
use Rattle.imsm_codec.proofs.Found.{volumes_counted}
use Rattle.imsm_buffer.specs.Buffer.{parts_of}
use Rattle.imsm_edit.specs.Meanings.{with_states, is_told}
use Rattle.imsm_edit.proofs.Changes.{dirty_is}
use Rattle.imsm_edit.proofs.Told.{told_by, edit_done, dirty_pass}
use Rattle.imsm_edit.proofs.marks.mark_clean.Goals as goal

pub set_states-requires-clause-told : goal.set_states-requires-clause-told
set_states-requires-clause-told c =
    let b : Block = parts_of c.args.book.now in
    let count = volumes_counted c.args.book.now.bytes in
    let below : c.args.v.0 < length b.volumes = omega arith in
    told_by b (parts_of c.set_dirty.new.self) c.args.v.0 (volume_with_dirty false) c.view_of-view.result c.view_of-view.ensures below
    (c.set_dirty.ensures.block ∙ dirty_is b c.args.v.0 false) (dirty_pass false (volume_at c.args.v.0 b)) refl

pub returns-clause-block : goal.returns-clause-block
returns-clause-block c =
    let b : Block = parts_of c.args.book.now in
    let mid : Block = parts_of c.set_dirty.new.self in
    edit_done b mid (parts_of c.set_states.new.book) c.args.v.0 (is_told c.args.facts.now.broken.items c.args.v.0) (volume_with_dirty false)
    (c.set_dirty.ensures.block ∙ dirty_is b c.args.v.0 false)
    (subst (λ (t : Bool). parts_of c.set_states.new.book ≡ with_volume c.args.v.0 (with_states mid t) mid) c.is_broken.ensures c.set_states.ensures.block)
