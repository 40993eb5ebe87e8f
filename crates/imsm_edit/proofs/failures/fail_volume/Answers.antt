use Rattle.std.proofs.Common.{◌≡◌, ℕ, ◌==◌, Bool, List, true, sym, ◌∙◌, ap, subst, arith}
use Rattle.imsm_base.specs.Layout.{Block}
use Rattle.imsm_base.specs.EditsOfTables.{with_volume}
use Rattle.imsm_codec.specs.Mpb.{volume_at}
use Rattle.imsm_codec.proofs.Found.{volumes_counted, maps_counted}
use Rattle.imsm_codec.proofs.Places.{some_map}
use Rattle.imsm_buffer.specs.Buffer.{parts_of}
use Rattle.imsm_view.specs.declared.volume.Volume.{Volume as View}
use Rattle.imsm_view.specs.declared.volume.SlotView.{SlotView}
use Rattle.imsm_edit.specs.Meanings.{is_told}
use Rattle.imsm_edit.specs.Slots.{maps_marked, seen_with}
use Rattle.imsm_edit.specs.Failures.{without_member, settled, TellsLost}
use Rattle.imsm_edit.proofs.Marked.{marked_as, entries_counted}
use Rattle.imsm_edit.proofs.Lost.{lost_named, lost_told, lost_state, failed_idle, failed_started}
use Rattle.imsm_edit.proofs.failures.fail_volume.Goals as goal

-- the member is out of sync
marked_out : (b mid : Block) (k i : ℕ) (view : View) (disks : List Bool) (slots : List SlotView) → TellsLost b i (volume_at k b) view → ((j : ℕ) → is_told disks j ≡ (j == i)) → slots ≡ view.slots.items →
    mid ≡ with_volume k (maps_marked true (seen_with disks slots)) b → mid ≡ with_volume k (without_member i) b
marked_out b mid k i view disks slots told only same made =
    marked_as b mid k true (λ index. index == i) disks slots (ap (seen_with disks) same ∙ lost_named b i (volume_at k b) view disks told only) made

pub returns-then-not-is_started-clause-block : goal.returns-then-not-is_started-clause-block
returns-then-not-is_started-clause-block c =
    let b : Block = parts_of c.args.book.now in
    failed_idle b (parts_of c.mark_maps.new.book) c.args.v.0 c.args.i c.args.facts.now (sym c.is_started.ensures ∙ c.if-not-is_started.true)
    (marked_out b (parts_of c.mark_maps.new.book) c.args.v.0 c.args.i c.args.view c.only.result c.as_slice.result.now c.requires.told c.only.ensures c.as_slice.ensures.value c.mark_maps.ensures.block)

pub settle-requires-clause-told : goal.settle-requires-clause-told
settle-requires-clause-told c =
    let b : Block = parts_of c.args.book.now in
    let mid : Block = parts_of c.mark_maps.new.book in
    let volumes = volumes_counted c.args.book.now.bytes in
    let maps = maps_counted c.args.book.now.bytes c.args.v.0 c.requires.volume in
    let some = some_map (volume_at c.args.v.0 b) in
    lost_told b mid c.args.v.0 c.args.i c.args.view (omega arith) c.requires.told c.requires.failed (omega arith) (entries_counted c.args.book.now.bytes c.args.v.0 c.requires.volume)
    (marked_out b mid c.args.v.0 c.args.i c.args.view c.only.result c.as_slice.result.now c.requires.told c.only.ensures c.as_slice.ensures.value c.mark_maps.ensures.block)

pub settle-requires-clause-state : goal.settle-requires-clause-state
settle-requires-clause-state c =
    let b : Block = parts_of c.args.book.now in
    let mid : Block = parts_of c.mark_maps.new.book in
    let volumes = volumes_counted c.args.book.now.bytes in
    lost_state b mid c.args.v.0 c.args.i c.args.view.state (omega arith) c.requires.told.state
    (marked_out b mid c.args.v.0 c.args.i c.args.view c.only.result c.as_slice.result.now c.requires.told c.only.ensures c.as_slice.ensures.value c.mark_maps.ensures.block)

pub returns-clause-block : goal.returns-clause-block
returns-clause-block c =
    let b : Block = parts_of c.args.book.now in
    let mid : Block = parts_of c.mark_maps.new.book in
    failed_started b mid (parts_of c.settle.new.book) c.args.v.0 c.args.i c.args.facts.now (sym c.is_started.ensures ∙ c.if-not-is_started.false)
    (marked_out b mid c.args.v.0 c.args.i c.args.view c.only.result c.as_slice.result.now c.requires.told c.only.ensures c.as_slice.ensures.value c.mark_maps.ensures.block)
    (subst (λ (t : Bool). parts_of c.settle.new.book ≡ with_volume c.args.v.0 (settled mid t) mid) c.is_broken.ensures c.settle.ensures.block)
