use Rattle.std.proofs.Common.{◌≡◌, ◌∙◌, ◌+◌, ◌≤◌, ℕ, All, length, ap, inl, inr, subst, sym, refl}
use Rattle.std.specs.Prelude.{slice_index}
use Rattle.units.specs.declared.bounds.TheConstants.{METADATA_SECTORS}
use Rattle.imsm_base.specs.Layout.{Block, family_of}
use Rattle.imsm_base.proofs.Joined.{block_in-spelled}
use Rattle.imsm_buffer.specs.Buffer.{parts_of}
use Rattle.member_bank.specs.Told.{LogsAll}
use Rattle.new_container.specs.Created.{CanCreate, IsDisk, created_block, created_bytes}
use Rattle.new_container.specs.Fits.{container_fits, total_rows}
use Rattle.image_outside.specs.Told.{bank_told}
use Rattle.image_outside.specs.Views.{sink_told}
use Rattle.image_outside.proofs.Ended.{ends_as}
use Rattle.image_outside.specs.Lines.{failed_member_line}
use Rattle.image_create.specs.Calls.{create_calls}
use Rattle.image_create.specs.Creates.{CreatesBy, created_line, new_disks_of, small_line}
use Rattle.image_create.specs.Laid.{LaysDown}
use Rattle.image_create.specs.Room.{IsFirstBelow}
use Rattle.image_create.specs.Stops.{StopsAt}
use Rattle.image_create.proofs.Ending.{created_by, laid_or, none_below, of_same, stopped_by}
use Rattle.image_create.proofs.Listed.{can_create}
use Rattle.image_create.proofs.creating.create.Goals as goal

pub total_rows-rows-requires : goal.total_rows-rows-requires
total_rows-rows-requires g c =
    let serials = g.B.Bank.serials c.args.bank.now in
    let many : c.from.result ≡ length serials = c.from.ensures ∙ c.disks.ensures.count ∙ sym c.disks.ensures.named in
    ap (container_fits c.args.made.now) many ∙ c.requires.fits

pub returns-in-Some-clause-ends : goal.returns-in-Some-clause-ends
returns-in-Some-clause-ends g c =
    let bank = bank_told g.B.Bank c.args.bank.now in
    let made = c.args.made.now in
    let d = c.in-Some.d.0 in
    let many : c.from.result ≡ length bank.serials = c.from.ensures ∙ c.disks.ensures.count ∙ sym c.disks.ensures.named in
    let rows : c.total_rows-rows.result ≡ total_rows made (length bank.serials) = c.total_rows-rows.ensures.rows ∙ ap (total_rows made) many in
    let small = c.end_small.ensures in
    let line = small_line small.0 (slice_index bank.sizes d) in
    inl
    (ends_as (sink_told g.K.Sink c.args.sink.now) (sink_told g.K.Sink c.end_small.new.sink) line 3 (CreatesBy made bank) c.end_small.result.0
    (inr (inl (
      refl,
      record {
        fresh = record { named = refl; fresh = c.requires.fresh; sound = c.requires.sound };
        d = d;
        serial = small.0;
        first = subst (λ (n : ℕ). IsFirstBelow (n + METADATA_SECTORS) bank.sizes d) rows c.in-Some.ensures;
        named = small.1;
        lines_are = refl;
      },
    )))
    small.2)

pub new_block-requires : goal.new_block-requires
new_block-requires g c =
    let serials = g.B.Bank.serials c.args.bank.now in
    let sizes = g.B.Bank.sizes c.args.bank.now in
    let many : c.from.result ≡ length serials = c.from.ensures ∙ c.disks.ensures.count ∙ sym c.disks.ensures.named in
    let rows : c.total_rows-rows.result ≡ total_rows c.args.made.now (length serials) = c.total_rows-rows.ensures.rows ∙ ap (total_rows c.args.made.now) many in
    let room : All (λ n. total_rows c.args.made.now (length serials) + METADATA_SECTORS ≤ n) sizes =
    subst (λ (r : ℕ). All (λ n. r + METADATA_SECTORS ≤ n) sizes) rows c.in_default.ensures in
    subst (CanCreate c.args.made.now) (sym (c.as_slice.ensures.value ∙ c.in-Ok.ensures))
    (can_create c.args.made.now serials sizes c.disks.ensures.named c.requires.fits c.disks.ensures.distinct room)

pub returns-in-Ok-new_block-clause-refused : goal.returns-in-Ok-new_block-clause-refused
returns-in-Ok-new_block-clause-refused g c d below =
    let serials = g.B.Bank.serials c.args.bank.now in
    let sizes = g.B.Bank.sizes c.args.bank.now in
    let many : c.from.result ≡ length serials = c.from.ensures ∙ c.disks.ensures.count ∙ sym c.disks.ensures.named in
    let rows : c.total_rows-rows.result ≡ total_rows c.args.made.now (length serials) = c.total_rows-rows.ensures.rows ∙ ap (total_rows c.args.made.now) many in
    absurd (none_below (total_rows c.args.made.now (length serials) + METADATA_SECTORS) sizes d (subst (λ (r : ℕ). All (λ n. r + METADATA_SECTORS ≤ n) sizes) rows c.in_default.ensures) below)

pub returns-in-Ok-new_block-clause-ends : goal.returns-in-Ok-new_block-clause-ends
returns-in-Ok-new_block-clause-ends g c =
    let made = c.args.made.now in
    let before = bank_told g.B.Bank c.args.bank.now in
    let after = bank_told g.B.Bank c.lay_down-laid.new.bank in
    let disks = new_disks_of before.serials before.sizes in
    let many : c.from.result ≡ length before.serials = c.from.ensures ∙ c.disks.ensures.count ∙ sym c.disks.ensures.named in
    let rows : c.total_rows-rows.result ≡ total_rows made (length before.serials) = c.total_rows-rows.ensures.rows ∙ ap (total_rows made) many in
    let given : c.as_slice.result.now ≡ disks = c.as_slice.ensures.value ∙ c.in-Ok.ensures in
    let bytes : c.in-Ok-new_block.block.bytes ≡ created_bytes made disks = c.in-Ok-new_block.ensures.bytes ∙ ap (created_bytes made) given in
    let block = block_in-spelled c.in-Ok-new_block.block.bytes (created_block made c.as_slice.result.now) c.in-Ok-new_block.ensures.whole.spells ∙ ap (created_block made) given in
    let can = can_create made before.serials before.sizes c.disks.ensures.named c.requires.fits c.disks.ensures.distinct
    (subst (λ (r : ℕ). All (λ n. r + METADATA_SECTORS ≤ n) before.sizes) rows c.in_default.ensures) in
    let named = c.lay_down-laid.ensures.serials in
    let sized = c.lay_down-laid.ensures.sizes in
    let ends = ends_as (sink_told g.K.Sink c.args.sink.now) (sink_told g.K.Sink c.end_laid.new.sink) in
    inl
    (laid_or c.lay_down-laid.result c.lay_down-laid.ensures.ok c.lay_down-laid.ensures.laid c.end_laid.ensures.created c.lay_down-laid.ensures.err c.lay_down-laid.ensures.cause c.end_laid.ensures.failed
    (λ logs laid prints.
    ends (created_line (family_of (parts_of c.in-Ok-new_block.block))) 0 (CreatesBy made after) c.end_laid.result.0
    (created_by made before after _ named sized c.requires.fresh can c.disks.ensures.named
    (subst (All IsDisk) given c.in-Ok-new_block.ensures.disks)
    (of_same (λ r b. LogsAll before.log after.log (create_calls before.sizes r b)) rows bytes logs)
    (of_same (λ r b. LaysDown before.sizes r b after.opening before.log after.log) rows bytes laid)
    (ap (λ (b : Block). created_line (family_of b)) block))
    prints)
    (λ d stops cause tells.
    ends (failed_member_line tells.0) 13 (CreatesBy made after) c.end_laid.result.0
    (stopped_by made before after _ d.0 tells.0 named sized c.requires.fresh can c.requires.sound tells.1 cause
    (of_same (λ r b. StopsAt before.log after.log (create_calls before.sizes r b) d.0) rows bytes stops)
    refl)
    tells.2))
