-- The blocks of new containers are of the form that edits keep.
use Rattle.std.proofs.Common.{◌≡◌, ℕ, zero, suc, ◌+◌, ◌≤◌, ◌<◌, ◌&&◌, true, List, [], ◌∷◌, length, drop, get_or, Option, Some, None, refl, sym, ◌∙◌, ap, subst, inl, inr, arith}
use Rattle.std.specs.Prelude.{All, nat_lt, slice_get, sum_by}
use Rattle.std.specs.List.{list_all}
use Rattle.std.proofs.lemmas.Bool.{and_from, eq-eqb, le-leb, lt-ltb, cases_lt}
use Rattle.std.proofs.lemmas.List.Elements.{All-get_or, recursion_from_All}
use Rattle.std.proofs.lemmas.Option.{slice_get-get_or, slice_get_past, get_or_from_slice_get}
use Rattle.units.specs.Places.{extended_count}
use Rattle.imsm_codec.specs.Mpb.{volume_at, blank_volume}
use Rattle.imsm_base.specs.Fields.{number_at}
use Rattle.imsm_base.specs.Layout.{Block, Volume, size_of, bytes_of}
use Rattle.imsm_base.specs.Whole.{IsWholeBlock}
use Rattle.imsm_base.specs.Volumes.{second_map_bytes, volume_fault, volume_rows}
use Rattle.imsm_base.proofs.Joined.{block_in-spelled}
use Rattle.array_model.specs.Blocks.{Laid}
use Rattle.array_model.specs.Start.{Start}
use Rattle.block_meaning.specs.Meaning.{bytes_of_laid}
use Rattle.block_meaning.specs.Reading.{parts_of}
use Rattle.block_meaning.specs.Whole.{is_whole_block}
use Rattle.block_meaning.proofs.Decided.{whole-decided}
use Rattle.new_container.specs.declared.container.NewContainer.{NewContainer}
use Rattle.new_container.specs.declared.disk.NewDisk.{NewDisk}
use Rattle.new_container.specs.declared.volume.NewVolume.{NewVolume}
use Rattle.new_container.specs.Fits.{rows_over, second_rows, total_rows}
use Rattle.new_container.specs.Created.{CanCreate, IsDisk, block_with, created_block, created_bytes, created_size, created_volume, created_volumes, second_count, second_volume, volume_count}
use Rattle.new_container.specs.Fresh.{HasVolumes}
use Rattle.new_container.proofs.Whole.{created_whole, few_disks, length-block_with}
use Rattle.new_container.proofs.Started.{created_volumes_are}
use Rattle.array_edits.specs.Laying.{laid_of}
use Rattle.array_edits.specs.Formed.{has_bounds, has_short_rows, is_served, is_placed, is_full, is_formed}
use Rattle.array_edits.proofs.Laid.{length-first, sectors-full, laid-bytes, laid-extra, size_is}
use Rattle.array_edits.proofs.Supports.{all_from}
use Rattle.array_edits.proofs.Moves.{IsServed}
use Rattle.array_edits.proofs.Sound.{served_test}

-- ITS BOUNDS

small_by : (first : NewVolume) (second : Option NewVolume) (pba count : ℕ) → 2 ≤ count → count ≤ 8 →
    created_size count (1 + second_count second) + sum_by second_map_bytes (created_volume 0 0 first count ∷ second_volume pba second count) ≤ 8192
small_by first None pba count some few = omega arith
small_by first (Some v) pba count some few = omega arith

bounds_with : (sum family : ℕ) (made : NewContainer) (disks : List NewDisk) → CanCreate made disks → All IsDisk disks →
    length (bytes_of (block_with sum family made disks)) + sum_by second_map_bytes (block_with sum family made disks).volumes ≤ 8192
unfolding block_with
bounds_with sum family made disks can typed =
    let few = few_disks made (length disks) can.fits in
    subst (λ (n : ℕ). n + sum_by second_map_bytes (created_volumes made (length disks)) ≤ 8192) (sym (length-block_with sum family made disks (recursion_from_All IsDisk disks typed)))
    (small_by made.first made.second (rows_over made.first (length disks)) (length disks) few.0 few.1)

created_bounds : (made : NewContainer) (disks : List NewDisk) → CanCreate made disks → All IsDisk disks → length (created_bytes made disks) + sum_by second_map_bytes (created_block made disks).volumes ≤ 8192
unfolding created_block created_bytes
created_bounds made disks can typed = bounds_with _ _ made disks can typed

-- ITS VOLUMES

found : (b : Block) (v : ℕ) (x : Volume) → slice_get b.volumes v ≡ Some x → volume_fault b v x ≡ None → IsServed b v
found b v x there none = elim (cases_lt v (length b.volumes)) [
  | inl below ↦
      let at : volume_at v b ≡ x = cc (sym (slice_get-get_or b.volumes v blank_volume below) ∙ there) in
      record { below = below; supported = ap (volume_fault b v) at ∙ none }
  | inr past ↦ absurd (cc (sym (slice_get_past b.volumes v past) ∙ there))
]

served_by : (made : NewContainer) (disks : List NewDisk) (v : ℕ) (second : Option NewVolume) → made.second ≡ second → HasVolumes (created_block made disks) made (length disks) → v < 1 + second_count second → IsServed (created_block made disks) v
served_by made disks zero second e has below = let h = has.first in found (created_block made disks) 0 h.0 h.1 h.3.supported
served_by made disks (suc zero) (Some asked) e has below = let h = has.second asked e in found (created_block made disks) 1 h.0 h.1 h.3.supported
served_by made disks (suc zero) None e has below = absurd (omega arith)
served_by made disks (suc (suc v)) (Some asked) e has below = absurd (omega arith)
served_by made disks (suc (suc v)) None e has below = absurd (omega arith)

pub created_served : (made : NewContainer) (disks : List NewDisk) (v : ℕ) → CanCreate made disks → All IsDisk disks → v < volume_count made → IsServed (created_block made disks) v
created_served made disks v can typed below = served_by made disks v made.second refl (created_volumes_are made disks can typed) below

-- ITS ROWS

few_of : (second : Option NewVolume) → 1 + second_count second ≤ 2
few_of None = omega arith
few_of (Some v) = omega arith

created_short : (made : NewContainer) (disks : List NewDisk) → CanCreate made disks → All IsDisk disks → has_short_rows (created_block made disks) ≡ true
created_short made disks can typed = all_from (λ (v : Volume). nat_lt (volume_rows v) 18446744073709551616) b.volumes each
  where
    b : Block
    b = created_block made disks

    has : HasVolumes b made (length disks)
    has = created_volumes_are made disks can typed

    -- a disk has room for all rows
    small : total_rows made (length disks) < 18446744073709551616
    small =
        let few = few_disks made (length disks) can.fits in
        let inside : 0 < length disks = omega (arith, few.0) in
        let room = All-get_or (λ (d : NewDisk). total_rows made (length disks) + 18 ≤ d.sectors) disks 0 (record { serial = record { 0 = [] }; sectors = 0 }) inside can.room in
        let most = (All-get_or IsDisk disks 0 (record { serial = record { 0 = [] }; sectors = 0 }) inside typed).sectors in
        omega (arith, room, most)

    short_at : (k n : ℕ) (v d : Volume) → slice_get b.volumes k ≡ Some v → volume_rows v ≡ n → n < 18446744073709551616 → nat_lt (volume_rows (get_or b.volumes k d)) 18446744073709551616 ≡ true
    short_at k n v d there rows below =
        ap (λ (x : Volume). nat_lt (volume_rows x) 18446744073709551616) (get_or_from_slice_get b.volumes k v d there)
        ∙ ap (λ (x : ℕ). nat_lt x 18446744073709551616) rows ∙ lt-ltb n 18446744073709551616 below

    second : (s : Option NewVolume) (d : Volume) → made.second ≡ s → 1 < 1 + second_count s → nat_lt (volume_rows (get_or b.volumes 1 d)) 18446744073709551616 ≡ true
    second None d is below = absurd (omega arith)
    second (Some asked) d is below =
        let found = has.second asked is in
        let rows : second_rows made.second (length disks) ≡ rows_over asked (length disks) = ap (λ (o : Option NewVolume). second_rows o (length disks)) is in
        short_at 1 (rows_over asked (length disks)) found.0 d found.1 found.2.rows (omega (arith, small, rows))

    each : (k : ℕ) (d : Volume) → k < length b.volumes → nat_lt (volume_rows (get_or b.volumes k d)) 18446744073709551616 ≡ true
    each zero d below = let found = has.first in short_at 0 (rows_over made.first (length disks)) found.0 d found.1 found.2.rows (omega (arith, small))
    each (suc zero) d below = second made.second d refl (omega (arith, has.number))
    each (suc (suc k)) d below = absurd (omega (arith, has.number, few_of made.second))

-- THE FORM

-- each block with these bytes, in full sectors
pub created_formed : (start : Start) (made : NewContainer) (disks : List NewDisk) (m : Laid) → CanCreate made disks → All IsDisk disks → bytes_of_laid m ≡ created_bytes made disks → is_placed m ≡ true →
    ((v : ℕ) → start.is_started v ≡ true → v < volume_count made) → is_formed start m ≡ true
created_formed start made disks m can typed bytes placed few =
    let b : Block = created_block made disks in
    let w : IsWholeBlock (bytes_of_laid m) b = subst (λ (x : List ℕ). IsWholeBlock x b) (sym bytes) (created_whole made disks can (recursion_from_All IsDisk disks typed)) in
    let parts : parts_of m ≡ b = block_in-spelled (bytes_of_laid m) b w.spells in
    let bounds = created_bounds made disks can typed in
    let long : size_of b ≡ length (created_bytes made disks) = w.given ∙ ap (λ (x : List ℕ). length x) bytes in
    let served : (v : ℕ) → is_served start b v ≡ true = λ v. served_test start b v (start.is_started v) refl (λ started. created_served made disks v can typed (few v started)) in
    and_from (is_placed m && is_whole_block (bytes_of_laid m) (parts_of m) && has_bounds (parts_of m) && list_all (is_served start (parts_of m)) (0 ∷ 1 ∷ [])) (has_short_rows (parts_of m))
    (and_from (is_placed m && is_whole_block (bytes_of_laid m) (parts_of m) && has_bounds (parts_of m)) (list_all (is_served start (parts_of m)) (0 ∷ 1 ∷ []))
    (and_from (is_placed m && is_whole_block (bytes_of_laid m) (parts_of m)) (has_bounds (parts_of m))
    (and_from (is_placed m) (is_whole_block (bytes_of_laid m) (parts_of m)) placed
    ((whole-decided (bytes_of_laid m)).1 (subst (IsWholeBlock (bytes_of_laid m)) (sym parts) w)))
    (ap has_bounds parts ∙ le-leb _ _ (omega arith)))
    (ap (λ (x : Block). list_all (is_served start x) (0 ∷ 1 ∷ [])) parts ∙ and_from (is_served start b 0) _ (served 0) (and_from (is_served start b 1) true (served 1) refl)))
    (ap has_short_rows parts ∙ created_short made disks can typed)

-- and it is laid so
created_size-at : (bytes : List ℕ) (b : Block) → IsWholeBlock bytes b → number_at 4 36 bytes ≡ length bytes
created_size-at bytes b w = size_is bytes ∙ ap size_of (block_in-spelled bytes b w.spells) ∙ w.given

pub created_laid : (made : NewContainer) (disks : List NewDisk) → CanCreate made disks → All IsDisk disks → (bytes_of_laid (laid_of (created_bytes made disks)) ≡ created_bytes made disks) × (is_placed (laid_of (created_bytes made disks)) ≡ true)
created_laid made disks can typed =
    let bytes : List ℕ = created_bytes made disks in
    let w : IsWholeBlock bytes (created_block made disks) = created_whole made disks can (recursion_from_All IsDisk disks typed) in
    let least = w.sized.least in
    let given = w.given in
    let size : number_at 4 36 bytes ≡ length bytes = created_size-at bytes (created_block made disks) w in (
      laid-bytes bytes (omega arith) size,
      and_from (is_full (laid_of bytes).anchor && list_all is_full (laid_of bytes).extended) _
          (and_from (is_full (laid_of bytes).anchor) _ (eq-eqb _ _ (length-first bytes)) (sectors-full (extended_count (length bytes)) (drop 512 bytes)))
          (eq-eqb _ _ (laid-extra bytes (omega arith) size)),
    )
