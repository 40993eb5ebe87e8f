-- The created block has the volumes that were asked for, and its disks are whole by it.
use Rattle.std.proofs.Common.{◌≡◌, ℕ, zero, suc, ◌+◌, ◌^◌, ◌<◌, ◌≤◌, ◌==◌, ◌&&◌, max, not, Bool, true, false, cond, Option, Some, None, List, [], ◌∷◌, length, map, refl, sym, ◌∙◌, ap, subst, arith}
use Rattle.std.specs.Prelude.{All, unwrap_or, find, nat_lt, slice_get}
use Rattle.std.specs.Option.{IsSomeAnd, option_map_or}
use Rattle.std.specs.List.{range_with_len, AllByRecursion}
use Rattle.std.specs.Str.{bytes_eq}
use Rattle.std.proofs.lemmas.Bool.{and_parts, le-ltb, and_right}
use Rattle.std.proofs.lemmas.List.Elements.{recursion_from_All}
use Rattle.std.proofs.lemmas.Slice.Eq.{bytes_eq-Decides}
use Rattle.units.specs.declared.bounds.TheConstants.{METADATA_SECTORS}
use Rattle.byteorder.specs.Endian.{little_bytes}
use Rattle.imsm_base.proofs.Sealed.{number-four}
use Rattle.imsm_base.specs.Fields.{Part, number}
use Rattle.imsm_base.specs.Layout.{Block, Volume, Map, serial_of, total_blocks_of, family_of, orig_family_of, bytes_of, generation_of, disk_count_of, pba_of, blocks_per_member_of}
use Rattle.imsm_base.specs.Volumes.{first_map, is_over}
use Rattle.imsm_base.specs.Whole.{block_sum, IsWholeDisk, AreApart, is_expected, own_record, first_of}
use Rattle.new_container.specs.declared.container.NewContainer.{NewContainer}
use Rattle.new_container.specs.declared.disk.NewDisk.{NewDisk}
use Rattle.new_container.specs.declared.volume.NewVolume.{NewVolume}
use Rattle.new_container.specs.Fits.{container_fits, rows_over, second_fits, second_rows, total_rows, volume_fits}
use Rattle.new_container.specs.Created.{CanCreate, IsDisk, block_with, created_block, created_bytes, created_family, created_volume, created_volumes, disk_part, second_volume, second_count}
use Rattle.new_container.specs.Fresh.{HasVolumes, IsFresh}
use Rattle.new_container.proofs.Whole.{created_whole, few_disks}
use Rattle.new_container.proofs.Fresh.{all_in_sync, asked_is, halves, rooms, rows_small, sectors_is, supported_is}

-- THE VOLUMES LIE APART

-- a sector behind the rows of the first volume isn't in its range
behind_first : (count start : ℕ) (first : NewVolume) → rows_over first count < 2 ^ 41 → rows_over first count ≤ start →
    nat_lt start (pba_of (first_map (created_volume 0 0 first count)) + blocks_per_member_of (first_map (created_volume 0 0 first count))) ≡ false
behind_first count start first small behind =
    let r : ℕ = rows_over first count in
    let place : pba_of (first_map (created_volume 0 0 first count)) ≡ 0 = halves 0 (omega arith) in
    let blocks : blocks_per_member_of (first_map (created_volume 0 0 first count)) ≡ r = halves r (omega arith) in
    le-ltb _ _ (omega arith)

-- and the second volume begins there
over_first : (count : ℕ) (first second : NewVolume) → rows_over first count < 2 ^ 41 → is_over (created_volume 0 0 first count) (created_volume 1 (rows_over first count) second count) ≡ false
over_first count first second small =
    let m0 : Map = first_map (created_volume 0 0 first count) in
    let m1 : Map = first_map (created_volume 1 (rows_over first count) second count) in
    let start : ℕ = max (pba_of m0) (pba_of m1) in
    let place : pba_of m1 ≡ rows_over first count = halves (rows_over first count) (omega arith) in
    and_right _ _ (ap (λ (t : Bool). t && nat_lt start (pba_of m1 + blocks_per_member_of m1)) (behind_first count start first small (omega arith)))

over_second : (count : ℕ) (first second : NewVolume) → rows_over first count < 2 ^ 41 → is_over (created_volume 1 (rows_over first count) second count) (created_volume 0 0 first count) ≡ false
over_second count first second small =
    let m0 : Map = first_map (created_volume 0 0 first count) in
    let m1 : Map = first_map (created_volume 1 (rows_over first count) second count) in
    let place : pba_of m1 ≡ rows_over first count = halves (rows_over first count) (omega arith) in
    and_right _ _ (and_right _ _ (behind_first count (max (pba_of m1) (pba_of m0)) first small (omega arith)))

abbrev over_at : List Volume → ℕ → Volume → ℕ → Bool
over_at volumes k v other = not (other == k) && option_map_or (is_over v) (slice_get volumes other) false

none_over_first : (count : ℕ) (first : NewVolume) (second : Option NewVolume) → rows_over first count < 2 ^ 41 →
    let volumes = created_volume 0 0 first count ∷ second_volume (rows_over first count) second count in
    find (over_at volumes 0 (created_volume 0 0 first count)) (range_with_len 0 (length volumes)) ≡ None
none_over_first count first None small = refl
none_over_first count first (Some second) small = ap (λ (t : Bool). cond t (Some 1) None) (over_first count first second small)

none_over_second : (count : ℕ) (first second : NewVolume) → rows_over first count < 2 ^ 41 →
    let v = created_volume 1 (rows_over first count) second count in
    let volumes = created_volume 0 0 first count ∷ v ∷ [] in
    find (over_at volumes 1 v) (range_with_len 0 (length volumes)) ≡ None
none_over_second count first second small = ap (λ (t : Bool). cond t (Some 0) None) (over_second count first second small)

-- THEY START

fresh_first : (sum family : ℕ) (made : NewContainer) (disks : List NewDisk) → CanCreate made disks → AllByRecursion IsDisk disks →
    IsFresh (block_with sum family made disks) 0 (created_volume 0 0 made.first (length disks))
unfolding block_with
fresh_first sum family made disks can typed =
    let b : Block = block_with sum family made disks in
    let few = few_disks made (length disks) can.fits in
    let fits = (and_parts (volume_fits made.first (length disks)) _ can.fits).0 in
    let room = recursion_from_All (λ (d : NewDisk). total_rows made (length disks) + METADATA_SECTORS ≤ d.sectors) disks can.room in
    let needed : ℕ = 0 + rows_over made.first (length disks) + METADATA_SECTORS in
    let all = rooms needed (total_rows made (length disks) + METADATA_SECTORS) disks (omega arith) typed room in
    record {
      supported = supported_is b disks 0 0 made.first refl (omega arith) few.1 (omega arith) fits all (none_over_first (length disks) made.first made.second (rows_small made.first (length disks) fits));
      clean = refl;
      idle = refl;
      normal = refl;
      in_sync = all_in_sync b disks 0 0 made.first needed refl few.1 all;
    }

second_fitting : (made : NewContainer) (count : ℕ) (asked : NewVolume) → made.second ≡ Some asked → container_fits made count ≡ true → volume_fits asked count ≡ true
second_fitting made count asked is fits = sym (ap (λ (s : Option NewVolume). second_fits s count) is) ∙ (and_parts (volume_fits made.first count) _ fits).1

fresh_second : (b : Block) (made : NewContainer) (disks : List NewDisk) (asked : NewVolume) → made.second ≡ Some asked → CanCreate made disks → AllByRecursion IsDisk disks →
    b.disks ≡ map disk_part disks → b.volumes ≡ created_volumes made (length disks) → disk_count_of b ≡ length disks →
    IsFresh b 1 (created_volume 1 (rows_over made.first (length disks)) asked (length disks))
fresh_second b made disks asked is can typed records volumes counted =
    let count : ℕ = length disks in
    let r : ℕ = rows_over made.first count in
    let v : Volume = created_volume 1 r asked count in
    let few = few_disks made count can.fits in
    let fits = (and_parts (volume_fits made.first count) _ can.fits).0 in
    let small = rows_small made.first count fits in
    let room = recursion_from_All (λ (d : NewDisk). total_rows made count + METADATA_SECTORS ≤ d.sectors) disks can.room in
    let needed : ℕ = r + rows_over asked count + METADATA_SECTORS in
    let same : total_rows made count ≡ r + rows_over asked count = ap (λ (s : Option NewVolume). r + second_rows s count) is in
    let all = rooms needed (total_rows made count + METADATA_SECTORS) disks (omega arith) typed room in
    let two : b.volumes ≡ created_volume 0 0 made.first count ∷ v ∷ [] = volumes ∙ ap (λ (s : Option NewVolume). created_volume 0 0 made.first count ∷ second_volume r s count) is in
    record {
      supported = supported_is b disks 1 r asked records counted few.1 (omega arith) (second_fitting made count asked is can.fits) all
          (ap (λ (vs : List Volume). find (over_at vs 1 v) (range_with_len 0 (length vs))) two ∙ none_over_second count made.first asked small);
      clean = refl;
      idle = refl;
      normal = refl;
      in_sync = all_in_sync b disks 1 r asked needed records few.1 all;
    }

length-created_volumes : (made : NewContainer) (count : ℕ) (second : Option NewVolume) → made.second ≡ second → length (created_volumes made count) ≡ 1 + second_count made.second
length-created_volumes made count None is =
    ap (λ (s : Option NewVolume). suc (length (second_volume (rows_over made.first count) s count))) is ∙ sym (ap (λ (s : Option NewVolume). 1 + second_count s) is)
length-created_volumes made count (Some v) is =
    ap (λ (s : Option NewVolume). suc (length (second_volume (rows_over made.first count) s count))) is ∙ sym (ap (λ (s : Option NewVolume). 1 + second_count s) is)

volumes_with : (sum family : ℕ) (made : NewContainer) (disks : List NewDisk) → CanCreate made disks → AllByRecursion IsDisk disks → HasVolumes (block_with sum family made disks) made (length disks)
unfolding block_with
volumes_with sum family made disks can typed =
    let count : ℕ = length disks in
    let r : ℕ = rows_over made.first count in
    let fits = (and_parts (volume_fits made.first count) _ can.fits).0 in
    let small = rows_small made.first count fits in
    record {
      number = length-created_volumes made count made.second refl;
      first = (created_volume 0 0 made.first count, refl, asked_is 0 0 made.first count (omega arith) fits, fresh_first sum family made disks can typed);
      second = λ asked is. (
        created_volume 1 r asked count,
        ap (λ (s : Option NewVolume). slice_get (created_volume 0 0 made.first count ∷ second_volume r s count) 1) is,
        asked_is 1 r asked count (omega arith) (second_fitting made count asked is can.fits),
        fresh_second (block_with sum family made disks) made disks asked is can typed refl refl (omega arith),
      );
    }

pub created_volumes_are : (made : NewContainer) (disks : List NewDisk) → CanCreate made disks → All IsDisk disks → HasVolumes (created_block made disks) made (length disks)
unfolding created_block
created_volumes_are made disks can typed = volumes_with _ _ made disks can (recursion_from_All IsDisk disks typed)

-- THE DISKS ARE WHOLE

serial_in : (disks : List NewDisk) (i : ℕ) (d : NewDisk) (x : List ℕ) → slice_get disks i ≡ Some d → AllByRecursion (λ y. (x ≡ y) → ⊥) (map (λ (e : NewDisk). e.serial.0) disks) → x ≡ d.serial.0 → ⊥
serial_in [] i d x at apart same = cc
serial_in (e ∷ es) zero d x at apart same = let here : e ≡ d = cc in apart.0 (same ∙ sym (ap (λ (f : NewDisk). f.serial.0) here))
serial_in (e ∷ es) (suc i) d x at apart same = serial_in es i d x at apart.1 same

-- the record that is found for a disk's serial is its own
own_found : (disks : List NewDisk) (i : ℕ) (d : NewDisk) → AreApart (map (λ (e : NewDisk). e.serial.0) disks) → slice_get disks i ≡ Some d →
    find (λ r. is_expected r && bytes_eq (serial_of r) d.serial.0) (map disk_part disks) ≡ Some (disk_part d)
own_found [] i d apart at = cc
own_found (e ∷ es) zero d apart at =
    let here : e ≡ d = cc in
    let same : bytes_eq e.serial.0 d.serial.0 ≡ true = (bytes_eq-Decides e.serial.0 d.serial.0).1 (ap (λ (f : NewDisk). f.serial.0) here) in
    ap (λ (t : Bool). cond t (Some (disk_part e)) (find (λ r. is_expected r && bytes_eq (serial_of r) d.serial.0) (map disk_part es))) same
    ∙ ap (λ (f : NewDisk). Some (disk_part f)) here
own_found (e ∷ es) (suc i) d apart at =
    let rest : Option Part = find (λ r. is_expected r && bytes_eq (serial_of r) d.serial.0) (map disk_part es) in
    ap (λ (t : Bool). cond t (Some (disk_part e)) rest) (other (bytes_eq e.serial.0 d.serial.0) refl) ∙ own_found es i d apart.1 at
  where
    other : (t : Bool) → bytes_eq e.serial.0 d.serial.0 ≡ t → t ≡ false
    other true is = absurd (serial_in es i d e.serial.0 at apart.0 ((bytes_eq-Decides e.serial.0 d.serial.0).0 is))
    other false is = refl

all_at : (P : NewDisk → Type 0) (disks : List NewDisk) (i : ℕ) (d : NewDisk) → AllByRecursion P disks → slice_get disks i ≡ Some d → P d
all_at P [] i d all at = cc
all_at P (e ∷ es) zero d all at = let here : e ≡ d = cc in subst P here all.0
all_at P (e ∷ es) (suc i) d all at = all_at P es i d all.1 at

own_is : (sum family : ℕ) (made : NewContainer) (disks : List NewDisk) (i : ℕ) (d : NewDisk) → AreApart (map (λ (e : NewDisk). e.serial.0) disks) → slice_get disks i ≡ Some d →
    own_record d.serial.0 (block_with sum family made disks) ≡ Some (disk_part d)
unfolding block_with
own_is sum family made disks i d apart at =
    ap (λ (o : Option Part). first_of o (find (λ r. bytes_eq (serial_of r) d.serial.0) (map disk_part disks))) (own_found disks i d apart at)

pub created_disk : (made : NewContainer) (disks : List NewDisk) → CanCreate made disks → All IsDisk disks → (i : ℕ) (d : NewDisk) → slice_get disks i ≡ Some d →
    IsWholeDisk d.serial.0 d.sectors (created_bytes made disks) (created_block made disks)
unfolding created_block
created_disk made disks can typed i d at =
    let each = recursion_from_All IsDisk disks typed in
    let room : total_rows made (length disks) + METADATA_SECTORS ≤ d.sectors =
    all_at (λ (e : NewDisk). total_rows made (length disks) + METADATA_SECTORS ≤ e.sectors) disks i d (recursion_from_All (λ (e : NewDisk). total_rows made (length disks) + METADATA_SECTORS ≤ e.sectors) disks can.room) at in
    let sectors = sectors_is d (all_at IsDisk disks i d each at) in
    let fits : total_blocks_of (disk_part d) ≤ d.sectors = omega arith in
    record {
      enough = omega arith;
      whole = created_whole made disks can each;
      own_fits = subst (λ (o : Option Part). IsSomeAnd o (λ r. total_blocks_of r ≤ d.sectors)) (sym (own_is _ _ made disks i d can.apart at)) fits;
    }

pub created_generation : (made : NewContainer) (disks : List NewDisk) → generation_of (created_block made disks) ≡ 1
unfolding created_block block_with
created_generation made disks = refl

pub given_family : (made : NewContainer) (disks : List NewDisk) (family : ℕ) → made.family ≡ Some family → family < 2 ^ 32 →
    (family_of (created_block made disks) ≡ family) × (orig_family_of (created_block made disks) ≡ family)
unfolding created_block created_family block_with
given_family made disks family is below =
    let given : created_family made disks ≡ family = ap (λ (o : Option ℕ). unwrap_or o (block_sum (bytes_of (block_with 0 0 made disks)))) is in
    let read : number (little_bytes 4 (created_family made disks)) ≡ family = ap (λ (n : ℕ). number (little_bytes 4 n)) given ∙ number-four family below in
    (read, read)
