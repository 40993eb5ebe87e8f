-- The created block is whole, and its bytes are those that are numbered last.
use Rattle.std.proofs.Common.{◌≡◌, ℕ, zero, suc, ◌+◌, ◌*◌, ◌^◌, ◌<◌, ◌≤◌, true, Option, Some, None, List, [], ◌∷◌, length, map, replicate, refl, sym, ◌∙◌, ap, subst, inl, arith}
use Rattle.std.specs.Prelude.{filter, unwrap_or, nat_le}
use Rattle.std.specs.List.{range_with_len, AllByRecursion}
use Rattle.std.specs.Global.{Vec}
use Rattle.std.specs.Vec.{with_items}
use Rattle.std.specs.Prelude.{All, Result, Ok, IfOk}
use Rattle.std.proofs.lemmas.List.Elements.{recursion_from_All}
use Rattle.imsm_buffer.proofs.Kept.{written}
use Rattle.std.proofs.lemmas.Bool.{and_parts, eqb-true, leb-true}
use Rattle.std.proofs.lemmas.List.{length-map, take_all}
use Rattle.byteorder.specs.Endian.{little_bytes}
use Rattle.units.specs.declared.volume.Level.{Level}
use Rattle.units.specs.declared.volume.Level.TheVariants.{One, Five, Ten}
use Rattle.imsm_base.specs.Fields.{number, with_number_at}
use Rattle.imsm_base.specs.Layout.{Block, HasLengths, IsVolume, IsBlock, Spells, disk_lengths, serial_of, bytes_of}
use Rattle.imsm_base.specs.Parts.{block_in, volumes_room}
use Rattle.imsm_base.specs.Whole.{IsWholeBlock, IsWhole, IsSize, AreApart, is_expected, block_sum}
use Rattle.imsm_base.proofs.Joined.{length-bytes_of}
use Rattle.imsm_base.proofs.Edited.{IsFree, checksum_is_free, header-spells}
use Rattle.imsm_base.proofs.Sealed.{number-four, block_sum-spliced}
use Rattle.imsm_codec.specs.Given.{given_block, size_in}
use Rattle.imsm_codec.specs.Mpb.{block_bytes}
use Rattle.imsm_codec.specs.declared.fault.MpbFault.{MpbFault}
use Rattle.imsm_codec.specs.declared.mpb.MpbRef.{MpbRef}
use Rattle.imsm_codec.proofs.Wholeness.{whole_apart}
use Rattle.new_container.specs.declared.container.NewContainer.{NewContainer}
use Rattle.new_container.specs.declared.disk.NewDisk.{NewDisk}
use Rattle.new_container.specs.declared.volume.NewVolume.{NewVolume}
use Rattle.new_container.specs.Fits.{container_fits, rows_over, takes, volume_fits, is_in_range}
use Rattle.new_container.specs.Created.{CanCreate, IsDisk, block_with, created_block, created_bytes, created_family, created_size, created_volume, disk_part, second_count, second_volume, volume_count}
use Rattle.new_container.specs.Numbered.{numbered, with_family, with_sum}

-- WHAT IS LAID

disks_are : (disks : List NewDisk) → AllByRecursion IsDisk disks → AllByRecursion (HasLengths disk_lengths) (map disk_part disks)
disks_are [] all = tt
disks_are (d ∷ ds) all = (ap (λ (n : ℕ). n ∷ 4 ∷ 4 ∷ 4 ∷ 4 ∷ 4 ∷ 12 ∷ []) all.0.serial, disks_are ds all.1)

fours : (a n : ℕ) → map (λ (f : List ℕ). length f) (map (λ (k : ℕ). little_bytes 4 k) (range_with_len a n)) ≡ replicate n 4
fours a zero = refl
fours a (suc n) = ap (λ (xs : List ℕ). 4 ∷ xs) (fours (a + 1) n)

volume_is : (number_of pba : ℕ) (volume : NewVolume) (count : ℕ) → IsVolume (created_volume number_of pba volume count)
volume_is number_of pba volume count = record {
  device = refl;
  state = refl;
  count = refl;
  maps = (record { fields = refl; entries = fours 0 count ∙ ap (λ (n : ℕ). replicate n 4) (omega arith) }, tt);
}

second_is : (pba : ℕ) (second : Option NewVolume) (count : ℕ) → AllByRecursion IsVolume (second_volume pba second count)
second_is pba None count = tt
second_is pba (Some volume) count = (volume_is 1 pba volume count, tt)

length-second_volume : (pba : ℕ) (second : Option NewVolume) (count : ℕ) → length (second_volume pba second count) ≡ second_count second
length-second_volume pba None count = refl
length-second_volume pba (Some volume) count = refl

pub block_is : (sum family : ℕ) (made : NewContainer) (disks : List NewDisk) → AllByRecursion IsDisk disks → IsBlock (block_with sum family made disks)
unfolding block_with
block_is sum family made disks all = record {
  header = refl;
  disks = disks_are disks all;
  disk_count = length-map disks disk_part ∙ omega arith;
  volumes = (volume_is 0 0 made.first (length disks), second_is (rows_over made.first (length disks)) made.second (length disks));
  volume_count = omega (arith, length-second_volume (rows_over made.first (length disks)) made.second (length disks));
  tail = refl;
}

-- HOW LONG IT IS

-- a container fits few disks
pub few_of : (level : Level) (count : ℕ) → takes level count ≡ true → (2 ≤ count) × (count ≤ 8)
few_of One count e = let two : count ≡ 2 = eqb-true count 2 e in (omega arith, omega arith)
few_of Five count e =
    let parts = and_parts (nat_le 3 count) (nat_le count 8) e in
    let low : 3 ≤ count = leb-true 3 count parts.0 in
    let high : count ≤ 8 = leb-true count 8 parts.1 in
    (omega arith, omega arith)
few_of Ten count e = let four : count ≡ 4 = eqb-true count 4 e in (omega arith, omega arith)

pub level_taken : (volume : NewVolume) (count : ℕ) → volume_fits volume count ≡ true → takes volume.level count ≡ true
level_taken volume count fits = (and_parts _ _ (and_parts (is_in_range volume) _ fits).1).0

pub few_disks : (made : NewContainer) (count : ℕ) → container_fits made count ≡ true → (2 ≤ count) × (count ≤ 8)
few_disks made count fits = few_of made.first.level count (level_taken made.first count (and_parts (volume_fits made.first count) _ fits).0)

second_room : (pba : ℕ) (second : Option NewVolume) (count : ℕ) → volumes_room (second_volume pba second count) ≡ second_count second * (160 + 4 * count)
second_room pba None count = omega arith
second_room pba (Some volume) count = omega arith

pub length-block_with : (sum family : ℕ) (made : NewContainer) (disks : List NewDisk) → AllByRecursion IsDisk disks →
    length (bytes_of (block_with sum family made disks)) ≡ created_size (length disks) (volume_count made)
unfolding block_with
length-block_with sum family made disks all =
    let room = second_room (rows_over made.first (length disks)) made.second (length disks) in
    omega (arith, length-bytes_of (block_with sum family made disks) (block_is sum family made disks all))

size_by : (second : Option NewVolume) (count : ℕ) → 2 ≤ count → count ≤ 8 → IsSize (created_size count (1 + second_count second))
size_by None count some few = record { least = omega arith; most = omega arith; words = omega arith }
size_by (Some volume) count some few = record { least = omega arith; most = omega arith; words = omega arith }

-- THE NUMBERS THAT ARE PUT IN LAST

family_is_free : (f : ℕ) → IsFree 4 (little_bytes 4 f)
family_is_free f = record { below = omega arith; len = refl; inside = omega arith; disks = λ e. omega arith; volumes = λ e. omega arith; tail = λ e. omega arith }

orig_is_free : (f : ℕ) → IsFree 11 (little_bytes 4 f)
orig_is_free f = record { below = omega arith; len = refl; inside = omega arith; disks = λ e. omega arith; volumes = λ e. omega arith; tail = λ e. omega arith }

spelled : (sum family : ℕ) (made : NewContainer) (disks : List NewDisk) → AllByRecursion IsDisk disks → Spells (bytes_of (block_with sum family made disks)) (block_with sum family made disks)
spelled sum family made disks all = record { parts = block_is sum family made disks all; laid = refl }

family_put : (family : ℕ) (made : NewContainer) (disks : List NewDisk) → AllByRecursion IsDisk disks →
    with_family family (bytes_of (block_with 0 0 made disks)) ≡ bytes_of (block_with 0 family made disks)
unfolding block_with
family_put family made disks all =
    let first = header-spells (bytes_of (block_with 0 0 made disks)) (block_with 0 0 made disks) 4 (little_bytes 4 family) (spelled 0 0 made disks all) (family_is_free family) in
    (header-spells _ _ 11 (little_bytes 4 family) first (orig_is_free family)).laid

sum_put : (sum family : ℕ) (made : NewContainer) (disks : List NewDisk) → AllByRecursion IsDisk disks →
    with_number_at 4 0x20 sum (bytes_of (block_with 0 family made disks)) ≡ bytes_of (block_with sum family made disks)
unfolding block_with
sum_put sum family made disks all =
    (header-spells (bytes_of (block_with 0 family made disks)) (block_with 0 family made disks) 2 (little_bytes 4 sum) (spelled 0 family made disks all) (checksum_is_free sum)).laid

-- the bytes that are numbered last are those of the created block
pub numbered_is : (made : NewContainer) (disks : List NewDisk) → AllByRecursion IsDisk disks → numbered made.family (bytes_of (block_with 0 0 made disks)) ≡ created_bytes made disks
unfolding created_family created_block created_bytes
numbered_is made disks all =
    let family : ℕ = unwrap_or made.family (block_sum (bytes_of (block_with 0 0 made disks))) in
    ap with_sum (family_put family made disks all) ∙ sum_put (block_sum (bytes_of (block_with 0 family made disks))) family made disks all

-- IT IS WHOLE

all_expected : (disks : List NewDisk) → map serial_of (filter is_expected (map disk_part disks)) ≡ map (λ (d : NewDisk). d.serial.0) disks
all_expected [] = refl
all_expected (d ∷ ds) = ap (λ (xs : List (List ℕ)). d.serial.0 ∷ xs) (all_expected ds)

summed_is : (family : ℕ) (made : NewContainer) (disks : List NewDisk) → AllByRecursion IsDisk disks →
    let sum = block_sum (bytes_of (block_with 0 family made disks)) in block_sum (bytes_of (block_with sum family made disks)) ≡ sum
summed_is family made disks all =
    let sum : ℕ = block_sum (bytes_of (block_with 0 family made disks)) in
    sym (ap block_sum (sum_put sum family made disks all))
    ∙ block_sum-spliced (little_bytes 4 sum) (bytes_of (block_with 0 family made disks)) refl
    (omega (arith, length-block_with 0 family made disks all))

whole_with : (family : ℕ) (made : NewContainer) (disks : List NewDisk) → container_fits made (length disks) ≡ true → AreApart (map (λ (d : NewDisk). d.serial.0) disks) → AllByRecursion IsDisk disks →
    let sum = block_sum (bytes_of (block_with 0 family made disks)) in
    IsWholeBlock (bytes_of (block_with sum family made disks)) (block_with sum family made disks)
unfolding block_with
whole_with family made disks fits apart all =
    let sum : ℕ = block_sum (bytes_of (block_with 0 family made disks)) in
    let few = few_disks made (length disks) fits in
    let size : IsSize (created_size (length disks) (volume_count made)) = size_by made.second (length disks) few.0 few.1 in
    let most : created_size (length disks) (volume_count made) ≤ 8192 = size.most in
    let read : number (little_bytes 4 (created_size (length disks) (volume_count made))) ≡ created_size (length disks) (volume_count made) = number-four _ (omega arith) in
    let small : sum < 2 ^ 32 = omega arith in
    record {
      signed = refl;
      sized = subst IsSize (sym read) size;
      given = read ∙ sym (length-block_with sum family made disks all);
      summed = number-four sum small ∙ sym (summed_is family made disks all);
      counted = record { some_disk = omega arith; few_disks = omega arith; few_volumes = few_volumes made.second };
      apart = subst AreApart (sym (all_expected disks)) apart;
      spells = spelled sum family made disks all;
      tail = inl refl;
    }
  where
    few_volumes : (second : Option NewVolume) → 1 + second_count second + 256 * 0 ≤ 2
    few_volumes None = omega arith
    few_volumes (Some volume) = omega arith

pub created_whole : (made : NewContainer) (disks : List NewDisk) → CanCreate made disks → AllByRecursion IsDisk disks → IsWholeBlock (created_bytes made disks) (created_block made disks)
unfolding created_block created_bytes
created_whole made disks can all = whole_with (created_family made disks) made disks can.fits can.apart all

-- what is checked is all of a whole block
whole_given : (bytes : List ℕ) → IsWholeBlock bytes (block_in bytes) → size_in bytes ≡ length bytes
unfolding block_in
whole_given bytes w = w.given

pub given_is : (bytes : List ℕ) (b : Block) → IsWholeBlock bytes b → given_block bytes ≡ bytes
given_is bytes b w = let size = whole_given bytes (whole_apart bytes b w) in take_all (size_in bytes) bytes (omega arith)

-- THE CODE'S STEPS

pub unnumbered_long : (bytes : List ℕ) (made : NewContainer) (disks : List NewDisk) → All IsDisk disks → bytes ≡ bytes_of (block_with 0 0 made disks) → 216 ≤ length bytes
unnumbered_long bytes made disks all is =
    let len : length bytes ≡ created_size (length disks) (volume_count made) =
    ap (λ (x : List ℕ). length x) is ∙ length-block_with 0 0 made disks (recursion_from_All IsDisk disks all) in
    omega arith

-- what is numbered through a slice of the Vec
pub created_is : (v : Vec ℕ) (now new : List ℕ) (made : NewContainer) (disks : List NewDisk) → All IsDisk disks → v.items ≡ bytes_of (block_with 0 0 made disks) → now ≡ v.items →
    new ≡ numbered made.family now → (with_items v new).items ≡ created_bytes made disks
unfolding created_bytes created_block
created_is v now new made disks all is same numbers =
    let each = recursion_from_All IsDisk disks all in
    let family : ℕ = created_family made disks in
    let len = length-block_with 0 0 made disks each in
    let len2 = length-block_with (block_sum (bytes_of (block_with 0 family made disks))) family made disks each in
    written v new (created_bytes made disks) (numbers ∙ ap (numbered made.family) (same ∙ is) ∙ numbered_is made disks each)
    (len2 ∙ sym len ∙ ap (λ (x : List ℕ). length x) (sym is))

pub created_whole-bytes : (bytes : List ℕ) (made : NewContainer) (disks : List NewDisk) → CanCreate made disks → All IsDisk disks → bytes ≡ created_bytes made disks → IsWholeBlock bytes (created_block made disks)
created_whole-bytes bytes made disks can all is =
    subst (λ (x : List ℕ). IsWholeBlock x (created_block made disks)) (sym is) (created_whole made disks can (recursion_from_All IsDisk disks all))

pub whole_is : (bytes now : List ℕ) (b : Block) → IsWholeBlock bytes b → now ≡ bytes → IsWhole (given_block now)
whole_is bytes now b w same =
    subst IsWhole (sym (ap given_block same ∙ given_is bytes b w)) (b, w)

-- what is checked is all of the bytes
pub checked_is : (r : Result MpbRef MpbFault) (mpb : MpbRef) (bytes now : List ℕ) (b : Block) → IsWholeBlock bytes b → now ≡ bytes → r ≡ Ok mpb →
    IfOk r (λ m. block_bytes m ≡ given_block now) → block_bytes mpb ≡ bytes
checked_is r mpb bytes now b w same is ok =
    subst (λ (x : Result MpbRef MpbFault). IfOk x (λ m. block_bytes m ≡ given_block now)) is ok ∙ ap given_block same ∙ given_is bytes b w
