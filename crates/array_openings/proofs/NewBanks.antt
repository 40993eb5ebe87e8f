-- A bank over which a container was made is at rest.
use Rattle.std.proofs.Common.{◌≡◌, ℕ, suc, ◌+◌, ◌<◌, ◌≤◌, ◌==◌, ◌||◌, Bool, true, false, if◌then◌else◌, List, [], ◌∷◌, ◌++◌, length, map, Option, Some, None, refl, sym, ◌∙◌, ap, subst, inl, inr, arith}
use Rattle.std.specs.Prelude.{All, slice_get}
use Rattle.std.specs.List.{list_any}
use Rattle.std.specs.Str.{bytes_eq}
use Rattle.std.proofs.lemmas.Bool.{or_cases, false≢true, ltb-true, ne_eqb}
use Rattle.std.proofs.lemmas.List.{get_or-map, get_or_append_left, length-append}
use Rattle.std.proofs.lemmas.List.Elements.{All-append, recursion_from_All}
use Rattle.std.proofs.lemmas.Option.{get_or_from_slice_get}
use Rattle.imsm_base.specs.Fields.{Part}
use Rattle.imsm_base.specs.Layout.{Block}
use Rattle.imsm_base.specs.Whole.{IsWholeDisk, IsWholeBlock, expected_serials}
use Rattle.imsm_base.proofs.Joined.{block_in-spelled}
use Rattle.array_model.specs.Blocks.{Laid}
use Rattle.array_model.specs.Script.{Asked}
use Rattle.block_meaning.specs.Meaning.{bytes_of_laid, has_serial}
use Rattle.block_meaning.specs.Reading.{parts_of, block_words}
use Rattle.block_meaning.proofs.Words.{reads_blocks}
use Rattle.new_container.specs.declared.container.NewContainer.{NewContainer}
use Rattle.new_container.specs.declared.disk.NewDisk.{NewDisk}
use Rattle.new_container.specs.declared.volume.NewVolume.{NewVolume}
use Rattle.new_container.specs.Created.{CanCreate, IsDisk, block_with, created_block, created_bytes, disk_part, second_count}
use Rattle.new_container.proofs.Whole.{created_whole, few_disks}
use Rattle.new_container.proofs.Started.{created_volumes_are, created_disk}
use Rattle.array_edits.specs.Laying.{laid_of}
use Rattle.array_edits.proofs.Disks.{serial_eq, eq_serial, expects_serial, has_expected}
use Rattle.array_edits.proofs.NewBlocks.{created_formed, created_laid}
use Rattle.array_openings.specs.Banks.{Bank, serial_in, sectors_in, start_of_bank, IsAtRest}
use Rattle.array_openings.specs.NewBanks.{new_bank, CanBeMade}
use Rattle.array_openings.proofs.Apart.{own_serials}

-- DISKS BY THEIR NUMBERS

pub record IsDiskAt (disks : List NewDisk) (i : ℕ) (x : NewDisk) : Type 0 where
  pub below : i < length disks
  pub there : slice_get disks i ≡ Some x

-- a disk of the container has its number among all
pub serial_at : (disks others : List NewDisk) (i : ℕ) (x : NewDisk) → IsDiskAt disks i x
    → serial_in (disks ++ others) i ≡ x.serial.0
serial_at disks others i x at =
    let inside : i < length (disks ++ others) =
    let below = at.below in
    omega (arith, below, length-append disks others) in
    get_or-map (λ (y : NewDisk). y.serial.0) (disks ++ others) i x [] inside
    ∙ ap (λ (y : NewDisk). y.serial.0)
    (get_or_append_left disks others x i at.below ∙ get_or_from_slice_get disks i x x at.there)

sectors_at : (disks others : List NewDisk) (i : ℕ) (x : NewDisk) → IsDiskAt disks i x
    → sectors_in (disks ++ others) i ≡ x.sectors
sectors_at disks others i x at =
    let inside : i < length (disks ++ others) =
    let below = at.below in
    omega (arith, below, length-append disks others) in
    get_or-map (λ (y : NewDisk). y.sectors) (disks ++ others) i x 0 inside
    ∙ ap (λ (y : NewDisk). y.sectors)
    (get_or_append_left disks others x i at.below ∙ get_or_from_slice_get disks i x x at.there)

-- WHICH DISKS THE BLOCK EXPECTS

abbrev records_of : List NewDisk → List Part
records_of disks = map disk_part disks

abbrev pub IsFound : List NewDisk → List ℕ → Type 0
IsFound disks serial = (i : ℕ) × (x : NewDisk) × IsDiskAt disks i x × (x.serial.0 ≡ serial)

pub found_in : (disks : List NewDisk) (serial : List ℕ) → list_any (expects_serial serial) (records_of disks) ≡ true
    → IsFound disks serial
found_in [] serial has = absurd (false≢true has)
found_in (x ∷ xs) serial has =
    elim (or_cases (bytes_eq x.serial.0 serial) (list_any (expects_serial serial) (records_of xs)) has) [
      | inl here ↦ (0, x, record { below = omega arith; there = refl }, serial_eq x.serial.0 serial here)
      | inr more ↦
          let behind = found_in xs serial more in
          let below = behind.2.below in
          (suc behind.0, behind.1, record { below = omega (arith, below); there = behind.2.there }, behind.3)
    ]

module _ (made : NewContainer) (disks : List NewDisk) (can : CanCreate made disks) (typed : All IsDisk disks) where
  abbrev block : Laid
  block = laid_of (created_bytes made disks)

  pub parts_are : parts_of block ≡ created_block made disks
  parts_are =
      let whole : IsWholeBlock (created_bytes made disks) (created_block made disks) =
      created_whole made disks can (recursion_from_All IsDisk disks typed) in
      block_in-spelled (bytes_of_laid block) (created_block made disks)
      (subst (λ (xs : List ℕ). IsWholeBlock xs (created_block made disks)) (sym (created_laid made disks can typed).0)
      whole).spells

  records_are : (created_block made disks).disks ≡ records_of disks
  unfolding created_block block_with
  records_are = refl

  pub expects_is : (serial : List ℕ) → block_words.expects block serial
      ≡ list_any (expects_serial serial) (records_of disks)
  expects_is serial =
      ap (λ (b : Block). has_serial (expected_serials b) serial) parts_are
      ∙ has_expected (created_block made disks).disks serial
      ∙ ap (list_any (expects_serial serial)) records_are

  -- ITS VOLUMES

  container_is : (if block_words.volumes block == 0 then false else true) ≡ true
  container_is =
      let many = ap (λ (b : Block). length b.volumes) parts_are ∙ (created_volumes_are made disks can typed).number in
      ap (λ (n : ℕ). if n == 0 then false else true) many ∙ some (second_count made.second)
    where
      some : (n : ℕ) → (if 1 + n == 0 then false else true) ≡ true
      some n = ap (λ (t : Bool). if t then false else true) (ne_eqb (1 + n) 0 (λ same. omega (arith, same)))

pub few_of : (second : Option NewVolume) → 1 + second_count second ≤ 2
few_of None = omega arith
few_of (Some v) = omega arith

module _ (made : NewContainer) (disks others : List NewDisk) (spares : List ℕ) (asked : Asked)
    (c : CanBeMade made disks others spares) where
  abbrev k : Bank
  k = new_bank made disks others spares asked

  -- each disk that it expects is one over which it was made
  whole_on : (d : ℕ) → d < length k.disks → block_words.expects k.block (serial_in k.disks d) ≡ true
      → block_words.is_whole (serial_in k.disks d) (sectors_in k.disks d) k.block ≡ true
  whole_on d below expected =
      let found : IsFound disks (serial_in k.disks d) = found_in disks (serial_in k.disks d)
      (sym (expects_is made disks c.can c.typed (serial_in k.disks d)) ∙ expected) in
      let i : ℕ = found.0 in
      let x : NewDisk = found.1 in
      let at : IsDiskAt disks i x = found.2 in
      let low = at.below in
      let same : i ≡ d = own_serials k.disks i d c.apart (omega (arith, low, length-append disks others)) below
      (serial_at disks others i x at ∙ found.3) in
      let sectors : x.sectors ≡ sectors_in k.disks d =
      sym (sectors_at disks others i x at) ∙ ap (sectors_in k.disks) same in
      let on_disk : IsWholeDisk x.serial.0 x.sectors (created_bytes made disks) (created_block made disks) =
      created_disk made disks c.can c.typed i x at.there in
      subst (λ (n : ℕ). block_words.is_whole (serial_in k.disks d) n k.block ≡ true) sectors
      (subst (λ (s : List ℕ). block_words.is_whole s x.sectors k.block ≡ true) found.3
      ((reads_blocks.is_whole x.serial.0 x.sectors k.block).1 (
        created_block made disks,
        subst (λ (xs : List ℕ). IsWholeDisk x.serial.0 x.sectors xs (created_block made disks))
            (sym (created_laid made disks c.can c.typed).0) on_disk,
      )))

  first_expected : (ds : List NewDisk) → ds ≡ disks → 2 ≤ length ds
      → block_words.expects k.block (serial_in k.disks 0) ≡ true
  first_expected [] is some = absurd (omega (arith, some))
  first_expected (x ∷ xs) is some =
      let at : IsDiskAt disks 0 x = subst (λ (ds : List NewDisk). IsDiskAt ds 0 x) is
      (record { below = omega arith; there = refl }) in
      let serial : List ℕ = serial_in k.disks 0 in
      let same : x.serial.0 ≡ serial = sym (serial_at disks others 0 x at) in
      expects_is made disks c.can c.typed serial
      ∙ ap (λ (ds : List NewDisk). list_any (expects_serial serial) (records_of ds)) (sym is)
      ∙ ap (λ (t : Bool). t || list_any (expects_serial serial) (records_of xs)) (eq_serial x.serial.0 serial same)

  pub new_rests : IsAtRest k
  new_rests =
      let laid = created_laid made disks c.can c.typed in
      let few : (v : ℕ) → k.started v ≡ true → v < 1 + second_count made.second = λ v started. ltb-true _ _ started in
      record {
        typed = All-append IsDisk disks others c.typed c.others_typed;
        apart = c.apart;
        few = λ v started.
            let below = few v started in
            omega (arith, below, few_of made.second);
        formed = created_formed (start_of_bank k) made disks k.block c.can c.typed laid.0 laid.1 few;
        container = container_is made disks c.can c.typed;
        whole = whole_on;
        member = 0;
        expected = first_expected disks refl (few_disks made (length disks) c.can.fits).0;
        spares = c.spares_there;
      }
