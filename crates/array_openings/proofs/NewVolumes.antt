-- The volumes of a new container lie one behind the other, and can run.
use Rattle.std.proofs.Common.{◌≡◌, ℕ, zero, suc, ◌+◌, ◌<◌, ◌==◌, not, nat_le, Bool, true, false, List, [], ◌∷◌, length, map, replicate, Option, Some, None, refl, sym, ◌∙◌, ap, subst, arith}
use Rattle.std.specs.Prelude.{slice_get, count_by}
use Rattle.std.specs.Option.{option_map_or}
use Rattle.std.specs.List.{list_all}
use Rattle.std.proofs.lemmas.Bool.{and_parts, and_from, eqb-true, ltb-true}
use Rattle.units.specs.declared.volume.Level.{Level}
use Rattle.units.specs.declared.volume.Level.TheVariants.{One, Five, Ten}
use Rattle.units.specs.Levels.{suffices}
use Rattle.std.proofs.lemmas.List.{length-append}
use Rattle.imsm_base.specs.Layout.{Block, Volume, map_state_of}
use Rattle.imsm_base.specs.Volumes.{first_map, members, is_in_sync, volume_level, can_run}
use Rattle.imsm_view.proofs.Members.{length_members}
use Rattle.array_model.specs.Placement.{Shape}
use Rattle.array_model.specs.Script.{Asked}
use Rattle.block_meaning.specs.Meaning.{of_volume, shape_of, no_shape}
use Rattle.block_meaning.specs.Reading.{parts_of, block_words}
use Rattle.new_container.specs.declared.container.NewContainer.{NewContainer}
use Rattle.new_container.specs.declared.disk.NewDisk.{NewDisk}
use Rattle.new_container.specs.declared.volume.NewVolume.{NewVolume}
use Rattle.new_container.specs.Created.{created_block, second_count}
use Rattle.new_container.specs.Fits.{takes, volume_fits, second_fits, rows_over}
use Rattle.new_container.specs.Fresh.{IsFresh, IsAsked, HasVolumes}
use Rattle.new_container.proofs.Whole.{level_taken}
use Rattle.new_container.proofs.Started.{created_volumes_are}
use Rattle.array_openings.specs.Banks.{Bank, setting_of_bank}
use Rattle.array_openings.specs.NewBanks.{new_bank, CanBeMade}
use Rattle.array_openings.specs.Sound.{VolumesLieApart, IsThere, HasSoundVolumes}
use Rattle.array_openings.proofs.NewBanks.{IsFound, found_in, serial_at, parts_are, expects_is, few_of}

-- ALL MEMBERS IN SYNC

all_true : {A : Type 0} (p : A → Bool) (xs : List A) → list_all p xs ≡ true → map p xs ≡ replicate (length xs) true
all_true p [] all = refl
all_true p (x ∷ xs) all =
    let both = and_parts (p x) (list_all p xs) all in
    ap (λ (t : Bool). t ∷ map p xs) both.0 ∙ ap (λ (ts : List Bool). true ∷ ts) (all_true p xs both.1)

none_out : (n : ℕ) → count_by not (replicate n true) ≡ 0
none_out zero = refl
none_out (suc n) = none_out n

all_suffice : (level : Level) (n : ℕ) → takes level n ≡ true → suffices (Some level) (replicate n true) ≡ true
all_suffice One n two = ap (λ (k : ℕ). suffices (Some One) (replicate k true)) (eqb-true n 2 two)
all_suffice Five n some = ap (λ (k : ℕ). nat_le k 1) (none_out n)
all_suffice Ten n four = ap (λ (k : ℕ). suffices (Some Ten) (replicate k true)) (eqb-true n 4 four)

-- a fresh volume of a level that takes its disks can run
fresh_runs : (b : Block) (number : ℕ) (x : Volume) (asked : NewVolume) (count sector : ℕ)
    → takes asked.level count ≡ true → IsAsked asked count sector x → IsFresh b number x → can_run b x ≡ true
fresh_runs b number x asked count sector taken is fresh =
    let many : length (members x) ≡ count = length_members x ∙ is.members in
    let enough : suffices (volume_level x) (map (is_in_sync b) (members x)) ≡ true =
    ap (λ (l : Option Level). suffices l (map (is_in_sync b) (members x))) is.level
    ∙ ap (suffices (Some asked.level)) (all_true (is_in_sync b) (members x) fresh.in_sync)
    ∙ ap (λ (n : ℕ). suffices (Some asked.level) (replicate n true)) many ∙ all_suffice asked.level count taken in
    and_from (suffices (volume_level x) (map (is_in_sync b) (members x))) (not (map_state_of (first_map x) == 3)) enough
    (ap (λ (n : ℕ). not (n == 3)) fresh.normal)

module _ (made : NewContainer) (disks others : List NewDisk) (spares : List ℕ) (asked : Asked)
    (c : CanBeMade made disks others spares) where
  abbrev k : Bank
  k = new_bank made disks others spares asked

  abbrev b : Block
  b = created_block made disks

  volumes : HasVolumes b made (length disks)
  volumes = created_volumes_are made disks c.can c.typed

  -- a word of a volume of the block
  word_of : {X : Type 0} (v : ℕ) (word : Block → Volume → X) (none : X) (x : Volume) → slice_get b.volumes v ≡ Some x
      → of_volume (parts_of k.block) v (word (parts_of k.block)) none ≡ word b x
  word_of v word none x there =
      ap (λ (y : Block). of_volume y v (word y) none) (parts_are made disks c.can c.typed)
      ∙ ap (λ (o : Option Volume). option_map_or (word b) o none) there

  abbrev shape_at : ℕ → Shape
  shape_at v = block_words.shape k.block v

  -- where the first volume ends
  abbrev border : ℕ
  border = rows_over made.first (length disks)

  first_pba : (shape_at 0).pba ≡ 0
  first_pba =
      let first = volumes.first in
      ap (λ (s : Shape). s.pba) (word_of 0 (λ y. shape_of) no_shape first.0 first.1) ∙ first.2.pba

  first_rows : (shape_at 0).rows ≡ border
  first_rows =
      let first = volumes.first in
      ap (λ (s : Shape). s.rows) (word_of 0 (λ y. shape_of) no_shape first.0 first.1) ∙ first.2.rows

  -- the second begins there
  second_pba : (second : Option NewVolume) → made.second ≡ second → 1 < 1 + second_count second
      → (shape_at 1).pba ≡ border
  second_pba None is there = absurd (omega arith)
  second_pba (Some v) is there =
      let second = volumes.second v is in
      ap (λ (s : Shape). s.pba) (word_of 1 (λ y. shape_of) no_shape second.0 second.1) ∙ second.2.pba

  few : (v : ℕ) → k.started v ≡ true → v < 1 + second_count made.second
  few v started = ltb-true _ _ started

  lie_apart : VolumesLieApart (setting_of_bank k)
  lie_apart zero zero row other one two inside within same = refl
  lie_apart (suc zero) (suc zero) row other one two inside within same = refl
  lie_apart zero (suc zero) row other one two inside within same =
      let at = second_pba made.second refl (few 1 two) in
      absurd (omega (arith, at, first_pba, first_rows, inside, same))
  lie_apart (suc zero) zero row other one two inside within same =
      let at = second_pba made.second refl (few 1 one) in
      absurd (omega (arith, at, first_pba, first_rows, within, same))
  lie_apart (suc (suc v)) w row other one two inside within same =
      let below = few (suc (suc v)) one in
      absurd (omega (arith, below, few_of made.second))
  lie_apart v (suc (suc w)) row other one two inside within same =
      let below = few (suc (suc w)) two in
      absurd (omega (arith, below, few_of made.second))

  there : (serial : List ℕ) → block_words.expects k.block serial ≡ true → IsThere k serial
  there serial expected =
      let found : IsFound disks serial = found_in disks serial
      (sym (expects_is made disks c.can c.typed serial) ∙ expected) in
      let below = found.2.below in
      record {
        disk = found.0;
        below = omega (arith, below, length-append disks others);
        is = serial_at disks others found.0 found.1 found.2 ∙ found.3;
      }

  second_taken : (second : Option NewVolume) (v : NewVolume) → second ≡ Some v
      → second_fits second (length disks) ≡ true → takes v.level (length disks) ≡ true
  second_taken (Some w) v is fits =
      let same : w ≡ v = cc is in
      subst (λ (x : NewVolume). takes x.level (length disks) ≡ true) same (level_taken w (length disks) fits)
  second_taken None v is fits = absurd (cc is)

  -- each volume fits
  fits_each : (volume_fits made.first (length disks) ≡ true) × (second_fits made.second (length disks) ≡ true)
  fits_each = and_parts (volume_fits made.first (length disks)) (second_fits made.second (length disks)) c.can.fits

  second_runs : (second : Option NewVolume) → made.second ≡ second → 1 < 1 + second_count second
      → block_words.can_run k.block 1 ≡ true
  second_runs None is there = absurd (omega arith)
  second_runs (Some v) is there =
      let second = volumes.second v is in
      let fits = fits_each in
      word_of 1 can_run false second.0 second.1
      ∙ fresh_runs b 1 second.0 v (length disks) border (second_taken made.second v is fits.1) second.2 second.3

  runs : (v : ℕ) → k.started v ≡ true → block_words.can_run k.block v ≡ true
  runs zero started =
      let first = volumes.first in
      let fits = fits_each in
      word_of 0 can_run false first.0 first.1
      ∙ fresh_runs b 0 first.0 made.first (length disks) 0 (level_taken made.first (length disks) fits.0) first.2
      first.3
  runs (suc zero) started = second_runs made.second refl (few 1 started)
  runs (suc (suc v)) started =
      let below = few (suc (suc v)) started in
      absurd (omega (arith, below, few_of made.second))

  pub new_sound : HasSoundVolumes k
  new_sound = record { apart = lie_apart; there = there; runs = runs }
