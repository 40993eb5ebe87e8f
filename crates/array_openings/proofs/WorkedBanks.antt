-- The worked banks are at rest.
use Rattle.std.proofs.Common.{◌≡◌, ◌≢◌, ℕ, zero, suc, ◌+◌, ◌<◌, ◌≤◌, ◌==◌, true, false, List, [], ◌∷◌, map, refl, inl, inr, arith}
use Rattle.std.specs.Prelude.{nat_lt}
use Rattle.std.specs.List.{AllByRecursion}
use Rattle.std.specs.Str.{bytes_eq}
use Rattle.std.proofs.lemmas.Bool.{or_cases, eqb-true, false≢true, leb-true, ltb-true}
use Rattle.std.proofs.lemmas.List.Elements.{All-from_recursion}
use Rattle.imsm_base.specs.Parts.{block_in}
use Rattle.imsm_base.specs.Whole.{AreApart}
use Rattle.block_meaning.specs.Reading.{block_words}
use Rattle.new_container.specs.declared.disk.NewDisk.{NewDisk}
use Rattle.new_container.specs.Created.{CanCreate, IsDisk, block_with, created_block, created_bytes, created_family}
use Rattle.new_container.specs.Fits.{total_rows}
use Rattle.new_container.specs.Example.{disk_of, mirror, mirror_disks}
use Rattle.array_machine.specs.Numbers.{has}
use Rattle.array_edits.specs.Examples.{five, ten, two_mirrors, three_disks, four_disks, serial_of_letter, all_work}
use Rattle.array_edits.proofs.Disks.{serial_ne}
use Rattle.array_openings.specs.Banks.{Bank, setting_of_bank, IsAtRest}
use Rattle.array_openings.specs.NewBanks.{CanBeMade, CanBeEdited}
use Rattle.array_openings.specs.Opens.{opened_volumes}
use Rattle.array_openings.specs.Sound.{OpensSound}
use Rattle.array_openings.specs.Worked.{writes_and_reads, waits_for_a_spare, with_a_spare, of_two_sectors, of_two_volumes, before_it_failed, loses_a_disk, without_a_disk, before_it_stopped, stops_dirty, with_a_pass}
use Rattle.array_openings.proofs.NewBanks.{new_rests}
use Rattle.array_openings.proofs.EditedBanks.{edited_rests}
use Rattle.array_openings.proofs.NewVolumes.{new_sound}
use Rattle.array_openings.proofs.EditedVolumes.{edited_sound}
use Rattle.array_openings.proofs.RowsHeld.{opens_sound}

-- DISKS BY LETTERS

typed_by : (letters : List ℕ) → AllByRecursion IsDisk (map disk_of letters)
typed_by [] = tt
typed_by (l ∷ ls) = (record { serial = refl; sectors = omega arith }, typed_by ls)

room_by : (n : ℕ) (letters : List ℕ) → n + 18 ≤ 4096
    → AllByRecursion (λ (d : NewDisk). n + 18 ≤ d.sectors) (map disk_of letters)
room_by n [] fits = tt
room_by n (l ∷ ls) fits = (fits, room_by n ls fits)

abbrev two_letters : List ℕ
two_letters = 0x41 ∷ 0x42 ∷ []

abbrev three_letters : List ℕ
three_letters = 0x41 ∷ 0x42 ∷ 0x43 ∷ []

abbrev four_letters : List ℕ
four_letters = 0x41 ∷ 0x42 ∷ 0x43 ∷ 0x44 ∷ []

abbrev one_letter : List ℕ
one_letter = 0x43 ∷ []

abbrev serials_by : List ℕ → List (List ℕ)
serials_by letters = map (λ (x : NewDisk). x.serial.0) (map disk_of letters)

-- two disks have two serials
differ : (k l : ℕ) → bytes_eq (serial_of_letter k) (serial_of_letter l) ≡ false
    → serial_of_letter k ≢ serial_of_letter l
differ k l other = serial_ne (serial_of_letter k) (serial_of_letter l) other

apart_two : AreApart (serials_by two_letters)
apart_two = ((differ 0x41 0x42 refl, tt), (tt, tt))

apart_three : AreApart (serials_by three_letters)
apart_three =
    ((differ 0x41 0x42 refl, (differ 0x41 0x43 refl, tt)), ((differ 0x42 0x43 refl, tt), (tt, tt)))

apart_four : AreApart (serials_by four_letters)
apart_four = (
  (differ 0x41 0x42 refl, (differ 0x41 0x43 refl, (differ 0x41 0x44 refl, tt))),
  ((differ 0x42 0x43 refl, (differ 0x42 0x44 refl, tt)), ((differ 0x43 0x44 refl, tt), (tt, tt))),
)

no_spares : (n d : ℕ) → has d [] ≡ true → d < n
no_spares n d is = absurd (false≢true is)

third_spare : (d : ℕ) → has d (2 ∷ []) ≡ true → d < 3
third_spare d is = elim (or_cases (2 == d) false is) [
  | inl same ↦ let two = eqb-true 2 d same in omega (arith, two)
  | inr none ↦ absurd (false≢true none)
]

-- NEW CONTAINERS

mirror_can : CanCreate mirror mirror_disks
mirror_can = record {
  fits = refl;
  apart = apart_two;
  room = All-from_recursion (λ (d : NewDisk). total_rows mirror 2 + 18 ≤ d.sectors) mirror_disks
      (room_by (total_rows mirror 2) two_letters (leb-true (total_rows mirror 2 + 18) 4096 refl));
}

five_can : CanCreate five three_disks
five_can = record {
  fits = refl;
  apart = apart_three;
  room = All-from_recursion (λ (d : NewDisk). total_rows five 3 + 18 ≤ d.sectors) three_disks
      (room_by (total_rows five 3) three_letters (leb-true (total_rows five 3 + 18) 4096 refl));
}

two_can : CanCreate two_mirrors mirror_disks
two_can = record {
  fits = refl;
  apart = apart_two;
  room = All-from_recursion (λ (d : NewDisk). total_rows two_mirrors 2 + 18 ≤ d.sectors) mirror_disks
      (room_by (total_rows two_mirrors 2) two_letters (leb-true (total_rows two_mirrors 2 + 18) 4096 refl));
}

ten_can : CanCreate ten four_disks
ten_can = record {
  fits = refl;
  apart = apart_four;
  room = All-from_recursion (λ (d : NewDisk). total_rows ten 4 + 18 ≤ d.sectors) four_disks
      (room_by (total_rows ten 4) four_letters (leb-true (total_rows ten 4 + 18) 4096 refl));
}

-- THEY CAN BE MADE

spare_made : CanBeMade mirror mirror_disks (disk_of 0x43 ∷ []) (2 ∷ [])
spare_made = record {
  can = mirror_can;
  typed = All-from_recursion IsDisk mirror_disks (typed_by two_letters);
  others_typed = All-from_recursion IsDisk (disk_of 0x43 ∷ []) (typed_by one_letter);
  apart = apart_three;
  spares_there = third_spare;
}

five_made : CanBeMade five three_disks [] []
five_made = record {
  can = five_can;
  typed = All-from_recursion IsDisk three_disks (typed_by three_letters);
  others_typed = All-from_recursion IsDisk [] tt;
  apart = apart_three;
  spares_there = no_spares 3;
}

two_made : CanBeMade two_mirrors mirror_disks [] []
two_made = record {
  can = two_can;
  typed = All-from_recursion IsDisk mirror_disks (typed_by two_letters);
  others_typed = All-from_recursion IsDisk [] tt;
  apart = apart_two;
  spares_there = no_spares 2;
}

mirror_made : CanBeMade mirror mirror_disks (disk_of 0x43 ∷ []) []
mirror_made = record {
  can = mirror_can;
  typed = All-from_recursion IsDisk mirror_disks (typed_by two_letters);
  others_typed = All-from_recursion IsDisk (disk_of 0x43 ∷ []) (typed_by one_letter);
  apart = apart_three;
  spares_there = no_spares 3;
}

ten_made : CanBeMade ten four_disks [] []
ten_made = record {
  can = ten_can;
  typed = All-from_recursion IsDisk four_disks (typed_by four_letters);
  others_typed = All-from_recursion IsDisk [] tt;
  apart = apart_four;
  spares_there = no_spares 4;
}

-- AND EDITED

-- each expects the first disk, as it is computed
degraded_expects : block_words.expects without_a_disk.block (serial_of_letter 0x41) ≡ true
unfolding block_in created_bytes created_block created_family block_with
degraded_expects = refl

degraded_runs : block_words.can_run without_a_disk.block 0 ≡ true
unfolding block_in created_bytes created_block created_family block_with
degraded_runs = refl

unfinished_expects : block_words.expects with_a_pass.block (serial_of_letter 0x41) ≡ true
unfolding block_in created_bytes created_block created_family block_with
unfinished_expects = refl

unfinished_runs : block_words.can_run with_a_pass.block 0 ≡ true
unfolding block_in created_bytes created_block created_family block_with
unfinished_runs = refl

mirror_rests : IsAtRest before_it_failed
mirror_rests = new_rests mirror mirror_disks (disk_of 0x43 ∷ []) [] waits_for_a_spare mirror_made

ten_rests : IsAtRest before_it_stopped
ten_rests = new_rests ten four_disks [] [] writes_and_reads ten_made

degraded_edited : CanBeEdited before_it_failed all_work loses_a_disk
degraded_edited = record {
  apt = (tt, (omega arith, tt));
  roomy = (tt, (tt, tt));
  member = 0;
  expected = degraded_expects;
}

unfinished_edited : CanBeEdited before_it_stopped all_work stops_dirty
unfinished_edited = record {
  apt = (refl, (omega arith, (refl, (omega arith, tt))));
  roomy = (tt, (tt, (tt, (tt, tt))));
  member = 0;
  expected = unfinished_expects;
}

-- one volume alone is started
only_first : (k : Bank) → (v : ℕ) → nat_lt v 1 ≡ true → block_words.can_run k.block 0 ≡ true
    → block_words.can_run k.block v ≡ true
only_first k zero started runs = runs
only_first k (suc v) started runs = absurd (let below = ltb-true (suc v) 1 started in omega (arith, below))

-- AT REST

pub spare_rests : IsAtRest with_a_spare
spare_rests = new_rests mirror mirror_disks (disk_of 0x43 ∷ []) (2 ∷ []) writes_and_reads spare_made

pub two_sectors_rest : IsAtRest of_two_sectors
two_sectors_rest = new_rests five three_disks [] [] writes_and_reads five_made

pub two_volumes_rest : IsAtRest of_two_volumes
two_volumes_rest = new_rests two_mirrors mirror_disks [] [] writes_and_reads two_made

pub degraded_rests : IsAtRest without_a_disk
degraded_rests = edited_rests before_it_failed all_work loses_a_disk mirror_rests degraded_edited

pub unfinished_rests : IsAtRest with_a_pass
unfinished_rests = edited_rests before_it_stopped all_work stops_dirty ten_rests unfinished_edited

-- THEIR VOLUMES

abbrev Sound : Bank → Type 0
Sound k = OpensSound (setting_of_bank k) (opened_volumes (setting_of_bank k))

pub spare_sound : Sound with_a_spare
spare_sound =
    opens_sound with_a_spare spare_rests
    (new_sound mirror mirror_disks (disk_of 0x43 ∷ []) (2 ∷ []) writes_and_reads spare_made)

pub two_sectors_sound : Sound of_two_sectors
two_sectors_sound =
    opens_sound of_two_sectors two_sectors_rest (new_sound five three_disks [] [] writes_and_reads five_made)

pub two_volumes_sound : Sound of_two_volumes
two_volumes_sound =
    opens_sound of_two_volumes two_volumes_rest (new_sound two_mirrors mirror_disks [] [] writes_and_reads two_made)

pub degraded_sound : Sound without_a_disk
degraded_sound =
    opens_sound without_a_disk degraded_rests
    (edited_sound before_it_failed all_work mirror_rests loses_a_disk degraded_edited
    (new_sound mirror mirror_disks (disk_of 0x43 ∷ []) [] waits_for_a_spare mirror_made)
    (λ v started. only_first without_a_disk v started degraded_runs))

pub unfinished_sound : Sound with_a_pass
unfinished_sound =
    opens_sound with_a_pass unfinished_rests
    (edited_sound before_it_stopped all_work ten_rests stops_dirty unfinished_edited
    (new_sound ten four_disks [] [] writes_and_reads ten_made)
    (λ v started. only_first with_a_pass v started unfinished_runs))
