-- The small setting meets what laws take as given, and opens.
use Rattle.std.proofs.Common.{◌≡◌, ℕ, zero, suc, ◌+◌, ◌<◌, ◌≤◌, ◌==◌, ◌||◌, ◌&&◌, not, nat_le, nat_lt, Bool, true, false, if◌then◌else◌, List, [], ◌∷◌, length, refl, ap, sym, ◌∙◌, subst, arith, inl, inr, Option, Some, None, cond}
use Rattle.std.specs.Prelude.{slice_index}
use Rattle.std.specs.List.{AllByRecursion}
use Rattle.std.specs.Str.{bytes_eq}
use Rattle.std.proofs.lemmas.Bool.Decides.{nat_tests}
use Rattle.units.specs.declared.disk.Sector.{Sector}
use Rattle.units.specs.declared.bounds.TheConstants.{METADATA_SECTORS}
use Rattle.array_model.specs.Blocks.{Laid, is_container}
use Rattle.array_model.specs.Placement.{Placement}
use Rattle.array_disks.specs.Calls.{FitsEnd}
use Rattle.array_machine.specs.Numbers.{is_empty}
use Rattle.array_model.specs.Script.{kind_at}
use Rattle.array_machine.specs.Operations.{sector_in, place_or}
use Rattle.array_machine.specs.Volumes.{volume_at}
use Rattle.array_machine.specs.Rounds.{expects}
use Rattle.array_paths.specs.Ready.{RowsInside}
use Rattle.array_base.specs.Premises.{generation_of, IsToldOf, Premises}
use Rattle.array_base.specs.Opening.{first_at, HoldsContainer, OpensAs, Opening}
use Rattle.array_base.specs.Toy.{nothing, said, says_yes, serial_of, is_at, expected_in, recorded_in, slot_of, slots_in, has_none, toy, toy_newest, toy_volumes}
use Rattle.array_base.proofs.Targets.{or_cases, or_neither}
use Rattle.array_base.proofs.Added.{alike_itself}
use Rattle.array_base.proofs.ToyEdits.{same_serial, toy_edits}

-- WHAT LAWS TAKE AS GIVEN

pub none_left : (xs : List Sector) → has_none xs ≡ true → xs ≡ []
none_left [] h = refl
none_left (x ∷ xs) h = absurd cc

first_of_and : (a b : Bool) → (a && b) ≡ true → a ≡ true
first_of_and true b h = refl
first_of_and false b h = absurd cc

second_of_and : (a b : Bool) → (a && b) ≡ true → b ≡ true
second_of_and true b h = h
second_of_and false b h = absurd cc

pub one_number : (d e : ℕ) → serial_of d ≡ serial_of e → d ≡ e
one_number d e same = ap (λ (xs : List ℕ). slice_index xs 0) same

-- an expected disk is one of the three
at_number : (d e n : ℕ) → is_at (serial_of d) e n ≡ true → d ≡ e
at_number d e n is =
    one_number d e (same_serial (serial_of d) (serial_of e)
    (first_of_and (bytes_eq (serial_of d) (serial_of e)) (says_yes n) is))

pub named : (m : Laid) (d : ℕ) → expected_in (said m) (serial_of d) ≡ true → d < 3
named m d is =
    let x = said m in
    let two = is_at (serial_of d) 0 x.first || is_at (serial_of d) 1 x.second in
    elim (or_cases two (is_at (serial_of d) 2 x.third) is) [
      | inl either ↦ elim (or_cases (is_at (serial_of d) 0 x.first) (is_at (serial_of d) 1 x.second) either) [
        | inl first ↦ let same = at_number d 0 x.first first in omega (arith, same)
        | inr second ↦ let same = at_number d 1 x.second second in omega (arith, same)
      ]
      | inr third ↦ let same = at_number d 2 x.third third in omega (arith, same)
    ]

pub recorded : (m : Laid) (serial : List ℕ) → recorded_in (said m) serial ≡ false → expected_in (said m) serial ≡ false
recorded m serial none =
    let x = said m in
    let two = bytes_eq serial (serial_of 0) || bytes_eq serial (serial_of 1) in
    let outer = or_neither two (is_at serial 2 x.third) none in
    let inner = or_neither (bytes_eq serial (serial_of 0)) (bytes_eq serial (serial_of 1)) outer.0 in
    rw (inner.0, inner.1, outer.1) refl

pub rows_inside : RowsInside toy
rows_inside i place is = at (nat_lt (sector_in (kind_at [] i)) 8) refl is
  where
    at : (b : Bool) → nat_lt (sector_in (kind_at [] i)) 8 ≡ b
        → cond b (Some (record { main = 0; other = 1; row = sector_in (kind_at [] i) })) None ≡ Some place
        → place.row < 8
    at true lt is =
        let same : sector_in (kind_at [] i) ≡ place.row = ap (λ (o : Option Placement). (place_or o).row) is in
        grind (arith, nat_tests, lt, same)
    at false lt is = absurd cc

pub fits_end : (m : Laid) → has_none m.extended ≡ true → FitsEnd toy.start.words m
fits_end m form =
    let none = none_left m.extended form in
    record {
      extra = sym (ap (λ (xs : List Sector). length xs) none);
      few = subst (λ (xs : List Sector). length xs + 2 ≤ METADATA_SECTORS) (sym none) (omega arith);
    }

pub has_rows : 0 + 8 + METADATA_SECTORS ≤ 4096
has_rows = omega arith

pub has_space : (n : ℕ) (b c : Bool) → (nat_le METADATA_SECTORS n && b && c) ≡ true → METADATA_SECTORS ≤ n
has_space n b c h =
    let le = first_of_and (nat_le METADATA_SECTORS n) b (first_of_and (nat_le METADATA_SECTORS n && b) c h) in
    grind (arith, nat_tests, le)

-- a slot is in sync only where it is expected, and one that is expected is by the block
slot_told : (m : Laid) (d expected in_sync : ℕ) → (says_yes expected ≡ true → expected_in (said m) (serial_of d) ≡ true)
    → IsToldOf toy m (slot_of d expected in_sync)
slot_told m d expected in_sync listed = record {
  in_sync = λ is. second_of_and (says_yes in_sync) (says_yes expected) is;
  expected = listed;
}

one_of : (n : ℕ) (b c : Bool) → says_yes n ≡ true → (says_yes n || b || c) ≡ true
one_of n b c is = rw is refl

two_of : (n k : ℕ) (b : Bool) → says_yes k ≡ true → (is_at (serial_of 1) 0 n || says_yes k || b) ≡ true
two_of n k b is = rw is refl

pub slots_told : (m : Laid) → AllByRecursion (IsToldOf toy m) (slots_in (said m))
slots_told m =
    let x = said m in
    let first = one_of x.first (is_at (serial_of 0) 1 x.second) (is_at (serial_of 0) 2 x.third) in
    let second = two_of x.first x.second (is_at (serial_of 1) 2 x.third) in
    (slot_told m 0 x.first x.first_sync first, (slot_told m 1 x.second x.second_sync second, tt))

abbrev pub toy_premises : Premises toy
toy_premises = record {
  edits = toy_edits;
  fits = λ m form. fits_end m form;
  named = λ m d form is. named m d is;
  told = λ m v form is. slots_told m;
  seats = λ m v d w form whole started seat. has_rows;
  stays_whole = λ f m e apt room form whole d is. refl;
  room = λ serial n m whole. has_space n (has_none m.extended) (not (is_empty m.anchor.0)) whole;
  by_anchor = λ a m is form same. ap (λ (s : Sector). if slice_index s.0 0 == 0 then false else true) same;
  recorded = λ m serial form none. recorded m serial none;
  spare = λ book d form below large. record { whole = refl; extra = refl; alone = refl; spare = refl };
  serials = λ d e below other same. one_number d e same;
  rows = rows_inside;
}

-- THE OPENING

first_is : (d : ℕ) → HoldsContainer toy d → first_at toy d ≡ toy_newest
first_is zero h = refl
first_is (suc zero) h = refl
first_is (suc (suc d)) h = absurd (let none = blank d in let is = h.container in cc (none, is))
  where
    blank : (d : ℕ) → is_container toy.start.words (first_at toy (suc (suc d))) ≡ false
    blank d = at (nat_lt (suc (suc d)) 2) (grind (arith, nat_tests))
      where
        at : (b : Bool) → b ≡ false
            → (if slice_index (if b && true then toy_newest.anchor else nothing).0 0 == 0 then false else true) ≡ false
        at true h = absurd cc
        at false h = refl

holds : (d : ℕ) → expects toy toy_newest d ≡ true → HoldsContainer toy d
holds zero is = record { whole = refl; container = refl }
holds (suc zero) is = record { whole = refl; container = refl }
holds (suc (suc d)) is = absurd (none d is)
  where
    never : (b : Bool) → (b && false) ≡ true → ⊥
    never true h = absurd cc
    never false h = absurd cc

    none : (d : ℕ) → expected_in (said toy_newest) (serial_of (suc (suc d))) ≡ true → ⊥
    none d is =
        let s = serial_of (suc (suc d)) in
        elim (or_cases (is_at s 0 1 || is_at s 1 1) (is_at s 2 0) is) [
          | inl two ↦ elim (or_cases (is_at s 0 1) (is_at s 1 1) two) [
            | inl first ↦ let same = at_number (suc (suc d)) 0 1 first in omega (arith, same)
            | inr second ↦ let same = at_number (suc (suc d)) 1 1 second in omega (arith, same)
          ]
          | inr third ↦ never (bytes_eq s (serial_of 2)) third
        ]

one_generation : (d : ℕ) → HoldsContainer toy d → generation_of toy (first_at toy d) ≡ 1
one_generation d h = ap (generation_of toy) (first_is d h)

opens_as : (v : ℕ) → OpensAs toy v (volume_at toy_volumes v)
opens_as zero = record { started = refl; state = refl; sound = refl; pass = refl; slots = refl }
opens_as (suc v) = record {
  started = let none : (suc v == 0) ≡ false = grind (arith, nat_tests) in sym none;
  state = refl;
  sound = refl;
  pass = refl;
  slots = refl;
}

pub toy_opening : Opening toy toy_premises toy_volumes []
toy_opening = record {
  newest = record { form = refl; container = refl; shape = λ v. refl; whole = λ d is. refl };
  disk = 0;
  there = record { whole = refl; container = refl };
  stands = refl;
  members = λ d is trusted. holds d is;
  level = λ d is trusted. one_generation d (holds d is);
  alike = λ d e is_d is_e equal.
      alike_itself toy (first_at toy d) (first_at toy e) (first_is d is_d ∙ sym (first_is e is_e));
  top = λ d is. let one = one_generation d is in omega (arith, one);
  volumes_are = opens_as;
  spares_are = λ d. refl;
}
