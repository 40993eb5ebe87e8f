-- A record more in the table: it is expected, and the others stay.
use Rattle.std.proofs.Common.{◌≡◌, ℕ, ◌+◌, ◌≤◌, ◌<◌, ◌&&◌, ◌||◌, Bool, true, false, cond, List, [], ◌∷◌, ◌++◌, length, Option, Some, None, refl, sym, ◌∙◌, ap, subst, inl, inr, arith}
use Rattle.std.specs.Prelude.{find, nat_le, slice_get}
use Rattle.std.specs.Option.{option_map_or, IsSomeAnd, option_or}
use Rattle.std.specs.List.{list_any, AllByRecursion}
use Rattle.std.specs.Str.{bytes_eq}
use Rattle.std.proofs.lemmas.Bool.{and_right, and_from, or_cases, or_parts, or_from, cases_lt, cases_order, false≢true}
use Rattle.std.proofs.lemmas.List.{get_or_append_left, get_or_push, length-append}
use Rattle.std.proofs.lemmas.List.Folds.{list_any-append, find-append}
use Rattle.imsm_base.specs.Fields.{Part}
use Rattle.imsm_base.specs.Layout.{Block, HasLengths, IsBlock, disk_lengths, serial_of, total_blocks_of}
use Rattle.imsm_base.specs.Whole.{AreApart, is_expected, expected_serials, own_record, first_of}
use Rattle.imsm_base.specs.EditsOfTables.{block_with_disk}
use Rattle.imsm_codec.specs.Mpb.{disk_at}
use Rattle.imsm_codec.specs.Table.{are_twins}
use Rattle.imsm_codec.proofs.Twins.{no_twins_from_apart, apart_from_no_twins}
use Rattle.block_meaning.specs.Meaning.{has_serial}
use Rattle.array_edits.specs.Records.{activated_record}
use Rattle.array_edits.proofs.Supports.{any_fails}
use Rattle.array_edits.proofs.Means.{KeepsOwn}
use Rattle.array_edits.proofs.Disks.{serial_eq, eq_serial, expects_serial, has_expected, record_at, record_past}

-- THE NEW RECORD

pub new_expected : (serial : List ℕ) (sectors : ℕ) → is_expected (activated_record serial sectors) ≡ true
new_expected serial sectors = refl

pub new_lengths : (serial : List ℕ) (sectors : ℕ) → length serial ≡ 16 → HasLengths disk_lengths (activated_record serial sectors)
new_lengths serial sectors len = ap (λ (n : ℕ). n ∷ 4 ∷ 4 ∷ 4 ∷ 4 ∷ 4 ∷ 12 ∷ []) len

-- BY INDEX

-- the table of the block with the record
abbrev pub more_disks : Block → Part → List Part
more_disks b disk = b.disks ++ disk ∷ []

length-more : (b : Block) (disk : Part) → length (more_disks b disk) ≡ length b.disks + 1
length-more b disk = length-append b.disks (disk ∷ [])

more_before : (b : Block) (disk : Part) (j : ℕ) → j < length b.disks → disk_at j (block_with_disk b disk) ≡ disk_at j b
more_before b disk j below = get_or_append_left b.disks (disk ∷ []) [] j below

more_last : (b : Block) (disk : Part) → disk_at (length b.disks) (block_with_disk b disk) ≡ disk
more_last b disk = get_or_push b.disks disk [] (length b.disks) refl

-- a word of a record that was there
pub added_before : {X : Type 0} (word : Part → X) (none : X) (b : Block) (disk : Part) (j : ℕ) → j < length b.disks →
    option_map_or word (slice_get (more_disks b disk) j) none ≡ option_map_or word (slice_get b.disks j) none
added_before word none b disk j below =
    record_at word none (block_with_disk b disk) j (omega (arith, length-more b disk)) ∙ ap word (more_before b disk j below) ∙ sym (record_at word none b j below)

-- and of the new one
pub added_last : {X : Type 0} (word : Part → X) (none : X) (b : Block) (disk : Part) → option_map_or word (slice_get (more_disks b disk) (length b.disks)) none ≡ word disk
added_last word none b disk =
    record_at word none (block_with_disk b disk) (length b.disks) (omega (arith, length-more b disk)) ∙ ap word (more_last b disk)

pub added_sectors : (b : Block) (disk : Part) (j n : ℕ) → option_map_or (λ d. nat_le n (total_blocks_of d)) (slice_get b.disks j) false ≡ true →
    option_map_or (λ d. nat_le n (total_blocks_of d)) (slice_get (more_disks b disk) j) false ≡ true
added_sectors b disk j n has = elim (cases_lt j (length b.disks)) [
  | inl below ↦ added_before (λ d. nat_le n (total_blocks_of d)) false b disk j below ∙ has
  | inr past ↦ absurd (false≢true (sym (record_past (λ d. nat_le n (total_blocks_of d)) false b j past) ∙ has))
]

-- THE TABLE

pub added_lengths : (b : Block) (disk : Part) → IsBlock b → HasLengths disk_lengths disk → AllByRecursion (HasLengths disk_lengths) (more_disks b disk)
added_lengths b disk is lengths = all b.disks is.disks
  where
    all : (ds : List Part) → AllByRecursion (HasLengths disk_lengths) ds → AllByRecursion (HasLengths disk_lengths) (ds ++ disk ∷ [])
    all [] each = (lengths, tt)
    all (d ∷ ds) each = (each.0, all ds each.1)

-- no record has the serial
abbrev pub IsUnknown : List ℕ → Block → Type 0
IsUnknown serial b = list_any (λ d. bytes_eq (serial_of d) serial) b.disks ≡ false

pub added_apart : (b : Block) (disk : Part) → IsUnknown (serial_of disk) b → AreApart (expected_serials b) → AreApart (expected_serials (block_with_disk b disk))
added_apart b disk unknown apart = apart_from_no_twins (more_disks b disk) none
  where
    c : Block
    c = block_with_disk b disk

    none : (k l : ℕ) → k < l → l < length (more_disks b disk) → are_twins (disk_at k c) (disk_at l c) ≡ false
    none k l before inside = elim (cases_order l (length b.disks)) [
      | inl last ↦
          let low : k < length b.disks = omega arith in
          ap (λ (n : ℕ). are_twins (disk_at k c) (disk_at n c)) last ∙ ap (are_twins (disk_at k c)) (more_last b disk) ∙ ap (λ (d : Part). are_twins d disk) (more_before b disk k low)
          ∙ and_right (is_expected (disk_at k b) && is_expected disk) _ (any_fails (λ d. bytes_eq (serial_of d) (serial_of disk)) b.disks k [] unknown low)
      | inr (inl below) ↦ ap (are_twins (disk_at k c)) (more_before b disk l below) ∙ ap (λ (d : Part). are_twins d (disk_at l b)) (more_before b disk k (omega arith))
          ∙ no_twins_from_apart b.disks apart k l before below
      | inr (inr past) ↦ absurd (omega (arith, length-more b disk))
    ]

or_last : (t u : Bool) → (t || (u || false)) ≡ (u || t)
or_last true true = refl
or_last true false = refl
or_last false true = refl
or_last false false = refl

pub added_expects : (b : Block) (disk : Part) (other : List ℕ) → is_expected disk ≡ true → has_serial (expected_serials (block_with_disk b disk)) other ≡ (bytes_eq (serial_of disk) other || has_serial (expected_serials b) other)
added_expects b disk other expected =
    has_expected (more_disks b disk) other ∙ list_any-append (expects_serial other) b.disks (disk ∷ [])
    ∙ ap (λ (t : Bool). list_any (expects_serial other) b.disks || ((t && bytes_eq (serial_of disk) other) || false)) expected
    ∙ or_last (list_any (expects_serial other) b.disks) (bytes_eq (serial_of disk) other)
    ∙ ap (λ (t : Bool). bytes_eq (serial_of disk) other || t) (sym (has_expected b.disks other))

-- THE RECORD THAT SPEAKS FOR A SERIAL

find_none : {A : Type 0} (p : A → Bool) (xs : List A) → list_any p xs ≡ false → find p xs ≡ None
find_none p [] e = refl
find_none p (x ∷ xs) e = first (p x) refl (find_none p xs)
  where
    first : (t : Bool) → p x ≡ t → (list_any p xs ≡ false → find p xs ≡ None) → find p (x ∷ xs) ≡ None
    first true here rest = absurd (cc (sym (ap (λ (t : Bool). t || list_any p xs) here) ∙ e))
    first false here rest = ap (λ (t : Bool). cond t (Some x) (find p xs)) here ∙ rest (sym (ap (λ (t : Bool). t || list_any p xs) here) ∙ e)

find_some : {A : Type 0} (p : A → Bool) (xs : List A) → list_any p xs ≡ true → (x : A) × (find p xs ≡ Some x)
find_some p [] e = absurd (false≢true e)
find_some {A} p (x ∷ xs) e = first (p x) refl (find_some p xs)
  where
    first : (t : Bool) → p x ≡ t → (list_any p xs ≡ true → (y : A) × (find p xs ≡ Some y)) → (y : A) × (find p (x ∷ xs) ≡ Some y)
    first true here rest = (x, ap (λ (t : Bool). cond t (Some x) (find p xs)) here)
    first false here rest =
        let more = rest (sym (ap (λ (t : Bool). t || list_any p xs) here) ∙ e) in
        (more.0, ap (λ (t : Bool). cond t (Some x) (find p xs)) here ∙ more.1)

unknown_expects : (serial : List ℕ) (ds : List Part) → list_any (λ d. bytes_eq (serial_of d) serial) ds ≡ false → list_any (expects_serial serial) ds ≡ false
unknown_expects serial [] e = refl
unknown_expects serial (d ∷ ds) e =
    let parts = or_parts (bytes_eq (serial_of d) serial) _ e in
    or_from (expects_serial serial d) _ (and_right (is_expected d) _ parts.0) (unknown_expects serial ds parts.1)

-- no record speaks for a serial that none has
unknown_own : (b : Block) (serial : List ℕ) → IsUnknown serial b → own_record serial b ≡ None
unknown_own b serial unknown =
    let one : find (expects_serial serial) b.disks ≡ None = find_none (expects_serial serial) b.disks (unknown_expects serial b.disks unknown) in
    ap (λ (o : Option Part). first_of o (find (λ d. bytes_eq (serial_of d) serial) b.disks)) one ∙ find_none (λ d. bytes_eq (serial_of d) serial) b.disks unknown

-- an expected record of before still speaks for its serial
expected_own : (b : Block) (disk : Part) (serial : List ℕ) → list_any (expects_serial serial) b.disks ≡ true → own_record serial (block_with_disk b disk) ≡ own_record serial b
expected_own b disk serial has =
    let found = find_some (expects_serial serial) b.disks has in
    let later : Option Part = find (λ d. bytes_eq (serial_of d) serial) (more_disks b disk) in
    let before : Option Part = find (λ d. bytes_eq (serial_of d) serial) b.disks in
    ap (λ (o : Option Part). first_of o later) (find-append (expects_serial serial) b.disks (disk ∷ []) ∙ ap (λ (o : Option Part). option_or o (find (expects_serial serial) (disk ∷ []))) found.1)
    ∙ ap (λ (o : Option Part). first_of o before) (sym found.1)

pub added_own : (b : Block) (disk : Part) → is_expected disk ≡ true → IsUnknown (serial_of disk) b → KeepsOwn b (block_with_disk b disk)
added_own b disk expected unknown other n has own = elim (or_cases (bytes_eq (serial_of disk) other) _ (sym (added_expects b disk other expected) ∙ has)) [
  | inl new ↦ absurd (no_own (own_record other b) (unknown_own b other (subst (λ (x : List ℕ). IsUnknown x b) (serial_eq _ _ new) unknown)) own)
  | inr old ↦ subst (λ (o : Option Part). IsSomeAnd o (λ d. total_blocks_of d ≤ n)) (sym (expected_own b disk other (sym (has_expected b.disks other) ∙ old))) own
]
  where
    no_own : (o : Option Part) → o ≡ None → IsSomeAnd o (λ d. total_blocks_of d ≤ n) → ⊥
    no_own None e some = some
    no_own (Some d) e some = absurd (cc e)

-- the new record speaks for its serial
pub added_speaks : (b : Block) (disk : Part) → is_expected disk ≡ true → IsUnknown (serial_of disk) b → own_record (serial_of disk) (block_with_disk b disk) ≡ Some disk
added_speaks b disk expected unknown =
    let serial : List ℕ = serial_of disk in
    let later : Option Part = find (λ d. bytes_eq (serial_of d) serial) (more_disks b disk) in
    ap (λ (o : Option Part). first_of o later)
    (find-append (expects_serial serial) b.disks (disk ∷ [])
    ∙ ap (λ (o : Option Part). option_or o (find (expects_serial serial) (disk ∷ []))) (find_none (expects_serial serial) b.disks (unknown_expects serial b.disks unknown))
    ∙ ap (λ (t : Bool). cond t (Some disk) None) (and_from (is_expected disk) _ expected (eq_serial serial serial refl)))
