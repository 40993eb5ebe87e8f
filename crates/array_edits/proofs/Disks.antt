-- The records of a block: the one that is expected and has a serial, and tests of all.
use Rattle.std.proofs.Common.{◌≡◌, ◌≢◌, ℕ, suc, ◌≤◌, ◌<◌, ◌&&◌, ◌||◌, not, Bool, true, false, cond, List, [], ◌∷◌, length, map, get_or, Option, Some, None, refl, sym, ◌∙◌, ap, inl, inr, arith}
use Rattle.std.specs.Prelude.{filter, find, nat_lt, slice_get}
use Rattle.std.specs.Option.{option_map_or}
use Rattle.std.specs.List.{list_any, position, position_or_len}
use Rattle.std.specs.Str.{bytes_eq}
use Rattle.std.proofs.lemmas.Bool.{and_parts, and_from, false≢true, ltb-false, cases_order, cases_lt, false_from_ne_true}
use Rattle.std.proofs.lemmas.List.Quantifiers.{position-Some}
use Rattle.std.proofs.lemmas.List.Sums.{fails_before_first}
use Rattle.std.proofs.lemmas.Option.{slice_get-get_or, slice_get_past}
use Rattle.std.proofs.lemmas.Slice.Eq.{bytes_eq-Decides}
use Rattle.imsm_base.specs.Fields.{Part}
use Rattle.imsm_base.specs.Layout.{Block, serial_of}
use Rattle.imsm_base.specs.Volumes.{is_expected_at}
use Rattle.imsm_base.specs.Whole.{AreApart, is_expected, expected_serials}
use Rattle.imsm_codec.specs.Mpb.{disk_at}
use Rattle.imsm_codec.specs.Table.{are_twins}
use Rattle.imsm_codec.proofs.Twins.{no_twins_from_apart}
use Rattle.block_meaning.specs.Meaning.{has_serial}
use Rattle.array_edits.specs.Records.{expected_index}

-- EQUAL SERIALS

pub serial_eq : (x y : List ℕ) → bytes_eq x y ≡ true → x ≡ y
serial_eq x y e = (bytes_eq-Decides x y).0 e

pub eq_serial : (x y : List ℕ) → x ≡ y → bytes_eq x y ≡ true
eq_serial x y e = (bytes_eq-Decides x y).1 e

pub ne_serial : (x y : List ℕ) → x ≢ y → bytes_eq x y ≡ false
ne_serial x y other = false_from_ne_true (bytes_eq x y) (λ e. other (serial_eq x y e))

pub serial_ne : (x y : List ℕ) → bytes_eq x y ≡ false → x ≢ y
serial_ne x y e same = false≢true (sym e ∙ eq_serial x y same)

-- TESTS OF LISTS

-- two tests that say the same of each place
pub any_pointwise : {A B : Type 0} (p : A → Bool) (q : B → Bool) (xs : List A) (ys : List B) (d : A) (e : B) → length xs ≡ length ys →
    ((k : ℕ) → k < length xs → p (get_or xs k d) ≡ q (get_or ys k e)) → list_any p xs ≡ list_any q ys
any_pointwise p q [] [] d e len each = refl
any_pointwise p q [] (y ∷ ys) d e len each = absurd (omega arith)
any_pointwise p q (x ∷ xs) [] d e len each = absurd (omega arith)
any_pointwise p q (x ∷ xs) (y ∷ ys) d e len each =
    ap (λ (t : Bool). t || list_any p xs) (each 0 (omega arith))
    ∙ ap (λ (t : Bool). q y || t) (any_pointwise p q xs ys d e (omega arith) (λ k below. each (suc k) (omega arith)))

pub find_pointwise : {A : Type 0} (p : A → Bool) (xs ys : List A) (d : A) → length xs ≡ length ys →
    ((k : ℕ) → k < length xs → p (get_or xs k d) ≡ p (get_or ys k d)) → ((k : ℕ) → k < length xs → p (get_or xs k d) ≡ true → get_or xs k d ≡ get_or ys k d) → find p xs ≡ find p ys
find_pointwise p [] [] d len each same = refl
find_pointwise p [] (y ∷ ys) d len each same = absurd (omega arith)
find_pointwise p (x ∷ xs) [] d len each same = absurd (omega arith)
find_pointwise {A} p (x ∷ xs) (y ∷ ys) d len each same =
    ap (λ (o : Option A). cond (p x) (Some x) o) (find_pointwise p xs ys d (omega arith) (λ k below. each (suc k) (omega arith)) (λ k below. same (suc k) (omega arith)))
    ∙ ap (λ (t : Bool). cond t (Some x) (find p ys)) (each 0 (omega arith)) ∙ first (p y) refl
  where
    first : (t : Bool) → p y ≡ t → cond t (Some x) (find p ys) ≡ cond t (Some y) (find p ys)
    first true e = ap (λ (z : A). Some z) (same 0 (omega arith) (each 0 (omega arith) ∙ e))
    first false e = refl

-- EXPECTED SERIALS

abbrev pub expects_serial : List ℕ → Part → Bool
expects_serial serial d = is_expected d && bytes_eq (serial_of d) serial

pub has_expected : (ds : List Part) (serial : List ℕ) → has_serial (map serial_of (filter is_expected ds)) serial ≡ list_any (expects_serial serial) ds
has_expected [] serial = refl
has_expected (d ∷ ds) serial = first (is_expected d) (has_expected ds serial)
  where
    first : (t : Bool) → has_serial (map serial_of (filter is_expected ds)) serial ≡ list_any (expects_serial serial) ds →
        has_serial (map serial_of (cond t (d ∷ filter is_expected ds) (filter is_expected ds))) serial ≡ ((t && bytes_eq (serial_of d) serial) || list_any (expects_serial serial) ds)
    first true more = ap (λ (t : Bool). bytes_eq (serial_of d) serial || t) more
    first false more = more

-- the record that is expected and has the serial
pub record IsRecord (serial : List ℕ) (b : Block) (i : ℕ) : Type 0 where
  pub below : i < length b.disks
  pub expected : is_expected (disk_at i b) ≡ true
  pub serial_is : serial_of (disk_at i b) ≡ serial

pub index_record : (serial : List ℕ) (b : Block) (i : ℕ) → expected_index serial b ≡ Some i → IsRecord serial b i
index_record serial b i e =
    let found = position-Some (expects_serial serial) b.disks i [] e in
    let both = and_parts (is_expected (disk_at i b)) (bytes_eq (serial_of (disk_at i b)) serial) found.1 in
    record { below = found.0; expected = both.0; serial_is = serial_eq (serial_of (disk_at i b)) serial both.1 }

-- without one no expected record has it
pub no_position : {A : Type 0} (p : A → Bool) (xs : List A) (k : ℕ) (d : A) → position p xs ≡ None → k < length xs → p (get_or xs k d) ≡ false
no_position p xs k d none below =
    let past : length xs ≤ position_or_len p xs = ltb-false _ _ (not_some (nat_lt (position_or_len p xs) (length xs)) (position_or_len p xs) none) in
    fails_before_first p xs k d (omega arith)
  where
    not_some : (t : Bool) (n : ℕ) → cond t (Some n) None ≡ None → t ≡ false
    not_some true n e = absurd (cc e)
    not_some false n e = refl

-- two expected records have two serials
pub only_record : (b : Block) (i j : ℕ) → AreApart (expected_serials b) → i < length b.disks → j < length b.disks → is_expected (disk_at i b) ≡ true → is_expected (disk_at j b) ≡ true →
    serial_of (disk_at i b) ≡ serial_of (disk_at j b) → i ≡ j
only_record b i j apart low high first second same = elim (cases_order i j) [
  | inl e ↦ e
  | inr (inl before) ↦ absurd (false≢true (sym (no_twins_from_apart b.disks apart i j before high) ∙ twins i j first second same))
  | inr (inr behind) ↦ absurd (false≢true (sym (no_twins_from_apart b.disks apart j i behind low) ∙ twins j i second first (sym same)))
]
  where
    twins : (k l : ℕ) → is_expected (disk_at k b) ≡ true → is_expected (disk_at l b) ≡ true → serial_of (disk_at k b) ≡ serial_of (disk_at l b) → are_twins (disk_at k b) (disk_at l b) ≡ true
    twins k l one two e =
        and_from (is_expected (disk_at k b) && is_expected (disk_at l b)) _ (and_from (is_expected (disk_at k b)) _ one two) (eq_serial _ _ e)

-- AT AN INDEX

pub record_at : {X : Type 0} (word : Part → X) (none : X) (b : Block) (j : ℕ) → j < length b.disks → option_map_or word (slice_get b.disks j) none ≡ word (disk_at j b)
record_at {X} word none b j below = ap (λ (o : Option Part). option_map_or word o none) (slice_get-get_or b.disks j [] below)

pub record_past : {X : Type 0} (word : Part → X) (none : X) (b : Block) (j : ℕ) → length b.disks ≤ j → option_map_or word (slice_get b.disks j) none ≡ none
record_past {X} word none b j past = ap (λ (o : Option Part). option_map_or word o none) (slice_get_past b.disks j past)

abbrev pub serial_at : Block → ℕ → List ℕ
serial_at b j = option_map_or serial_of (slice_get b.disks j) []

-- of another expected record than that of a serial the serial is another
pub other_serial : (serial : List ℕ) (b : Block) (i j : ℕ) → AreApart (expected_serials b) → IsRecord serial b i → j ≢ i → (not (bytes_eq serial (serial_at b j)) && is_expected_at b j) ≡ is_expected_at b j
other_serial serial b i j apart r other = by_expected (is_expected_at b j) refl
  where
    by_expected : (t : Bool) → is_expected_at b j ≡ t → (not (bytes_eq serial (serial_at b j)) && t) ≡ t
    by_expected true e =
        ap (λ (t : Bool). not t && true)
        (ne_serial serial (serial_at b j) (λ same.
        elim (cases_lt j (length b.disks)) [
          | inl below ↦ other (sym (only_record b i j apart r.below below r.expected (sym (record_at is_expected false b j below) ∙ e)
              (r.serial_is ∙ same ∙ record_at serial_of [] b j below)))
          | inr past ↦ false≢true (sym (record_past is_expected false b j past) ∙ e)
        ]))
    by_expected false e = none (not (bytes_eq serial (serial_at b j)))
      where
        none : (t : Bool) → (t && false) ≡ false
        none true = refl
        none false = refl
