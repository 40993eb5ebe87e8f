-- What the records of a whole block say of serials: each has its 16 bytes, only recorded disks are expected, and an
-- expected record speaks for its serial.
use Rattle.std.proofs.Common.{◌≡◌, ℕ, zero, suc, ◌<◌, ◌&&◌, ◌||◌, Bool, true, false, cond, List, [], ◌∷◌, length, map, get_or, Option, Some, refl, sym, ◌∙◌, ap, arith}
use Rattle.std.specs.Prelude.{find}
use Rattle.std.specs.List.{list_any, AllByRecursion}
use Rattle.std.specs.Str.{bytes_eq}
use Rattle.std.proofs.lemmas.Bool.{and_parts, and_from, or_parts}
use Rattle.std.proofs.lemmas.List.Folds.{list_any_at}
use Rattle.imsm_base.specs.Fields.{Part}
use Rattle.imsm_base.specs.Layout.{Block, HasLengths, disk_lengths, serial_of}
use Rattle.imsm_base.specs.Whole.{AreApart, is_expected, expected_serials, own_record, first_of}
use Rattle.imsm_codec.specs.Mpb.{disk_at}
use Rattle.block_meaning.specs.Meaning.{has_serial}
use Rattle.array_edits.proofs.Disks.{serial_eq, eq_serial, ne_serial, expects_serial, has_expected, only_record}

-- THEIR BYTES

serial_long : (d : Part) → HasLengths disk_lengths d → length (serial_of d) ≡ 16
serial_long [] lengths = absurd (cc lengths)
serial_long (x ∷ xs) lengths = ap (λ (ns : List ℕ). get_or ns 0 0) lengths

none_empty : (ds : List Part) → AllByRecursion (HasLengths disk_lengths) ds → list_any (expects_serial []) ds ≡ false
none_empty [] all = refl
none_empty (d ∷ ds) all =
    let other : bytes_eq (serial_of d) [] ≡ false = ne_serial (serial_of d) [] (λ same.
    let long = serial_long d all.0 in
    let none = ap (λ (xs : List ℕ). length xs) same in
    omega (arith, long, none)) in
    ap (λ (t : Bool). (is_expected d && t) || list_any (expects_serial []) ds) other
    ∙ ap (λ (t : Bool). t || list_any (expects_serial []) ds) (never (is_expected d)) ∙ none_empty ds all.1
  where
    never : (t : Bool) → (t && false) ≡ false
    never true = refl
    never false = refl

-- no record of an empty serial is expected
pub empty_unexpected : (b : Block) → AllByRecursion (HasLengths disk_lengths) b.disks
    → has_serial (expected_serials b) [] ≡ false
empty_unexpected b all = has_expected b.disks [] ∙ none_empty b.disks all

-- ONLY RECORDED DISKS

none_expected : (ds : List Part) (serial : List ℕ) → has_serial (map serial_of ds) serial ≡ false
    → list_any (expects_serial serial) ds ≡ false
none_expected [] serial none = refl
none_expected (d ∷ ds) serial none =
    let parts = or_parts (bytes_eq (serial_of d) serial) (has_serial (map serial_of ds) serial) none in
    ap (λ (t : Bool). (is_expected d && t) || list_any (expects_serial serial) ds) parts.0
    ∙ ap (λ (t : Bool). t || list_any (expects_serial serial) ds) (never (is_expected d))
    ∙ none_expected ds serial parts.1
  where
    never : (t : Bool) → (t && false) ≡ false
    never true = refl
    never false = refl

pub unrecorded_unexpected : (b : Block) (serial : List ℕ) → has_serial (map serial_of b.disks) serial ≡ false
    → has_serial (expected_serials b) serial ≡ false
unrecorded_unexpected b serial none = has_expected b.disks serial ∙ none_expected b.disks serial none

-- WHICH RECORD SPEAKS

-- where one place alone passes a test, it is found
find_only : {A : Type 0} (p : A → Bool) (xs : List A) (i : ℕ) (d : A) → i < length xs → p (get_or xs i d) ≡ true
    → ((j : ℕ) → j < length xs → p (get_or xs j d) ≡ true → j ≡ i) → find p xs ≡ Some (get_or xs i d)
find_only p [] i d below here only = absurd (omega arith)
find_only p (x ∷ xs) zero d below here only = ap (λ (t : Bool). cond t (Some x) (find p xs)) here
find_only {A} p (x ∷ xs) (suc i) d below here only =
    at (p x) refl (find_only p xs i d (omega arith) here
    (λ j inside passes. let same = only (suc j) (omega arith) passes in omega arith))
  where
    at : (t : Bool) → p x ≡ t → find p xs ≡ Some (get_or xs i d)
        → cond (p x) (Some x) (find p xs) ≡ Some (get_or xs i d)
    at true first more = absurd (let same = only 0 (omega arith) first in omega arith)
    at false first more = ap (λ (t : Bool). cond t (Some x) (find p xs)) first ∙ more

-- an expected record of a serial speaks for it, and the block expects the serial
pub record Speaks (b : Block) (serial : List ℕ) (i : ℕ) : Type 0 where
  pub own : own_record serial b ≡ Some (disk_at i b)
  pub expected : has_serial (expected_serials b) serial ≡ true

pub expected_speaks : (b : Block) (serial : List ℕ) (i : ℕ) → AreApart (expected_serials b) → i < length b.disks
    → is_expected (disk_at i b) ≡ true → serial_of (disk_at i b) ≡ serial → Speaks b serial i
expected_speaks b serial i apart below expected same =
    let here : expects_serial serial (disk_at i b) ≡ true =
    and_from (is_expected (disk_at i b)) _ expected (eq_serial (serial_of (disk_at i b)) serial same) in
    record {
      own = ap (λ (o : Option Part). first_of o (find (λ d. bytes_eq (serial_of d) serial) b.disks))
          (find_only (expects_serial serial) b.disks i [] below here (λ j inside passes.
          let both = and_parts (is_expected (disk_at j b)) (bytes_eq (serial_of (disk_at j b)) serial) passes in
          only_record b j i apart inside below both.0 expected
          (serial_eq (serial_of (disk_at j b)) serial both.1 ∙ sym same)));
      expected = has_expected b.disks serial ∙ list_any_at (expects_serial serial) b.disks i [] below here;
    }
