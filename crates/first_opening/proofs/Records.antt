-- Disk records of a block, by their serials.
use Rattle.std.proofs.Common.{◌≡◌, ℕ, zero, suc, ◌<◌, ◌&&◌, ◌||◌, Bool, true, false, cond, List, [], ◌∷◌, length, map, filter, find, get_or, slice_get, Option, Some, None, IsSomeAnd, bytes_eq, refl, sym, ◌∙◌, ap, arith}
use Rattle.std.specs.Option.{option_map_or}
use Rattle.std.specs.List.{list_all, AllByRecursion}
use Rattle.std.proofs.lemmas.Bool.{and_parts, or_left, or_right, or_from}
use Rattle.imsm_base.specs.Fields.{Part}
use Rattle.imsm_base.specs.Layout.{Block, HasLengths, disk_lengths, serial_of}
use Rattle.imsm_base.specs.Whole.{is_expected, first_of, own_record}
use Rattle.block_meaning.specs.Meaning.{has_serial}

found-in : {X : Type 0} (p : X → Bool) (xs : List X) (x : X) → find p xs ≡ Some x → (i : ℕ) × (slice_get xs i ≡ Some x) × (p x ≡ true)
found-in p [] x e = cc
found-in {X} p (y ∷ ys) x e = at (p y) refl e (found-in p ys x)
  where
    at : (b : Bool) → p y ≡ b → cond b (Some y) (find p ys) ≡ Some x → (find p ys ≡ Some x → (i : ℕ) × (slice_get ys i ≡ Some x) × (p x ≡ true)) →
        (i : ℕ) × (slice_get (y ∷ ys) i ≡ Some x) × (p x ≡ true)
    at true passes e rest = (0, e, sym (ap (λ (o : Option X). option_map_or p o true) e) ∙ passes)
    at false other e rest = let r = rest e in (suc r.0, r.1, r.2)

-- a record of the table that speaks for a serial
pub record Speaks (own : List ℕ) (disks : List Part) (P : Part → Type 0) : Type 0 where
  pub index : ℕ
  pub disk : Part
  pub there : slice_get disks index ≡ Some disk
  pub same : bytes_eq (serial_of disk) own ≡ true
  pub holds : P disk

abbrev is_alike : List ℕ → Part → Bool
is_alike own d = bytes_eq (serial_of d) own

abbrev is_expected_alike : List ℕ → Part → Bool
is_expected_alike own d = is_expected d && is_alike own d

pub speaks : (own : List ℕ) (b : Block) (P : Part → Type 0) → IsSomeAnd (own_record own b) P → Speaks own b.disks P
speaks own b P is = at (find (is_expected_alike own) b.disks) (find (is_alike own) b.disks) refl refl is
  where
    at : (x y : Option Part) → find (is_expected_alike own) b.disks ≡ x → find (is_alike own) b.disks ≡ y → IsSomeAnd (first_of x y) P → Speaks own b.disks P
    at (Some d) y first second is =
        let one = found-in (is_expected_alike own) b.disks d first in
        record { index = one.0; disk = d; there = one.1; same = (and_parts (is_expected d) (is_alike own d) one.2).1; holds = is }
    at None (Some d) first second is =
        let one = found-in (is_alike own) b.disks d second in
        record { index = one.0; disk = d; there = one.1; same = one.2; holds = is }
    at None None first second is = absurd is

-- where all records are expected, a serial of one is
pub expected-serial : (disks : List Part) (i : ℕ) (disk : Part) (serial : List ℕ) → list_all is_expected disks ≡ true → slice_get disks i ≡ Some disk → bytes_eq (serial_of disk) serial ≡ true →
    has_serial (map serial_of (filter is_expected disks)) serial ≡ true
expected-serial [] i disk serial all there same = cc
expected-serial (d ∷ ds) i disk serial all there same =
    let both = and_parts (is_expected d) (list_all is_expected ds) all in
    ap (λ b. has_serial (map serial_of (cond b (d ∷ filter is_expected ds) (filter is_expected ds))) serial) both.0
    ∙ at i there (λ k there. expected-serial ds k disk serial both.1 there same)
  where
    at : (k : ℕ) → slice_get (d ∷ ds) k ≡ Some disk → ((j : ℕ) → slice_get ds j ≡ Some disk → has_serial (map serial_of (filter is_expected ds)) serial ≡ true) →
        (bytes_eq (serial_of d) serial || has_serial (map serial_of (filter is_expected ds)) serial) ≡ true
    at zero there rest = or_left _ _ (ap (λ (o : Option Part). option_map_or (λ x. bytes_eq (serial_of x) serial) o true) there ∙ same)
    at (suc k) there rest = or_right _ _ (rest k there)

pub expected-at : (disks : List Part) (i : ℕ) → list_all is_expected disks ≡ true → i < length disks → option_map_or is_expected (slice_get disks i) false ≡ true
expected-at [] i all below = absurd (omega arith)
expected-at (d ∷ ds) zero all below = (and_parts (is_expected d) (list_all is_expected ds) all).0
expected-at (d ∷ ds) (suc i) all below = expected-at ds i (and_parts (is_expected d) (list_all is_expected ds) all).1 (omega arith)

-- NO RECORD HAS AN EMPTY SERIAL

never-less : (a b : ℕ) → a < b → a ≡ b → ⊥
never-less a b less e = omega arith

some-serial : (disk : Part) → HasLengths disk_lengths disk → bytes_eq (serial_of disk) [] ≡ false
some-serial [] lengths = cc
some-serial ([] ∷ fs) lengths = absurd (never-less 0 16 (omega arith) (ap (λ (ns : List ℕ). get_or ns 0 0) lengths))
some-serial ((x ∷ xs) ∷ fs) lengths = refl

pub no-empty-serial : (disks : List Part) → AllByRecursion (HasLengths disk_lengths) disks → has_serial (map serial_of (filter is_expected disks)) [] ≡ false
no-empty-serial [] lengths = refl
no-empty-serial (d ∷ ds) lengths = at (is_expected d) (no-empty-serial ds lengths.1)
  where
    at : (b : Bool) → has_serial (map serial_of (filter is_expected ds)) [] ≡ false → has_serial (map serial_of (cond b (d ∷ filter is_expected ds) (filter is_expected ds))) [] ≡ false
    at true rest = or_from _ _ (some-serial d lengths.0) rest
    at false rest = rest
