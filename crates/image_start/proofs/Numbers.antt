-- The numbers of the disks that a slot names.
use Rattle.std.proofs.Common.{◌≡◌, ℕ, zero, suc, ◌+◌, ◌<◌, ◌≤◌, ◌==◌, ◌||◌, not, Bool, true, false, cond, List, [], ◌∷◌, ◌++◌, length, map, filter, get_or, slice_get, Option, Some, None, IsSome, bytes_eq, refl, sym, ◌∙◌, ap, subst, arith}
use Rattle.std.specs.List.{list_all, list_any, position, position_or_len, range_with_len}
use Rattle.std.specs.Option.{option_map_or}
use Rattle.std.proofs.lemmas.Bool.{and_parts, eqb-true, eqb-false, false≢true, false_from_ne_true, lt-ltb}
use Rattle.std.proofs.lemmas.List.FromFn.{map-range_with_len_more}
use Rattle.std.proofs.lemmas.List.Quantifiers.{position-Some}
use Rattle.std.proofs.lemmas.Option.{get_or_from_slice_get}
use Rattle.std.proofs.lemmas.Slice.Eq.{bytes_eq-Decides}
use Rattle.units.specs.declared.disk.Sector.{Sector}
use Rattle.imsm_base.specs.Fields.{Part}
use Rattle.imsm_base.specs.Layout.{serial_of}
use Rattle.array_model.specs.Blocks.{SlotWords}
use Rattle.first_opening.specs.Opened.{disks_in_slot, serial_at}
use Rattle.image_verdict.specs.declared.images.ImageRead.{ImageRead}
use Rattle.image_start.specs.Starts.{Starts}
use Rattle.image_start.specs.Openings.{opened_on}
use Rattle.image_start.proofs.Images.{IsAt, image-at, length-serials, one-number}

-- A FILTER THAT ONE NUMBER PASSES

none-passes : (q : ℕ → Bool) (a n : ℕ) → ((d : ℕ) → a ≤ d → d < a + n → q d ≡ true → ⊥) → filter q (range_with_len a n) ≡ []
none-passes q a zero none = refl
none-passes q a (suc n) none =
    ap (λ b. cond b (a ∷ filter q (range_with_len (a + 1) n)) (filter q (range_with_len (a + 1) n))) (false_from_ne_true (q a) (none a (omega arith) (omega arith)))
    ∙ none-passes q (a + 1) n (λ d least most passes. none d (omega (arith, least)) (omega (arith, most)) passes)

abbrev OnePasses : (ℕ → Bool) → (p a n : ℕ) → Type 0
OnePasses q p a n = a ≤ p → p < a + n → ((d : ℕ) → a ≤ d → d < a + n → q d ≡ true → d ≡ p) → filter q (range_with_len a n) ≡ p ∷ []

pub one-passes : (q : ℕ → Bool) (p a n : ℕ) → q p ≡ true → OnePasses q p a n
one-passes q p a zero passes least most one = absurd (omega arith)
one-passes q p a (suc n) passes least most one = at (a == p) refl (one-passes q p (a + 1) n passes)
  where
    here : a ≡ p → cond (q a) (a ∷ filter q (range_with_len (a + 1) n)) (filter q (range_with_len (a + 1) n)) ≡ p ∷ []
    here same =
        ap (λ b. cond b (a ∷ filter q (range_with_len (a + 1) n)) (filter q (range_with_len (a + 1) n))) (ap q same ∙ passes)
        ∙ ap (λ xs. a ∷ xs) (none-passes q (a + 1) n (λ d more less other. let is : d ≡ p = one d (omega (arith, more)) (omega (arith, less)) other in omega (arith, is, same, more)))
        ∙ ap (λ k. k ∷ []) same

    past : (a ≡ p → ⊥) → OnePasses q p (a + 1) n → cond (q a) (a ∷ filter q (range_with_len (a + 1) n)) (filter q (range_with_len (a + 1) n)) ≡ p ∷ []
    past other rest =
        ap (λ b. cond b (a ∷ filter q (range_with_len (a + 1) n)) (filter q (range_with_len (a + 1) n))) (false_from_ne_true (q a) (λ e. other (one a (omega arith) (omega arith) e)))
        ∙ rest (omega arith) (omega arith) (λ d more less e. one d (omega (arith, more)) (omega (arith, less)) e)

    at : (b : Bool) → (a == p) ≡ b → OnePasses q p (a + 1) n → cond (q a) (a ∷ filter q (range_with_len (a + 1) n)) (filter q (range_with_len (a + 1) n)) ≡ p ∷ []
    at true same rest = here (eqb-true a p same)
    at false other rest = past (eqb-false a p other) rest

-- one number more
pub one-more : (a n : ℕ) → range_with_len a (n + 1) ≡ range_with_len a n ++ (a + n) ∷ []
one-more a n =
    sym (all-numbers (range_with_len a (n + 1))) ∙ map-range_with_len_more (λ k. k) a n (a + n) refl
    ∙ ap (λ xs. xs ++ (a + n) ∷ []) (all-numbers (range_with_len a n))
  where
    all-numbers : (xs : List ℕ) → map (λ k. k) xs ≡ xs
    all-numbers [] = refl
    all-numbers (x ∷ xs) = ap (λ ys. x ∷ ys) (all-numbers xs)

-- A SERIAL

blank : ImageRead
blank = record { serial = record { 0 = [] }; sectors = 0; anchor = None }

-- an image of this number has this serial
pub record IsNamed (images : List ImageRead) (serial : List ℕ) (p : ℕ) : Type 0 where
  pub below : p < length images
  pub at : IsAt images p
  pub same : at.image.serial.0 ≡ serial

pub is-named : (images : List ImageRead) (serial : List ℕ) (p : ℕ) → position (λ (i : ImageRead). bytes_eq i.serial.0 serial) images ≡ Some p → IsNamed images serial p
is-named images serial p found =
    let is = position-Some (λ (i : ImageRead). bytes_eq i.serial.0 serial) images p blank found in
    let at : IsAt images p = image-at images p is.0 in
    let here : get_or images p blank ≡ at.image = get_or_from_slice_get images p at.image blank at.there in
    record {
      below = is.0;
      at = at;
      same = (bytes_eq-Decides at.image.serial.0 serial).0 (sym (ap (λ (i : ImageRead). bytes_eq i.serial.0 serial) here) ∙ is.1);
    }

-- it is the one that a slot with this serial names
pub in-slot : (images : List ImageRead) (contents : List (List Sector)) (w : SlotWords) (p : ℕ) → Starts images → IsNamed images w.serial p → disks_in_slot (opened_on images contents) w ≡ p ∷ []
in-slot images contents w p s is =
    one-passes (λ d. bytes_eq w.serial (serial_at (opened_on images contents) d)) p 0 (length (opened_on images contents).serials)
    ((bytes_eq-Decides w.serial (serial_at (opened_on images contents) p)).1 (sym (is.at.serial ∙ is.same)))
    (omega arith) (omega (arith, is.below, length-serials images))
    (λ d least below passes.
    let at : IsAt images d = image-at images d (omega (arith, below, length-serials images)) in
    let same : w.serial ≡ serial_at (opened_on images contents) d = (bytes_eq-Decides w.serial (serial_at (opened_on images contents) d)).0 passes in
    one-number images d p s.distinct at is.at (sym at.serial ∙ sym same ∙ sym is.same))

-- a serial that is there is found
pub is-found : {X : Type 0} (p : X → Bool) (xs : List X) → list_any p xs ≡ true → position_or_len p xs < length xs
is-found p [] there = absurd (false≢true there)
is-found p (x ∷ xs) there = at (p x) there (is-found p xs)
  where
    at : (b : Bool) → (b || list_any p xs) ≡ true → (list_any p xs ≡ true → position_or_len p xs < length xs) → cond (not b) (1 + position_or_len p xs) 0 < suc (length xs)
    at true there rest = omega arith
    at false there rest = omega (arith, rest there)

-- it has a place
pub is-placed : {X : Type 0} (p : X → Bool) (xs : List X) (o : Option ℕ) → o ≡ position p xs → list_any p xs ≡ true → IsSome o
is-placed p xs o is there =
    subst IsSome (sym (is ∙ ap (λ b. cond b (Some (position_or_len p xs)) None) (lt-ltb (position_or_len p xs) (length xs) (is-found p xs there)))) refl

-- each record of a table passes
pub record-passes : (p : List ℕ → Bool) (disks : List Part) (i : ℕ) → list_all p (map serial_of disks) ≡ true → i < length disks → p (option_map_or serial_of (slice_get disks i) []) ≡ true
record-passes p [] i all below = absurd (omega arith)
record-passes p (d ∷ ds) zero all below = (and_parts (p (serial_of d)) (list_all p (map serial_of ds)) all).0
record-passes p (d ∷ ds) (suc i) all below = record-passes p ds i (and_parts (p (serial_of d)) (list_all p (map serial_of ds)) all).1 (omega arith)
