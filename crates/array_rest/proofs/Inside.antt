-- The slots of a placement at level five are among the members; and the row of a job that makes a call, whose plan can
-- be read.
use Rattle.std.proofs.Common.{◌≡◌, ℕ, zero, suc, ◌+◌, ◌*◌, ◌<◌, ◌≤◌, ◌==◌, not, nat_lt, Bool, true, false, List, [], ◌∷◌, filter, map, subst, arith, Option, Some, None, cond}
use Rattle.std.specs.Prelude.{⊤, slice_get, flat_map}
use Rattle.std.specs.List.{AllByRecursion, range_with_len}
use Rattle.units.specs.declared.volume.Level.{Level}
use Rattle.units.specs.declared.volume.Level.TheVariants.{One, Five, Ten}
use Rattle.array_model.proofs.Journals.{all-append}
use Rattle.array_model.specs.Placement.{Shape, Placement, SlotPair, others, parity_slot, rows_on, stripe_slots, stripe_rows, stripe, stripes, placement_by}
use Rattle.array_rest.proofs.Plans.{IsInside}

-- LISTS

all_flat : {A : Type 0} {B : Type 0} (Q : B → Type 0) (f : A → List B) (R : A → Type 0) (xs : List A)
    → AllByRecursion R xs → ((x : A) → R x → AllByRecursion Q (f x)) → AllByRecursion Q (flat_map f xs)
all_flat Q f R [] all each = tt
all_flat Q f R (x ∷ xs) all each =
    all-append Q (f x) (flat_map f xs) (each x all.0) (all_flat Q f R xs all.1 each)

all_mapped : {A : Type 0} {B : Type 0} (Q : B → Type 0) (f : A → B) (R : A → Type 0) (xs : List A)
    → AllByRecursion R xs → ((x : A) → R x → Q (f x)) → AllByRecursion Q (map f xs)
all_mapped Q f R [] all each = tt
all_mapped Q f R (x ∷ xs) all each = (each x all.0, all_mapped Q f R xs all.1 each)

any_number : (xs : List ℕ) → AllByRecursion (λ n. ⊤) xs
any_number [] = tt
any_number (x ∷ xs) = (tt, any_number xs)

below_all : (test : ℕ → Bool) (a n : ℕ) → AllByRecursion (λ k. k < a + n) (filter test (range_with_len a n))
below_all test a zero = tt
below_all test a (suc n) = at (test a) (later (filter test (range_with_len (a + 1) n)) (below_all test (a + 1) n))
  where
    later : (xs : List ℕ) → AllByRecursion (λ k. k < a + 1 + n) xs → AllByRecursion (λ k. k < a + suc n) xs
    later [] all = tt
    later (x ∷ xs) all = (let lt = all.0 in omega (arith, lt), later xs all.1)

    at : (b : Bool) → AllByRecursion (λ k. k < a + suc n) (filter test (range_with_len (a + 1) n))
        → AllByRecursion (λ k. k < a + suc n)
        (cond b (a ∷ filter test (range_with_len (a + 1) n)) (filter test (range_with_len (a + 1) n)))
    at true all = (omega arith, all)
    at false all = all

one_of_all : {B : Type 0} (Q : B → Type 0) (xs : List B) (s : ℕ) (x : B) → AllByRecursion Q xs
    → slice_get xs s ≡ Some x → Q x
one_of_all Q [] s x all is = absurd cc
one_of_all Q (y ∷ ys) zero x all is = let same : y ≡ x = cc is in subst Q same all.0
one_of_all Q (y ∷ ys) (suc s) x all is = one_of_all Q ys s x all.1 is

-- LEVEL FIVE

abbrev FitsIn : ℕ → Placement → Type 0
FitsIn n p = (p.main < n) × (p.other < n)

parity_below : (n t k : ℕ) → k < n → parity_slot n t < n
parity_below n t k lt = let some : 1 ≤ n = omega (arith, lt) in omega (arith, some)

pairs_fit : (n t : ℕ) → AllByRecursion (λ (pair : SlotPair). (pair.main < n) × (pair.other < n)) (stripe_slots Five n t)
pairs_fit n t =
    all_mapped (λ (pair : SlotPair). (pair.main < n) × (pair.other < n)) _ (λ k. k < 0 + n) (others n (parity_slot n t))
    (below_all (λ k. not (k == parity_slot n t)) 0 n)
    (λ k lt. (omega (arith, lt), parity_below n t k (omega (arith, lt))))

stripes_fit : (n strip count : ℕ) → AllByRecursion (FitsIn n) (stripes Five n strip count)
stripes_fit n strip count =
    all_flat (FitsIn n) (stripe Five n strip) (λ t. ⊤) (range_with_len 0 count) (any_number (range_with_len 0 count))
    (λ t is. all_flat (FitsIn n) (rows_on (t * stripe_rows Five strip) (stripe_rows Five strip))
    (λ (pair : SlotPair). (pair.main < n) × (pair.other < n)) (stripe_slots Five n t) (pairs_fit n t)
    (λ pair fits. all_mapped (FitsIn n) _ (λ row. ⊤)
    (range_with_len (t * stripe_rows Five strip) (stripe_rows Five strip))
    (any_number (range_with_len (t * stripe_rows Five strip) (stripe_rows Five strip))) (λ row r. fits)))

pub placed_inside : (level : Option Level) (shape : Shape) (s : ℕ) (p : Placement)
    → placement_by level shape s ≡ Some p → IsInside level shape p
placed_inside None shape s p is = tt
placed_inside (Some One) shape s p is = tt
placed_inside (Some Ten) shape s p is = tt
placed_inside (Some Five) shape s p is = at (nat_lt s shape.size) is
  where
    at : (b : Bool)
        → cond b (slice_get (stripes Five shape.members shape.strip (s + 1)) s) None ≡ Some p
        → (p.main < shape.members) × (p.other < shape.members)
    at true is =
        one_of_all (FitsIn shape.members) (stripes Five shape.members shape.strip (s + 1)) s p
        (stripes_fit shape.members shape.strip (s + 1)) is
    at false is = absurd (cc is)
