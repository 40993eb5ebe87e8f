-- Lists of disk numbers, and what is in them.
use Rattle.std.proofs.Common.{◌≡◌, ◌≢◌, ℕ, zero, suc, ◌+◌, ◌<◌, ◌≤◌, ◌==◌, ◌&&◌, ◌||◌, Bool, true, false, cond, List, [], ◌∷◌, ◌++◌, filter, flat_map, slice_get, Some, refl, sym, ◌∙◌, ap, subst, arith, replicate}
use Rattle.std.specs.List.{range_with_len}
use Rattle.std.proofs.lemmas.Bool.{false≢true, eqb-true, eqb-false, eq-eqb, or_left, or_right}
use Rattle.std.proofs.Math.Bool.{or_assoc}
use Rattle.stage_machine.specs.Setting.{has_disk}

has-append : (d : ℕ) (xs ys : List ℕ) → has_disk d (xs ++ ys) ≡ (has_disk d xs || has_disk d ys)
has-append d [] ys = refl
has-append d (x ∷ xs) ys = ap (λ b. (x == d) || b) (has-append d xs ys) ∙ sym (or_assoc (x == d) (has_disk d xs) (has_disk d ys))

has-cond : (d x : ℕ) (xs : List ℕ) (b : Bool) → has_disk d (cond b (x ∷ xs) xs) ≡ ((b && (x == d)) || has_disk d xs)
has-cond d x xs true = refl
has-cond d x xs false = refl

kept-bools : (a e h q : Bool) → (e ≡ true → a ≡ q) → ((a && e) || (h && q)) ≡ ((e || h) && q)
kept-bools true true h q same = same refl
kept-bools false true true q same = refl
kept-bools false true false q same = same refl
kept-bools true false h q same = refl
kept-bools false false h q same = refl

-- what is left by a filter was there and passes
pub has-filter : (d : ℕ) (p : ℕ → Bool) (xs : List ℕ) → has_disk d (filter p xs) ≡ (has_disk d xs && p d)
has-filter d p [] = refl
has-filter d p (x ∷ xs) =
    has-cond d x (filter p xs) (p x)
    ∙ ap (λ b. (p x && (x == d)) || b) (has-filter d p xs)
    ∙ kept-bools (p x) (x == d) (has_disk d xs) (p d) (λ e. ap p (eqb-true x d e))

-- a filter that all pass leaves all
pub filter-all : (p : ℕ → Bool) (xs : List ℕ) → ((d : ℕ) → has_disk d xs ≡ true → p d ≡ true) → filter p xs ≡ xs
filter-all p [] passes = refl
filter-all p (x ∷ xs) passes =
    ap (λ b. cond b (x ∷ filter p xs) (filter p xs)) (passes x (or_left (x == x) (has_disk x xs) (eq-eqb x x refl)))
    ∙ ap (λ ys. x ∷ ys) (filter-all p xs (λ d there. passes d (or_right (x == d) (has_disk d xs) there)))

pub below-range : (d a n : ℕ) → has_disk d (range_with_len a n) ≡ true → d < a + n
below-range d a zero e = absurd (false≢true e)
below-range d a (suc n) e = at (a == d) refl e (below-range d (a + 1) n)
  where
    at : (b : Bool) → (a == d) ≡ b → (b || has_disk d (range_with_len (a + 1) n)) ≡ true → (has_disk d (range_with_len (a + 1) n) ≡ true → d < (a + 1) + n) → d < a + suc n
    at true same e rest = let is : a ≡ d = eqb-true a d same in omega arith
    at false other e rest = omega (arith, rest e)

pub range-has : (d a n : ℕ) → a ≤ d → d < a + n → has_disk d (range_with_len a n) ≡ true
range-has d a zero least most = absurd (omega arith)
range-has d a (suc n) least most = at (a == d) refl (λ past. range-has d (a + 1) n past (omega arith))
  where
    at : (b : Bool) → (a == d) ≡ b → (a + 1 ≤ d → has_disk d (range_with_len (a + 1) n) ≡ true) → (b || has_disk d (range_with_len (a + 1) n)) ≡ true
    at true same rest = refl
    at false other rest = let apart : a ≢ d = eqb-false a d other in rest (omega arith)

-- what is in lists end to end is in one of them
pub in-one : {X : Type 0} (f : X → List ℕ) (d : ℕ) (xs : List X) → has_disk d (flat_map f xs) ≡ true → (i : ℕ) × (x : X) × (slice_get xs i ≡ Some x) × (has_disk d (f x) ≡ true)
in-one f d [] e = absurd (false≢true e)
in-one {X} f d (y ∷ ys) e = at (has_disk d (f y)) refl (sym (has-append d (f y) (flat_map f ys)) ∙ e) (in-one f d ys)
  where
    at : (b : Bool) → has_disk d (f y) ≡ b → (b || has_disk d (flat_map f ys)) ≡ true → (has_disk d (flat_map f ys) ≡ true → (i : ℕ) × (x : X) × (slice_get ys i ≡ Some x) × (has_disk d (f x) ≡ true)) →
        (i : ℕ) × (x : X) × (slice_get (y ∷ ys) i ≡ Some x) × (has_disk d (f x) ≡ true)
    at true here e rest = (0, y, refl, here)
    at false other e rest = let r = rest e in (suc r.0, r.1, r.2, r.3)

-- and what is in one of them is in all, end to end
pub in-flat : {X : Type 0} (f : X → List ℕ) (d : ℕ) (xs : List X) (i : ℕ) (x : X) → slice_get xs i ≡ Some x → has_disk d (f x) ≡ true → has_disk d (flat_map f xs) ≡ true
in-flat f d [] i x there e = cc
in-flat f d (y ∷ ys) zero x there e = let same : y ≡ x = cc there in has-append d (f y) (flat_map f ys) ∙ or_left _ _ (subst (λ z. has_disk d (f z) ≡ true) (sym same) e)
in-flat f d (y ∷ ys) (suc i) x there e = has-append d (f y) (flat_map f ys) ∙ or_right _ _ (in-flat f d ys i x there e)

-- what stands behind so many equal items
pub slice_get-behind : {X : Type 0} (n : ℕ) (z x : X) (xs : List X) → slice_get (replicate n z ++ x ∷ xs) n ≡ Some x
slice_get-behind zero z x xs = refl
slice_get-behind (suc n) z x xs = slice_get-behind n z x xs
