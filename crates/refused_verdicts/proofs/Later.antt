-- What is true of each element of a list and each one behind it.
use Rattle.std.proofs.Common.{◌≡◌, ◌≢◌, ◌<◌, ◌≤◌, ◌+◌, ℕ, zero, suc, List, [], ◌∷◌, ◌++◌, take, Some, refl, subst, arith}
use Rattle.std.specs.Prelude.{Contains, slice_get, ⊤}
use Rattle.std.specs.List.{AllByRecursion, range_with_len}

abbrev pub AllLater : {X : Type 0} → (X → X → Type 0) → List X → Type 0
AllLater R [] = ⊤
AllLater R (x ∷ xs) = AllByRecursion (R x) xs × AllLater R xs

pub all_at : {X : Type 0} (P : X → Type 0) (xs : List X) (k : ℕ) (x : X) → AllByRecursion P xs → slice_get xs k ≡ Some x → P x
all_at P [] k x all at = absurd (cc at)
all_at P (y ∷ xs) zero x all at = let same : y ≡ x = cc at in subst P same all.0
all_at P (y ∷ xs) (suc k) x all at = all_at P xs k x all.1 at

pub later_at : {X : Type 0} (R : X → X → Type 0) (xs : List X) (i j : ℕ) (x y : X) → AllLater R xs → i < j → slice_get xs i ≡ Some x → slice_get xs j ≡ Some y → R x y
later_at R [] i j x y all below at there = absurd (cc at)
later_at R (z ∷ xs) zero zero x y all below at there = absurd (omega (arith, below))
later_at R (z ∷ xs) zero (suc j) x y all below at there = let same : z ≡ x = cc at in subst (λ w. R w y) same (all_at (R z) xs j y all.0 there)
later_at R (z ∷ xs) (suc i) zero x y all below at there = absurd (omega (arith, below))
later_at R (z ∷ xs) (suc i) (suc j) x y all below at there = later_at R xs i j x y all.1 (omega (arith, below)) at there

-- what is true of each element that is there
pub all_there : {X : Type 0} (P : X → Type 0) (xs : List X) → ((x : X) → Contains xs x → P x) → AllByRecursion P xs
all_there P [] each = tt
all_there P (x ∷ xs) each = (each x (0, omega arith, refl), all_there P xs (λ y there. each y (suc there.0, (let below = there.1 in omega (arith, below)), there.2)))

pub all_both : {X : Type 0} (P : X → Type 0) (xs ys : List X) → AllByRecursion P xs → AllByRecursion P ys → AllByRecursion P (xs ++ ys)
all_both P [] ys one more = more
all_both P (x ∷ xs) ys one more = (one.0, all_both P xs ys one.1 more)

pub later_both : {X : Type 0} (R : X → X → Type 0) (xs ys : List X) → AllLater R xs → AllLater R ys → ((x y : X) → Contains xs x → Contains ys y → R x y) → AllLater R (xs ++ ys)
later_both R [] ys one more across = more
later_both R (x ∷ xs) ys one more across = (
  all_both (R x) xs ys one.0 (all_there (R x) ys (λ y there. across x y (0, omega arith, refl) there)),
  later_both R xs ys one.1 more (λ z y here there. across z y (suc here.0, (let below = here.1 in omega (arith, below)), here.2) there),
)

pub later_any : {X : Type 0} (R : X → X → Type 0) (xs : List X) → ((x y : X) → Contains xs x → Contains xs y → R x y) → AllLater R xs
later_any R [] each = tt
later_any R (x ∷ xs) each = (
  all_there (R x) xs (λ y there. each x y (0, omega arith, refl) (suc there.0, (let below = there.1 in omega (arith, below)), there.2)),
  later_any R xs (λ y z here there. each y z (suc here.0, (let below = here.1 in omega (arith, below)), here.2) (suc there.0, (let below = there.1 in omega (arith, below)), there.2)),
)

all_front : {X : Type 0} (P : X → Type 0) (n : ℕ) (xs : List X) → AllByRecursion P xs → AllByRecursion P (take n xs)
all_front P zero xs all = tt
all_front P (suc n) [] all = tt
all_front P (suc n) (x ∷ xs) all = (all.0, all_front P n xs all.1)

pub later_front : {X : Type 0} (R : X → X → Type 0) (n : ℕ) (xs : List X) → AllLater R xs → AllLater R (take n xs)
later_front R zero xs all = tt
later_front R (suc n) [] all = tt
later_front R (suc n) (x ∷ xs) all = (all_front (R x) n xs all.0, later_front R n xs all.1)

-- RANGES

pub all_range : (P : ℕ → Type 0) (a n : ℕ) → ((i : ℕ) → a ≤ i → i < a + n → P i) → AllByRecursion P (range_with_len a n)
all_range P a zero each = tt
all_range P a (suc n) each = (each a (omega arith) (omega arith), all_range P (a + 1) n (λ i low high. each i (omega (arith, low)) (omega (arith, high))))

pub later_range : (a n : ℕ) → AllLater (λ (i j : ℕ). i ≢ j) (range_with_len a n)
later_range a zero = tt
later_range a (suc n) = (all_range (λ (j : ℕ). a ≢ j) (a + 1) n (λ i low high same. omega (arith, low, same)), later_range (a + 1) n)
