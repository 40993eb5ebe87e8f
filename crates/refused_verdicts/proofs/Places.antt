-- Where an element of a list stands.
use Rattle.std.proofs.Common.{◌≡◌, ℕ, zero, suc, List, [], ◌∷◌, ◌⊎◌, inl, inr, take, Some, ◌∙◌, ap, arith}
use Rattle.std.specs.Prelude.{Contains, slice_get}
use Rattle.std.proofs.lemmas.Option.{get_or_from_slice_get, slice_get-get_or, slice_get_within}

pub at_place : {X : Type 0} (xs : List X) (x : X) → Contains xs x → (k : ℕ) × (slice_get xs k ≡ Some x)
at_place xs x (k, below, is) = (k, slice_get-get_or xs k x below ∙ ap Some is)

pub at_contains : {X : Type 0} (xs : List X) (k : ℕ) (x : X) → slice_get xs k ≡ Some x → Contains xs x
at_contains xs k x at = (k, slice_get_within xs k x at, get_or_from_slice_get xs k x x at)

pub in_nil : {X : Type 0} (x : X) → Contains [] x → ⊥
in_nil x (k, below, is) = omega (arith, below)

pub in_cons : {X : Type 0} (x : X) (xs : List X) (y : X) → Contains (x ∷ xs) y → (x ≡ y) ⊎ Contains xs y
in_cons x xs y (zero, below, is) = inl is
in_cons x xs y (suc k, below, is) = inr (k, omega (arith, below), is)

pub same_at : {X : Type 0} (xs : List X) (k : ℕ) (x y : X) → slice_get xs k ≡ Some x → slice_get xs k ≡ Some y → x ≡ y
same_at xs k x y one other = cc (one, other)

-- an element of the front stands there in the whole
pub of_front : {X : Type 0} (xs : List X) (n k : ℕ) (x : X) → slice_get (take n xs) k ≡ Some x → slice_get xs k ≡ Some x
of_front xs zero k x at = absurd (cc at)
of_front [] (suc n) k x at = at
of_front (y ∷ xs) (suc n) zero x at = at
of_front (y ∷ xs) (suc n) (suc k) x at = of_front xs n k x at
