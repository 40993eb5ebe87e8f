-- The first piece of bytes.
use Rattle.std.proofs.Common.{◌≡◌, ◌<◌, ◌+◌, ◌-◌, ℕ, List, [], ◌∷◌, Bool, true, false, cond, length, take, drop, arith, refl, Some, None, ◌∙◌, length-drop}
use Rattle.std.specs.Prelude.{nat_lt, position}
use Rattle.std.specs.List.{position_or_len, slice_split}
use Rattle.std.proofs.lemmas.Bool.Decides.{nat_tests}
use Rattle.std.proofs.lemmas.List.{take_all}
use Rattle.std.proofs.lemmas.List.Splits.{slice_split_first}
use Rattle.std.proofs.lemmas.List.Sums.{prefix_len-le-length}

found : (b : Bool) (n at : ℕ) → cond b (Some n) None ≡ Some at → (b ≡ true) × (n ≡ at)
found true n at is = (refl, cc)
found false n at is = absurd (cc)

-- where a separator stands, the first piece ends at it
pub cut_at : (p : ℕ → Bool) (xs : List ℕ) (at : ℕ) → position p xs ≡ Some at
    → slice_split p xs ≡ take at xs ∷ slice_split p (take (length xs - (at + 1)) (drop (at + 1) xs))
cut_at p xs at is =
    let here = found (nat_lt (position_or_len p xs) (length xs)) (position_or_len p xs) at is in
    let test : nat_lt (position_or_len p xs) (length xs) ≡ true = here.0 in
    let place : position_or_len p xs ≡ at = here.1 in
    let below : position_or_len p xs < length xs = grind (arith, nat_tests) in
    let rest : take (length xs - (at + 1)) (drop (at + 1) xs) ≡ drop (at + 1) xs = take_all _ _ (omega (arith, length-drop (at + 1) xs)) in
    slice_split_first p xs 0 below ∙ rw (place, rest) refl

none : (b : Bool) (n : ℕ) → cond b (Some n) None ≡ None → b ≡ false
none true n is = absurd (cc)
none false n is = refl

-- where there is none, there is one piece
split_none : (p : ℕ → Bool) (xs : List ℕ) → position_or_len p xs ≡ length xs → slice_split p xs ≡ xs ∷ []
split_none p [] all = refl
split_none p (x ∷ xs) all = at (p x) refl (split_none p xs) where
  at : (b : Bool) → p x ≡ b → (position_or_len p xs ≡ length xs → slice_split p xs ≡ xs ∷ []) → slice_split p (x ∷ xs) ≡ (x ∷ xs) ∷ []
  at true is later = absurd (omega (arith, rw is at all))
  at false is later = rw (is, later (omega (arith, rw is at all))) refl

pub cut_none : (p : ℕ → Bool) (xs : List ℕ) → position p xs ≡ None → slice_split p xs ≡ xs ∷ []
cut_none p xs is =
    let test : nat_lt (position_or_len p xs) (length xs) ≡ false = none _ (position_or_len p xs) is in
    split_none p xs (grind (arith, nat_tests, prefix_len-le-length))
