-- Targets that are left, and lists of disks without one.
use Rattle.std.proofs.Common.{◌≡◌, ◌≢◌, ℕ, zero, suc, ◌+◌, ◌<◌, ◌≤◌, ◌==◌, ◌||◌, ◌&&◌, not, Bool, true, false, List, [], ◌∷◌, refl, sym, subst, arith, ◌⊎◌, inl, inr, cond, eqb-true, eq-eqb}
use Rattle.std.specs.Prelude.{filter}
use Rattle.std.specs.List.{range_with_len}
use Rattle.array_machine.specs.Setting.{Setting}
use Rattle.array_machine.specs.Numbers.{has, without}
use Rattle.array_base.specs.Base.{is_left}

-- TESTS

pub or_cases : (a b : Bool) → (a || b) ≡ true → (a ≡ true) ⊎ (b ≡ true)
or_cases true b h = inl refl
or_cases false b h = inr h

pub or_neither : (a b : Bool) → (a || b) ≡ false → (a ≡ false) × (b ≡ false)
or_neither true b h = absurd cc
or_neither false b h = (refl, h)

pub or_first : (a b : Bool) → a ≡ true → (a || b) ≡ true
or_first true b h = refl
or_first false b h = absurd cc

pub or_second : (a b : Bool) → b ≡ true → (a || b) ≡ true
or_second true b h = refl
or_second false b h = h

-- LISTS WITHOUT A DISK

-- another disk is there as before
pub has_other : (d e : ℕ) (ds : List ℕ) → (d == e) ≡ false → has e (without d ds) ≡ has e ds
has_other d e [] other = refl
has_other d e (x ∷ xs) other = at (x == d) refl (has_other d e xs other)
  where
    at : (b : Bool) → (x == d) ≡ b → has e (without d xs) ≡ has e xs
        → has e (cond (not b) (x ∷ without d xs) (without d xs)) ≡ ((x == e) || has e xs)
    at true is more =
        let same : x ≡ d = eqb-true x d is in
        let none : (x == e) ≡ false = subst (λ y. (y == e) ≡ false) (sym same) other in
        rw (more, none) refl
    at false is more = rw more refl

-- what is there was there
pub has_less : (d e : ℕ) (ds : List ℕ) → has e (without d ds) ≡ true → has e ds ≡ true
has_less d e [] h = h
has_less d e (x ∷ xs) h = at (x == d) (has_less d e xs) h
  where
    at : (b : Bool) → (has e (without d xs) ≡ true → has e xs ≡ true)
        → has e (cond (not b) (x ∷ without d xs) (without d xs)) ≡ true → ((x == e) || has e xs) ≡ true
    at true more h = or_second (x == e) (has e xs) (more h)
    at false more h = elim (or_cases (x == e) (has e (without d xs)) h) [
      | inl here ↦ or_first (x == e) (has e xs) here
      | inr there ↦ or_second (x == e) (has e xs) (more there)
    ]

-- TARGETS LEFT

-- with fewer disks in either list fewer are left
pub left_less : (S : Setting) (left left' late late' : List ℕ) (d : ℕ) → (has d left' ≡ true → has d left ≡ true)
    → (has d late' ≡ true → has d late ≡ true) → is_left S left' late' d ≡ true → is_left S left late d ≡ true
left_less S left left' late late' d front back h = elim (or_cases (has d left') (has d late') h) [
  | inl is ↦ or_first (has d left) (has d late) (front is)
  | inr is ↦ or_second (has d left) (has d late) (back is)
]

-- the first target left is left
pub left_first : (S : Setting) (d : ℕ) (ds late : List ℕ) → is_left S (d ∷ ds) late d ≡ true
left_first S d ds late = let here : (d == d) ≡ true = eq-eqb d d refl in rw here refl

-- LISTS BY A TEST

-- what a filter leaves passes the test, and a disk in the range that passes it is left
pub has_passes : (test : ℕ → Bool) (ds : List ℕ) (d : ℕ) → has d (filter test ds) ≡ true → test d ≡ true
has_passes test [] d h = absurd cc
has_passes test (e ∷ es) d h = at (test e) refl (has_passes test es d) h
  where
    at : (b : Bool) → test e ≡ b → (has d (filter test es) ≡ true → test d ≡ true)
        → has d (cond b (e ∷ filter test es) (filter test es)) ≡ true → test d ≡ true
    at true is more h = elim (or_cases (e == d) (has d (filter test es)) h) [
      | inl here ↦ subst (λ x. test x ≡ true) (eqb-true e d here) is
      | inr there ↦ more there
    ]
    at false is more h = more h

pub passes_has : (test : ℕ → Bool) (from count d : ℕ) → from ≤ d → d < from + count → test d ≡ true
    → has d (filter test (range_with_len from count)) ≡ true
passes_has test from zero d low high is = absurd (omega (arith, low, high))
passes_has test from (suc n) d low high is = at (test from) refl (from == d) refl (passes_has test (from + 1) n d)
  where
    at : (b : Bool) → test from ≡ b → (same : Bool) → (from == d) ≡ same
        → (from + 1 ≤ d → d < from + 1 + n → test d ≡ true → has d (filter test (range_with_len (from + 1) n)) ≡ true)
        → has d (cond b (from ∷ filter test (range_with_len (from + 1) n)) (filter test (range_with_len (from + 1) n)))
        ≡ true
    at true is' true here more = or_first (from == d) _ here
    at false is' true here more =
        let none = subst (λ x. test x ≡ false) (eqb-true from d here) is' in
        absurd (cc (none, is))
    at b is' false other more = later b (more (omega (arith, low, differ)) (omega (arith, high)) is)
      where
        differ : from ≢ d
        differ same = let yes : (from == d) ≡ true = eq-eqb from d same in cc (yes, other)

        later : (b : Bool) → has d (filter test (range_with_len (from + 1) n)) ≡ true
            → has d (cond b (from ∷ filter test (range_with_len (from + 1) n))
            (filter test (range_with_len (from + 1) n)))
            ≡ true
        later true h = or_second (from == d) _ h
        later false h = h

-- PARTS OF A TEST

pub and_not : (a b : Bool) → (a && not b) ≡ true → (a ≡ true) × (b ≡ false)
and_not true true h = absurd cc
and_not true false h = (refl, refl)
and_not false b h = absurd cc
