-- The items of lists joined end to end, of ranges, and of ranges with some numbers left out.
use Rattle.std.proofs.Common.{◌≡◌, ℕ, zero, suc, ◌+◌, ◌*◌, ◌<◌, ◌≤◌, ◌==◌, not, Bool, true, false, cond, List, [], ◌∷◌, ◌++◌, length, filter, flat_map, slice_get, Some, refl, ap, ◌∙◌, subst, arith, ◌⊎◌, inl, inr, length-append}
use Rattle.std.specs.List.{range_with_len}
use Rattle.std.proofs.lemmas.Option.{none-some, same_Some}
use Rattle.std.proofs.lemmas.Bool.Decides.{nat_tests}
use Rattle.std.proofs.lemmas.Bool.{eqb-false}

-- LISTS JOINED

in_front_or_behind : {X : Type 0} (xs ys : List X) (s : ℕ) (y : X) → slice_get (xs ++ ys) s ≡ Some y
    → ((s < length xs) × (slice_get xs s ≡ Some y)) ⊎ ((r : ℕ) × (s ≡ length xs + r) × (slice_get ys r ≡ Some y))
in_front_or_behind [] ys s y is = inr (s, omega arith, is)
in_front_or_behind (x ∷ xs) ys zero y is = inl (omega arith, is)
in_front_or_behind (x ∷ xs) ys (suc s) y is = elim (in_front_or_behind xs ys s y is) [
  | inl h ↦ inl (omega (arith, h.0), h.1)
  | inr h ↦ inr (h.0, omega (arith, h.1), h.2)
]

-- item s of lists of L items each is item `rest` of one of them
pub record ItemOf {X Y : Type 0} (f : X → List Y) (xs : List X) (L s : ℕ) (y : Y) : Type 0 where
  pub number : ℕ
  pub source : X
  pub rest : ℕ
  pub there : slice_get xs number ≡ Some source
  pub item : slice_get (f source) rest ≡ Some y
  pub below : rest < L
  pub sum : s ≡ number * L + rest

pub item_of : {X Y : Type 0} (f : X → List Y) (L : ℕ) → ((x : X) → length (f x) ≡ L)
    → (xs : List X) (s : ℕ) (y : Y) → slice_get (flat_map f xs) s ≡ Some y → ItemOf f xs L s y
item_of f L same [] s y is = absurd (none-some y is)
item_of f L same (x ∷ xs) s y is = elim (in_front_or_behind (f x) (flat_map f xs) s y is) [
  | inl h ↦ record { number = 0; source = x; rest = s; there = refl; item = h.1; below = subst (λ n. s < n) (same x) h.0; sum = omega arith }
  | inr h ↦
      let more : ItemOf f xs L h.0 y = item_of f L same xs h.0 y h.2 in
      record {
        number = suc more.number;
        source = more.source;
        rest = more.rest;
        there = more.there;
        item = more.item;
        below = more.below;
        sum = omega (arith, h.1, same x, more.sum);
      }
]

pub length_joined : {X Y : Type 0} (f : X → List Y) (L : ℕ) → ((x : X) → length (f x) ≡ L) → (xs : List X) → length (flat_map f xs) ≡ length xs * L
length_joined f L same [] = omega arith
length_joined f L same (x ∷ xs) = omega (arith, length-append (f x) (flat_map f xs), same x, length_joined f L same xs)

-- RANGES

pub range_at : (a n k x : ℕ) → slice_get (range_with_len a n) k ≡ Some x → (x ≡ a + k) × (k < n)
range_at a zero k x is = absurd (none-some x is)
range_at a (suc n) zero x is = let same : a ≡ x = same_Some a x is in (omega (arith, same), omega arith)
range_at a (suc n) (suc k) x is = let h = range_at (a + 1) n k x is in (omega (arith, h.0), omega (arith, h.1))

module _ (test : ℕ → Bool) where
  abbrev kept : ℕ → ℕ → List ℕ
  kept a n = filter test (range_with_len a n)

  -- what is kept of a range is in it and passes
  pub kept_at : (a n k x : ℕ) → slice_get (filter test (range_with_len a n)) k ≡ Some x → (a ≤ x) × (x < a + n) × (test x ≡ true)
  kept_at a zero k x is = absurd (none-some x is)
  kept_at a (suc n) k x is = at (test a) refl k is (λ j h. kept_at (a + 1) n j x h)
    where
      at : (b : Bool) → test a ≡ b → (k : ℕ) → slice_get (cond b (a ∷ kept (a + 1) n) (kept (a + 1) n)) k ≡ Some x
          → ((j : ℕ) → slice_get (kept (a + 1) n) j ≡ Some x → (a + 1 ≤ x) × (x < a + 1 + n) × (test x ≡ true))
          → (a ≤ x) × (x < a + suc n) × (test x ≡ true)
      at true passes zero item more = let same : a ≡ x = same_Some a x item in (omega (arith, same), omega (arith, same), subst (λ z. test z ≡ true) same passes)
      at true passes (suc j) item more = let h = more j item in (omega (arith, h.0), omega (arith, h.1), h.2)
      at false fails k item more = let h = more k item in (omega (arith, h.0), omega (arith, h.1), h.2)

  -- no number is kept twice
  pub kept_once : (a n j k x : ℕ) → slice_get (filter test (range_with_len a n)) j ≡ Some x → slice_get (filter test (range_with_len a n)) k ≡ Some x → j ≡ k
  kept_once a zero j k x first second = absurd (none-some x first)
  kept_once a (suc n) j k x first second = at (test a) j k first second (λ i l f s. kept_once (a + 1) n i l x f s)
    where
      at : (b : Bool) (j k : ℕ) → slice_get (cond b (a ∷ kept (a + 1) n) (kept (a + 1) n)) j ≡ Some x
          → slice_get (cond b (a ∷ kept (a + 1) n) (kept (a + 1) n)) k ≡ Some x
          → ((i l : ℕ) → slice_get (kept (a + 1) n) i ≡ Some x → slice_get (kept (a + 1) n) l ≡ Some x → i ≡ l) → j ≡ k
      at true zero zero f s more = refl
      at true zero (suc l) f s more = absurd (let same : a ≡ x = same_Some a x f in let h = kept_at (a + 1) n l x s in omega (arith, same, h.0))
      at true (suc i) zero f s more = absurd (let same : a ≡ x = same_Some a x s in let h = kept_at (a + 1) n i x f in omega (arith, same, h.0))
      at true (suc i) (suc l) f s more = ap suc (more i l f s)
      at false j k f s more = more j k f s

-- all numbers but one are one fewer
all_kept : (a n k : ℕ) → k < a → length (filter (λ x. not (x == k)) (range_with_len a n)) ≡ n
all_kept a zero k lt = refl
all_kept a (suc n) k lt =
    let apart : (a == k) ≡ false = grind (arith, nat_tests, lt) in
    rw apart (ap suc (all_kept (a + 1) n k (omega arith)))

pub length_others : (a n k : ℕ) → a ≤ k → k < a + n → length (filter (λ x. not (x == k)) (range_with_len a n)) + 1 ≡ n
length_others a zero k le lt = absurd (omega arith)
length_others a (suc n) k le lt = at (a == k) refl (λ above. length_others (a + 1) n k above (omega arith))
  where
    at : (b : Bool) → (a == k) ≡ b
        → (a + 1 ≤ k → length (filter (λ x. not (x == k)) (range_with_len (a + 1) n)) + 1 ≡ n)
        → length (cond (not b) (a ∷ filter (λ x. not (x == k)) (range_with_len (a + 1) n)) (filter (λ x. not (x == k)) (range_with_len (a + 1) n))) + 1 ≡ suc n
    at true is more = let same : a ≡ k = grind (arith, nat_tests, is) in omega (arith, all_kept (a + 1) n k (omega (arith, same)))
    at false is more = let above : a + 1 ≤ k = grind (arith, nat_tests, is) in omega (arith, more above)

-- ALL NUMBERS BUT ONE

range_is : (a n d : ℕ) → d < n → slice_get (range_with_len a n) d ≡ Some (a + d)
range_is a zero d lt = absurd (omega (arith, lt))
range_is a (suc n) zero lt = ap Some (omega arith)
range_is a (suc n) (suc d) lt = range_is (a + 1) n d (omega (arith, lt)) ∙ ap Some (omega arith)

all_at : (a n k d : ℕ) → k < a → d < n → slice_get (filter (λ x. not (x == k)) (range_with_len a n)) d ≡ Some (a + d)
all_at a zero k d low lt = absurd (omega (arith, lt))
all_at a (suc n) k zero low lt =
    let apart : (a == k) ≡ false = grind (arith, nat_tests, low) in
    rw apart (ap Some (omega arith))
all_at a (suc n) k (suc d) low lt =
    let apart : (a == k) ≡ false = grind (arith, nat_tests, low) in
    rw apart (all_at (a + 1) n k d (omega (arith, low)) (omega (arith, lt)) ∙ ap Some (omega arith))

-- below the number that is left out, and from it on
pub other_below : (a n k d : ℕ) → a + d < k → k < a + n
    → slice_get (filter (λ x. not (x == k)) (range_with_len a n)) d ≡ Some (a + d)
other_below a zero k d low lt = absurd (omega (arith, low, lt))
other_below a (suc n) k zero low lt =
    let apart : (a == k) ≡ false = grind (arith, nat_tests, low) in
    rw apart (ap Some (omega arith))
other_below a (suc n) k (suc d) low lt =
    let apart : (a == k) ≡ false = grind (arith, nat_tests, low) in
    rw apart (other_below (a + 1) n k d (omega (arith, low)) (omega (arith, lt)) ∙ ap Some (omega arith))

pub other_above : (a n k d : ℕ) → a ≤ k → k ≤ a + d → d + 1 < n
    → slice_get (filter (λ x. not (x == k)) (range_with_len a n)) d ≡ Some (a + d + 1)
other_above a zero k d le low lt = absurd (omega (arith, lt))
other_above a (suc n) k d le low lt = at (a == k) refl d low lt
    (λ e above more less. other_above (a + 1) n k e above more less)
  where
    at : (b : Bool) → (a == k) ≡ b → (d : ℕ) → k ≤ a + d → d + 1 < suc n
        → ((e : ℕ) → a + 1 ≤ k → k ≤ a + 1 + e → e + 1 < n
        → slice_get (filter (λ x. not (x == k)) (range_with_len (a + 1) n)) e ≡ Some (a + 1 + e + 1))
        → slice_get (cond (not b) (a ∷ filter (λ x. not (x == k)) (range_with_len (a + 1) n))
        (filter (λ x. not (x == k)) (range_with_len (a + 1) n))) d ≡ Some (a + d + 1)
    at true is d low lt more =
        let same : a ≡ k = grind (arith, nat_tests, is) in
        all_at (a + 1) n k d (omega (arith, same)) (omega (arith, lt)) ∙ ap Some (omega arith)
    at false is zero low lt more =
        absurd (let apart : (a ≡ k) → ⊥ = eqb-false a k is in apart (omega (arith, le, low)))
    at false is (suc d) low lt more =
        let above : a + 1 ≤ k = grind (arith, nat_tests, is, le) in
        more d above (omega (arith, low)) (omega (arith, lt)) ∙ ap Some (omega arith)
