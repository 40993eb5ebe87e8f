-- Disks that arrive in another order are kept in the same one.
use Rattle.std.proofs.Common.{◌≡◌, ◌<◌, ◌⊎◌, ℕ, zero, suc, Bool, true, false, cond, List, [], ◌∷◌, get_or, refl, sym, ◌∙◌, ap, subst, inl, inr, arith, ltb}
use Rattle.std.specs.List.{All, Contains, filter}
use Rattle.std.specs.List.Sorted.{IsPermutation}
use Rattle.std.proofs.lemmas.Bool.{cases_order, lt-ltb}
use Rattle.std.proofs.lemmas.List.{get_or_default}
use Rattle.std.proofs.lemmas.List.Elements.{All-cons, All-contains, All-contains_itself, All-nil, All-weaker, Contains-append_cases, Contains-append_left, Contains-append_right, Contains-get_or}
use Rattle.std.proofs.lemmas.List.Sorted.{Contains-permutation, IsPermutation-sym}
use Rattle.container.specs.declared.seen.Seen.{Seen}
use Rattle.incremental.specs.Arrivals.{AreDistinct, IsRising, arrived, higher, lower, with_disk}
use Rattle.incremental.proofs.More.{Rises, pairs_head, pairs_tail, with_all, with_rising}

-- WHAT A LIST CONTAINS

first_there : {X : Type 0} (x : X) (xs : List X) → Contains (x ∷ xs) x
first_there x xs = Contains-get_or (x ∷ xs) 0 x (omega arith)

later_there : {X : Type 0} (x : X) (xs : List X) (y : X) → Contains xs y → Contains (x ∷ xs) y
later_there x xs y there = Contains-append_right (x ∷ []) xs y there

one_there : {X : Type 0} (x y : X) → Contains (x ∷ []) y → x ≡ y
one_there x y (zero, within, is) = is
one_there x y (suc k, within, is) = absurd (omega (arith, within))

first_or_later : {X : Type 0} (x : X) (xs : List X) (y : X) → Contains (x ∷ xs) y → (x ≡ y) ⊎ Contains xs y
first_or_later x xs y there = elim (Contains-append_cases (x ∷ []) xs y there) [ inl first ↦ inl (one_there x y first) | inr later ↦ inr later ]

abbrev Passing : {X : Type 0} → (X → Bool) → List X → X → Type 0
Passing p kept x = p x ≡ true → Contains kept x

filter_each : {X : Type 0} (p : X → Bool) (xs : List X) → All (Passing p (filter p xs)) xs
filter_each p [] = All-nil _
filter_each {X} p (y ∷ xs) = by (filter_each p xs) (p y) refl
  where
    by : All (Passing p (filter p xs)) xs → (b : Bool) → p y ≡ b → All (Passing p (cond b (y ∷ filter p xs) (filter p xs))) (y ∷ xs)
    by rest true at =
        All-cons (Passing p (y ∷ filter p xs)) y xs (λ passes. first_there y (filter p xs))
        (All-weaker (Passing p (filter p xs)) (Passing p (y ∷ filter p xs)) (λ x there passes. later_there y (filter p xs) x (there passes)) xs rest)
    by rest false at = All-cons (Passing p (filter p xs)) y xs (λ passes. absurd (cc (at, passes))) rest

filter_there : {X : Type 0} (p : X → Bool) (xs : List X) (x : X) → Contains xs x → p x ≡ true → Contains (filter p xs) x
filter_there p xs x there passes = All-contains (Passing p (filter p xs)) xs x (filter_each p xs) there passes

-- WHAT IS KEPT

with_only : (s : Seen) (seen : List Seen) (t : Seen) → Contains (with_disk s seen) t → Contains seen t ⊎ (s ≡ t)
with_only s seen t there =
    let From : Seen → Type 0 = λ t. Contains seen t ⊎ (s ≡ t) in
    All-contains From (with_disk s seen) t (with_all From s seen (inr refl) (All-weaker _ From (λ t is. inl is) seen (All-contains_itself seen))) there

with_itself : (s : Seen) (seen : List Seen) → Contains (with_disk s seen) s
with_itself s seen = Contains-append_right (lower s.disk seen) (s ∷ higher s.disk seen) s (first_there s (higher s.disk seen))

-- every other one stays
with_other : (s : Seen) (seen : List Seen) (t : Seen) → (t.disk.0 < s.disk.0) ⊎ (s.disk.0 < t.disk.0) → Contains seen t → Contains (with_disk s seen) t
with_other s seen t (inl low) there =
    Contains-append_left (lower s.disk seen) (s ∷ higher s.disk seen) t (filter_there (λ (u : Seen). ltb u.disk.0 s.disk.0) seen t there (lt-ltb t.disk.0 s.disk.0 low))
with_other s seen t (inr up) there =
    Contains-append_right (lower s.disk seen) (s ∷ higher s.disk seen) t
    (later_there s (higher s.disk seen) t (filter_there (λ (u : Seen). ltb s.disk.0 u.disk.0) seen t there (lt-ltb s.disk.0 t.disk.0 up)))

pub arrived_rising : (xs : List Seen) → IsRising (arrived xs)
arrived_rising [] = λ i j d lt within. absurd (omega arith)
arrived_rising (s ∷ before) = with_rising s (arrived before) (arrived_rising before)

arrived_only : (xs : List Seen) (t : Seen) → Contains (arrived xs) t → Contains xs t
arrived_only [] t there = there
arrived_only (s ∷ before) t there =
    elim (with_only s (arrived before) t there) [
      | inl earlier ↦ later_there s before t (arrived_only before t earlier)
      | inr same ↦ subst (λ u. Contains (s ∷ before) u) same (first_there s before)
    ]

-- no number was seen in two ways
abbrev AreOnce : List Seen → Type 0
AreOnce xs = (a b : Seen) → Contains xs a → Contains xs b → a.disk.0 ≡ b.disk.0 → a ≡ b

arrived_each : (xs : List Seen) → AreOnce xs → (t : Seen) → Contains xs t → Contains (arrived xs) t
arrived_each [] once t there = there
arrived_each (s ∷ before) once t there =
    let itself : s ≡ t → Contains (arrived (s ∷ before)) t = λ same. subst (λ u. Contains (arrived (s ∷ before)) u) same (with_itself s (arrived before)) in
    let more : Contains before t → Contains (arrived before) t = λ later. arrived_each before (λ a b is also. once a b (later_there s before a is) (later_there s before b also)) t later in
    elim (first_or_later s before t there) [
      | inl same ↦ itself same
      | inr later ↦
          elim (cases_order t.disk.0 s.disk.0) [
            | inl same ↦ itself (once s t (first_there s before) there (sym same))
            | inr apart ↦ with_other s (arrived before) t apart (more later)
          ]
    ]

once_of : (xs : List Seen) → AreDistinct xs → AreOnce xs
once_of xs distinct a b (k, inside, at) (j, within, on) same =
    let number : Seen → ℕ = λ (s : Seen). s.disk.0 in
    let other : get_or xs j a ≡ b = get_or_default xs j a b within ∙ on in
    elim (cases_order k j) [
      | inl here ↦ sym at ∙ ap (λ i. get_or xs i a) here ∙ other
      | inr (inl low) ↦ absurd (distinct k j a low within (ap (λ (n : ℕ). record { 0 = n }) (ap number at ∙ same ∙ sym (ap number other))))
      | inr (inr up) ↦ absurd (distinct j k a up inside (ap (λ (n : ℕ). record { 0 = n }) (ap number other ∙ sym same ∙ sym (ap number at))))
    ]

pub arrived_all : (xs : List Seen) (s : Seen) → AreDistinct xs → (Contains (arrived xs) s → Contains xs s) × (Contains xs s → Contains (arrived xs) s)
arrived_all xs s distinct = (arrived_only xs s, arrived_each xs (once_of xs distinct) s)

-- THE SAME DISKS IN THE SAME ORDER

rising_least : (x : Seen) (xs : List Seen) → IsRising (x ∷ xs) → (t : Seen) → Contains (x ∷ xs) t → (x ≡ t) ⊎ ((x.disk.0 < t.disk.0) × Contains xs t)
rising_least x xs rising t there =
    elim (first_or_later x xs t there) [
      | inl same ↦ inl same
      | inr later ↦ inr (All-contains (Rises x) xs t (pairs_head Rises x xs rising) later, later)
    ]

rising_first : (x : Seen) (xs : List Seen) (y : Seen) (ys : List Seen) → IsRising (x ∷ xs) → IsRising (y ∷ ys) → Contains (x ∷ xs) y → Contains (y ∷ ys) x → x ≡ y
rising_first x xs y ys rising other there back =
    elim (rising_least x xs rising y there) [
      | inl same ↦ same
      | inr (up, _) ↦ elim (rising_least y ys other x back) [ inl same ↦ sym same | inr (down, _) ↦ absurd (omega (arith, up, down)) ]
    ]

rising_rest : (x : Seen) (xs : List Seen) (y : Seen) (ys : List Seen) → IsRising (x ∷ xs) → IsRising (y ∷ ys) → y ≡ x → ((t : Seen) → Contains (x ∷ xs) t → Contains (y ∷ ys) t) → (t : Seen) → Contains xs t → Contains ys t
rising_rest x xs y ys rising other first goes t there =
    let up : x.disk.0 < t.disk.0 = All-contains (Rises x) xs t (pairs_head Rises x xs rising) there in
    elim (rising_least y ys other t (goes t (later_there x xs t there))) [
      | inl same ↦ let none : x.disk.0 ≡ t.disk.0 = ap (λ (s : Seen). s.disk.0) (sym first ∙ same) in absurd (omega (arith, up, none))
      | inr (_, later) ↦ later
    ]

rising_same : (xs ys : List Seen) → IsRising xs → IsRising ys → ((t : Seen) → Contains xs t → Contains ys t) → ((t : Seen) → Contains ys t → Contains xs t) → xs ≡ ys
rising_same [] [] rising other goes back = refl
rising_same [] (y ∷ ys) rising other goes back = let (k, within, is) = back y (first_there y ys) in absurd (omega (arith, within))
rising_same (x ∷ xs) [] rising other goes back = let (k, within, is) = goes x (first_there x xs) in absurd (omega (arith, within))
rising_same (x ∷ xs) (y ∷ ys) rising other goes back =
    let first = rising_first x xs y ys rising other (back y (first_there y ys)) (goes x (first_there x xs)) in
    let rest = rising_same xs ys (pairs_tail Rises x xs rising) (pairs_tail Rises y ys other) (rising_rest x xs y ys rising other (sym first) goes) (rising_rest y ys x xs other rising first back) in
    ap (λ s. s ∷ xs) first ∙ ap (λ l. y ∷ l) rest

pub arrived_same : (xs ys : List Seen) → AreDistinct xs → IsPermutation xs ys → arrived xs ≡ arrived ys
arrived_same xs ys distinct moved =
    let once = once_of xs distinct in
    let goes : (t : Seen) → Contains xs t → Contains ys t = λ t there. Contains-permutation xs ys t moved there in
    let back : (t : Seen) → Contains ys t → Contains xs t = λ t there. Contains-permutation ys xs t (IsPermutation-sym xs ys moved) there in
    rising_same (arrived xs) (arrived ys) (arrived_rising xs) (arrived_rising ys)
    (λ t there. arrived_each ys (λ a b is also. once a b (back a is) (back b also)) t (goes t (arrived_only xs t there)))
    (λ t there. arrived_each xs once t (back t (arrived_only ys t there)))
