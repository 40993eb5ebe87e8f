-- Blocks of a list, by membership and by test.
use Rattle.std.proofs.Common.{◌≡◌, ℕ, ◌≤◌, true, List, [], ◌∷◌, ◌++◌, length, refl, ap, ◌∙◌, subst, arith, ◌⊎◌, inl, inr}
use Rattle.std.specs.List.{AllByRecursion}
use Rattle.std.proofs.lemmas.Bool.{and_parts, and_from, or_cases, or_left, or_right}
use Rattle.std.proofs.lemmas.Slice.Eq.{bytes_eq-Decides}
use Rattle.units.specs.declared.disk.Sector.{Sector}
use Rattle.array_model.specs.Blocks.{Laid, sector_eq, sectors_eq, laid_eq}
use Rattle.array_model.specs.Candidates.{Disk, In, is_among, Durable}
use Rattle.array_model.proofs.Written.{in_all}
use Rattle.array_disks.specs.Held.{HasCandidate}

-- EQUAL BLOCKS

sector_is : (a b : Sector) → sector_eq a b ≡ true → a ≡ b
sector_is a b h = ap (λ (x : List ℕ). record { 0 = x }) ((bytes_eq-Decides a.0 b.0).0 h)

sector_self : (a : Sector) → sector_eq a a ≡ true
sector_self a = (bytes_eq-Decides a.0 a.0).1 refl

sectors_is : (xs ys : List Sector) → sectors_eq xs ys ≡ true → xs ≡ ys
sectors_is [] [] h = refl
sectors_is [] (y ∷ ys) h = absurd cc
sectors_is (x ∷ xs) [] h = absurd cc
sectors_is (x ∷ xs) (y ∷ ys) h =
    let both = and_parts (sector_eq x y) (sectors_eq xs ys) h in
    let first : x ≡ y = sector_is x y both.0 in
    let rest : xs ≡ ys = sectors_is xs ys both.1 in
    cc (first, rest)

sectors_self : (xs : List Sector) → sectors_eq xs xs ≡ true
sectors_self [] = refl
sectors_self (x ∷ xs) = and_from (sector_eq x x) (sectors_eq xs xs) (sector_self x) (sectors_self xs)

-- two blocks with one anchor and the same extended sectors
pub laid_same : (a b : Laid) → a.anchor ≡ b.anchor → a.extended ≡ b.extended → a ≡ b
laid_same a b anchors extended =
    ap (λ (x : Sector). record { anchor = x; extended = a.extended }) anchors
    ∙ ap (λ (xs : List Sector). record { anchor = b.anchor; extended = xs }) extended

-- blocks that the test calls equal are one
pub laid_is : (a b : Laid) → laid_eq a b ≡ true → a ≡ b
laid_is a b h =
    let both = and_parts (sector_eq a.anchor b.anchor) (sectors_eq a.extended b.extended) h in
    laid_same a b (sector_is a.anchor b.anchor both.0) (sectors_is a.extended b.extended both.1)

-- and it calls a block equal to itself
pub laid_self : (a : Laid) → laid_eq a a ≡ true
laid_self a = and_from _ _ (sector_self a.anchor) (sectors_self a.extended)

-- IN A LIST

-- what the test finds is in the list
pub in_from_test : (a : Laid) (bs : List Laid) → is_among a bs ≡ true → In a bs
in_from_test a [] h = absurd cc
in_from_test a (b ∷ bs) h = elim (or_cases (laid_eq a b) (is_among a bs) h) [
  | inl here ↦ inl (laid_is a b here)
  | inr more ↦ inr (in_from_test a bs more)
]

-- and the test finds what is
pub test_from_in : (a : Laid) (bs : List Laid) → In a bs → is_among a bs ≡ true
test_from_in a [] i = absurd i
test_from_in a (b ∷ bs) (inl here) =
    or_left (laid_eq a b) (is_among a bs) (subst (λ (x : Laid). laid_eq a x ≡ true) here (laid_self a))
test_from_in a (b ∷ bs) (inr more) = or_right (laid_eq a b) (is_among a bs) (test_from_in a bs more)

-- what is in two lists in a row is in one of them
pub in-append : (a : Laid) (xs ys : List Laid) → In a (xs ++ ys) → In a xs ⊎ In a ys
in-append a [] ys i = inr i
in-append a (x ∷ xs) ys (inl here) = inl (inl here)
in-append a (x ∷ xs) ys (inr more) = elim (in-append a xs ys more) [
  | inl front ↦ inl (inr front)
  | inr back ↦ inr back
]

-- what is in the first is in both
pub in_front : (a : Laid) (xs ys : List Laid) → In a xs → In a (xs ++ ys)
in_front a [] ys i = absurd i
in_front a (x ∷ xs) ys (inl here) = inl here
in_front a (x ∷ xs) ys (inr more) = inr (in_front a xs ys more)

-- and so is what is in the second
pub in_back : (a : Laid) (xs ys : List Laid) → In a ys → In a (xs ++ ys)
in_back a [] ys i = i
in_back a (x ∷ xs) ys i = inr (in_back a xs ys i)

-- what holds of each block in a list
pub all_in : (P : Laid → Type 0) (bs : List Laid) → ((a : Laid) → In a bs → P a) → AllByRecursion P bs
all_in P [] each = tt
all_in P (b ∷ bs) each = (each b (inl refl), all_in P bs (λ a i. each a (inr i)))

-- DURABLE FACTS

some_in : (bs : List Laid) → 1 ≤ length bs → (a : Laid) × In a bs
some_in [] le = absurd (omega (arith, le))
some_in (b ∷ bs) le = (b, inl refl)

some_length : (bs : List Laid) (a : Laid) → In a bs → 1 ≤ length bs
some_length [] a i = absurd i
some_length (b ∷ bs) a i = omega arith

-- a fact is durable where the disk has a candidate and each says it
pub durable : (P : Laid → Type 0) (k : Disk) → HasCandidate k → ((a : Laid) → In a k.candidates → P a) → Durable P k
durable P k some each = record {
  some = some_length k.candidates some.0 some.1;
  each = all_in P k.candidates each;
}

-- where one is durable there is a candidate
pub durable_some : (P : Laid → Type 0) (k : Disk) → Durable P k → HasCandidate k
durable_some P k h = some_in k.candidates h.some

-- and each candidate says it
pub durable_each : (P : Laid → Type 0) (k : Disk) → Durable P k → (a : Laid) → In a k.candidates → P a
durable_each P k h a i = in_all P a k.candidates i h.each
