-- What a write is to the metadata of a disk, for each kind of write that a run makes.
use Rattle.std.proofs.Common.{◌≡◌, ℕ, suc, ◌+◌, ◌-◌, ◌≤◌, ◌==◌, nat_le, Bool, true, false, cond, List, [], ◌∷◌, length, refl, ap, sym, ◌∙◌, arith, Some, None, inl, inr}
use Rattle.std.proofs.lemmas.Bool.Decides.{nat_tests}
use Rattle.units.specs.declared.disk.Sector.{Sector}
use Rattle.units.specs.declared.bounds.TheConstants.{METADATA_SECTORS}
use Rattle.units.specs.Places.{anchor_place}
use Rattle.array_model.specs.Blocks.{Laid, Words, block_of}
use Rattle.array_model.specs.Candidates.{Disk, NoPart, ExtendedPart, AnchorPart, part_of}
use Rattle.array_disks.specs.Calls.{IsBeforeMetadata, FitsEnd}
use Rattle.array_disks.specs.Held.{IsPending}

-- a write before the metadata is none of it
pub part_of_row : (n place : ℕ) (sectors : List Sector) → IsBeforeMetadata n place (length sectors)
    → part_of n place sectors ≡ NoPart
part_of_row n place sectors before =
    let inside : nat_le (place + length sectors) (n - METADATA_SECTORS) ≡ true = grind (arith, nat_tests, before) in
    rw inside refl

-- nor is a write of no sector
pub part_of_none : (n place : ℕ) → part_of n place [] ≡ NoPart
part_of_none n place = at (nat_le (place + 0) (n - METADATA_SECTORS))
  where
    at : (b : Bool) → cond b NoPart NoPart ≡ NoPart
    at true = refl
    at false = refl

-- one of a sector at the place of the anchor is an anchor
pub part_of_anchor : (n : ℕ) (s : Sector) → METADATA_SECTORS ≤ n → part_of n (anchor_place n) (s ∷ []) ≡ AnchorPart s
part_of_anchor n s room =
    let behind : nat_le (n - 2 + 1) (n - METADATA_SECTORS) ≡ false = grind (arith, nat_tests, room) in
    let here : (n - 2 == n - 2) ≡ true = grind (arith, nat_tests) in
    rw (behind, here) refl

-- one that ends right before that place, and begins in the kept sectors, is an extended part
pub part_of_extended : (n : ℕ) (s : Sector) (ss : List Sector) → METADATA_SECTORS ≤ n
    → length (s ∷ ss) + 2 ≤ METADATA_SECTORS
    → part_of n (anchor_place n - length (s ∷ ss)) (s ∷ ss) ≡ ExtendedPart (s ∷ ss)
part_of_extended n s [] room few =
    let behind : nat_le (n - 2 - 1 + 1) (n - METADATA_SECTORS) ≡ false = grind (arith, nat_tests, room) in
    let other : (n - 2 - 1 == n - 2) ≡ false = grind (arith, nat_tests, room) in
    let here : (n - 2 - 1 + 1 == n - 2) ≡ true = grind (arith, nat_tests, room) in
    rw (behind, other, here) refl
part_of_extended n s (t ∷ more) room few = at (length (s ∷ t ∷ more)) refl few
  where
    at : (count : ℕ) → length (s ∷ t ∷ more) ≡ count → count + 2 ≤ METADATA_SECTORS
        → part_of n (anchor_place n - length (s ∷ t ∷ more)) (s ∷ t ∷ more) ≡ ExtendedPart (s ∷ t ∷ more)
    at count is few =
        let before : n - 2 - count + count ≡ n - 2 = omega (arith, room, few) in
        let behind : nat_le (n - 2 - count + count) (n - METADATA_SECTORS) ≡ false =
        grind (arith, nat_tests, room, few) in
        let here : (n - 2 - count + count == n - 2) ≡ true = grind (arith, nat_tests, before) in
        rw (is, behind, here) refl

-- THE BLOCK THAT AN ANCHOR COMPLETES

block_alone : (W : Words) (pend : List Sector) (m : Laid) → W.extra m.anchor ≡ 0 → m.extended ≡ []
    → block_of W pend m.anchor ≡ Some m
block_alone W pend m none short =
    rw none (ap (λ (xs : List Sector). Some (record { anchor = m.anchor; extended = xs })) (sym short))

block_behind : (W : Words) (m : Laid) → W.extra m.anchor ≡ length m.extended → block_of W m.extended m.anchor ≡ Some m
block_behind W m extra = at m.extended refl
  where
    at : (xs : List Sector) → m.extended ≡ xs → block_of W m.extended m.anchor ≡ Some m
    at [] is = block_alone W m.extended m (extra ∙ ap (λ (ys : List Sector). length ys) is) is
    at (x ∷ xs) is =
        let count : length m.extended ≡ suc (length xs) = ap (λ (ys : List Sector). length ys) is in
        let some : (length m.extended == 0) ≡ false = grind (arith, nat_tests, count) in
        let same : (length m.extended == length m.extended) ≡ true = grind (arith, nat_tests) in
        rw (extra, some, same) refl

-- with none of its extended sectors before it an anchor completes no block that has some
pub block_missing : (W : Words) (m : Laid) → FitsEnd W m → (m.extended ≡ [] → ⊥) → block_of W [] m.anchor ≡ None
block_missing W m fits some = at m.extended refl fits.extra
  where
    at : (xs : List Sector) → m.extended ≡ xs → W.extra m.anchor ≡ length xs → block_of W [] m.anchor ≡ None
    at [] is count = absurd (some is)
    at (x ∷ xs) is count =
        let more : (W.extra m.anchor == 0) ≡ false = grind (arith, nat_tests, count) in
        let other : (0 == W.extra m.anchor) ≡ false = grind (arith, nat_tests, count) in
        rw (more, other) refl

-- behind its extended sectors an anchor completes its block
pub block_completed : (W : Words) (k : Disk) (m : Laid) → FitsEnd W m → IsPending k m
    → block_of W k.pend m.anchor ≡ Some m
block_completed W k m fits (inl none) =
    block_alone W k.pend m (fits.extra ∙ ap (λ (xs : List Sector). length xs) none) none
block_completed W k m fits (inr pend) = ap (λ xs. block_of W xs m.anchor) pend ∙ block_behind W m fits.extra
