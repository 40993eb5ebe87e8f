-- What stands at the end of a disk, by its places.
use Rattle.std.proofs.Common.{◌≡◌, ℕ, suc, ◌+◌, ◌-◌, ◌≤◌, ◌<◌, nat_le, Bool, true, false, cond, List, [], ◌∷◌, ◌++◌, length, get_or, Option, Some, None, refl, sym, ◌∙◌, ap, inl, inr, arith}
use Rattle.std.specs.List.{list_all}
use Rattle.std.proofs.lemmas.Bool.{eqb-true, le-leb, cases_lt}
use Rattle.std.proofs.lemmas.List.{get_or_append_left, get_or_push, get_or_past, length-append}
use Rattle.units.specs.declared.disk.Sector.{Sector}
use Rattle.units.specs.Places.{anchor_place}
use Rattle.device_log.specs.Cells.{resting}
use Rattle.array_model.specs.Blocks.{Laid, Words}
use Rattle.array_model.specs.Candidates.{standing, standing_from}
use Rattle.array_model.specs.Script.{sector_of}
use Rattle.array_disks.specs.Calls.{FitsEnd}
use Rattle.array_disks.proofs.Rows.{standing_is}
use Rattle.array_edits.specs.Formed.{is_full}
use Rattle.array_edits.proofs.Supports.{all_each}
use Rattle.array_openings.specs.Banks.{place_of_block, place_with}

-- A BLOCK STANDS

abbrev with_anchor : Laid → List Sector
with_anchor m = m.extended ++ m.anchor ∷ []

-- a place from the first sector of the block on
place_at : (m : Laid) (n i : ℕ) → place_of_block m n ((anchor_place n - length m.extended) + i)
    ≡ get_or (with_anchor m) i (sector_of 0)
place_at m n i =
    let first : ℕ = anchor_place n - length m.extended in
    let back : (first + i) - first ≡ i = omega arith in
    let inside : nat_le first (first + i) ≡ true = le-leb first (first + i) (omega arith) in
    ap (λ (t : Bool). cond t (get_or (with_anchor m) ((first + i) - first) (sector_of 0)) (sector_of 0)) inside
    ∙ ap (λ (j : ℕ). get_or (with_anchor m) j (sector_of 0)) back

from_places : (f : ℕ → Sector) (xs : List Sector) (place : ℕ)
    → ((i : ℕ) → i < length xs → f (place + i) ≡ get_or xs i (sector_of 0))
    → standing_from (λ p. resting (f p)) place (length xs) ≡ xs
from_places f [] place each = refl
from_places f (x ∷ xs) place each =
    let here : f place ≡ x = ap f (omega arith) ∙ each 0 (omega arith) in
    let more : standing_from (λ p. resting (f p)) (place + 1) (length xs) ≡ xs =
    from_places f xs (place + 1) (λ i below.
    let step : (place + 1) + i ≡ place + suc i = omega arith in
    ap f step ∙ each (suc i) (omega arith)) in
    ap (λ (s : Sector). s ∷ standing_from (λ p. resting (f p)) (place + 1) (length xs)) here
    ∙ ap (λ (ss : List Sector). x ∷ ss) more

pub block_stands : (W : Words) (m : Laid) (n : ℕ) → FitsEnd W m → 18 ≤ n
    → standing W n (λ p. resting (place_of_block m n p)) ≡ m
block_stands W m n fits room =
    let few = fits.few in
    let first : ℕ = anchor_place n - length m.extended in
    let last : first + length m.extended ≡ anchor_place n = omega (arith, few, room) in
    standing_is W n (λ p. resting (place_of_block m n p)) m fits
    (ap (place_of_block m n) (sym last) ∙ place_at m n (length m.extended)
    ∙ get_or_push m.extended m.anchor (sector_of 0) (length m.extended) refl)
    (from_places (place_of_block m n) m.extended first (λ i below.
    place_at m n i ∙ get_or_append_left m.extended (m.anchor ∷ []) (sector_of 0) i below))

-- FULL SECTORS

-- all sectors of a block, as tests
pub record IsFullBlock (m : Laid) : Type 0 where
  pub anchor : is_full m.anchor ≡ true
  pub extended : list_all is_full m.extended ≡ true

full_in : (m : Laid) → IsFullBlock m → (i : ℕ) → length (get_or (with_anchor m) i (sector_of 0)).0 ≡ 512
full_in m full i = elim (cases_lt i (length m.extended)) [
  | inl inside ↦
      ap (λ (s : Sector). length s.0) (get_or_append_left m.extended (m.anchor ∷ []) (sector_of 0) i inside)
      ∙ eqb-true (length (get_or m.extended i (sector_of 0)).0) 512
      (all_each is_full m.extended i (sector_of 0) full.extended inside)
  | inr behind ↦ elim (cases_lt i (length m.extended + 1)) [
    | inl last ↦
        ap (λ (s : Sector). length s.0) (get_or_push m.extended m.anchor (sector_of 0) i (omega arith))
        ∙ eqb-true (length m.anchor.0) 512 full.anchor
    | inr past ↦
        ap (λ (s : Sector). length s.0) (get_or_past (with_anchor m) i (sector_of 0)
        (omega (arith, length-append m.extended (m.anchor ∷ []), past)))
  ]
]

pub place_full : (m : Laid) (n p : ℕ) → IsFullBlock m → length (place_of_block m n p).0 ≡ 512
place_full m n p full = at (nat_le (anchor_place n - length m.extended) p)
  where
    at : (t : Bool)
        → length (cond t (get_or (with_anchor m) (p - (anchor_place n - length m.extended)) (sector_of 0))
        (sector_of 0)).0
        ≡ 512
    at true = full_in m full (p - (anchor_place n - length m.extended))
    at false = refl

pub with_full : (o : Option Laid) (n p : ℕ) → ((m : Laid) → o ≡ Some m → IsFullBlock m)
    → length (place_with o n p).0 ≡ 512
with_full None n p full = refl
with_full (Some m) n p full = place_full m n p (full m refl)
