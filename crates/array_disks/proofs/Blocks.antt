-- The writes of a block: its extended sectors, then its anchor.
use Rattle.std.proofs.Common.{◌≡◌, ℕ, ◌+◌, ◌-◌, ◌<◌, ◌≤◌, nat_lt, Bool, true, List, [], ◌∷◌, ◌++◌, length, refl, ap, sym, ◌∙◌, subst, arith, ◌⊎◌, inl, inr}
use Rattle.std.proofs.lemmas.Bool.Decides.{nat_tests}
use Rattle.units.specs.declared.disk.Sector.{Sector}
use Rattle.units.specs.declared.bounds.TheConstants.{METADATA_SECTORS}
use Rattle.units.specs.Places.{anchor_place}
use Rattle.device_log.specs.Cells.{Cell, brought}
use Rattle.array_model.specs.Blocks.{Laid, Words}
use Rattle.array_model.specs.Start.{Disks}
use Rattle.array_model.specs.Candidates.{Disk, In, NoPart, ExtendedPart, part_of, standing_from}
use Rattle.array_disks.specs.Calls.{behind, FitsEnd, extended_write, anchor_write}
use Rattle.array_disks.specs.Held.{IsPending, IsReady, IsStanding}
use Rattle.array_disks.specs.Brought.{as_list, brought_by, completed}
use Rattle.array_disks.proofs.Parts.{part_of_none, part_of_extended, part_of_anchor, block_completed, block_missing}
use Rattle.array_disks.proofs.Places.{standing_alike, written_stands, extended_stays, anchor_brings, anchor_leaves}
use Rattle.array_disks.proofs.Brought.{pend_behind, pend_behind_call, known_behind_call}
use Rattle.array_disks.proofs.Rows.{standing_is, write_candidates, write_best}

-- what the write of some sectors right before the anchor's place is: nothing, if there are none, or an extended part
abbrev IsExtended : ℕ → List Sector → Type 0
IsExtended n xs =
    ((part_of n (anchor_place n - length xs) xs ≡ NoPart) × (xs ≡ []))
    ⊎ (part_of n (anchor_place n - length xs) xs ≡ ExtendedPart xs)

extended_part : (n : ℕ) (xs : List Sector) → METADATA_SECTORS ≤ n → length xs + 2 ≤ METADATA_SECTORS
    → IsExtended n xs
extended_part n [] room few = inl (part_of_none n (anchor_place n - 0), refl)
extended_part n (x ∷ xs) room few = inr (part_of_extended n x xs room few)

module _ (W : Words) (n : ℕ) (m : Laid) (room : METADATA_SECTORS ≤ n) (fits : FitsEnd W m) where
  -- the write of its extended sectors completes no block
  pub extended_completes : (pend : List Sector) (stored : ℕ) → brought_by W n pend (extended_write n m stored) ≡ []
  extended_completes pend stored = elim (extended_part n m.extended room fits.few) [
    | inl none ↦ ap (completed W pend) none.0
    | inr some ↦ ap (completed W pend) some
  ]

  -- that of its anchor, behind them, completes the block
  pub anchor_completes : (k : Disk) (stored : ℕ) → IsPending k m
      → brought_by W n k.pend (anchor_write n m stored) ≡ m ∷ []
  anchor_completes k stored pending =
      ap (completed W k.pend) (part_of_anchor n m.anchor room) ∙ ap as_list (block_completed W k m fits pending)

-- that of an anchor alone, where its block has extended sectors and none wait for it, completes none
pub anchor_completes_none : (W : Words) (n : ℕ) (m : Laid) (stored : ℕ) → METADATA_SECTORS ≤ n → FitsEnd W m
    → (m.extended ≡ [] → ⊥) → brought_by W n [] (anchor_write n m stored) ≡ []
anchor_completes_none W n m stored room fits some =
    ap (completed W []) (part_of_anchor n m.anchor room) ∙ ap as_list (block_missing W m fits some)

module _ (W : Words) (disks : Disks) (d : ℕ) (m : Laid) (room : METADATA_SECTORS ≤ disks.sectors d)
    (fits : FitsEnd W m) (k : Disk) (stored : ℕ) (went : Bool) where
  abbrev n : ℕ
  n = disks.sectors d

  abbrev pub with_extended : Disk
  with_extended = behind W disks d k (extended_write (disks.sectors d) m stored) went

  abbrev pub with_anchor : Disk
  with_anchor = behind W disks d k (anchor_write (disks.sectors d) m stored) went

  -- EXTENDED SECTORS

  -- what is known stays
  pub extended_known : with_extended.known ≡ k.known
  extended_known =
      known_behind_call W disks d k (extended_write n m stored) went
      ∙ ap (λ new. new ++ k.known) (extended_completes W n m room fits k.pend stored)

  -- and so do the candidates
  pub extended_candidates : with_extended.candidates ≡ k.candidates
  extended_candidates =
      write_candidates W disks d k (anchor_place n - length m.extended) m.extended stored went
      ∙ ap (λ new. new ++ k.candidates) (extended_completes W n m room fits k.pend stored)

  -- and the best generation
  pub extended_best : with_extended.best ≡ k.best
  extended_best = write_best W disks d k (anchor_place n - length m.extended) m.extended stored went

  -- they are now those that wait for their anchor, whether the write went through or not
  pub extended_pending : IsPending with_extended m
  extended_pending = elim (extended_part n m.extended room fits.few) [
    | inl none ↦ inl none.1
    | inr some ↦ inr (pend_behind_call W disks d k (extended_write n m stored) went ∙ ap (pend_behind k.pend) some)
  ]

  -- and where all of them were stored they stand
  pub extended_ready : length m.extended ≤ stored → IsReady n with_extended m
  extended_ready all = record {
    pending = extended_pending;
    stands = written_stands k.cells (anchor_place n - length m.extended) m.extended stored all;
  }

  -- the anchor that stands stays
  pub extended_anchor : (with_extended.cells (anchor_place n)).stood ≡ (k.cells (anchor_place n)).stood
  extended_anchor = ap (λ (c : Cell). c.stood) (extended_stays W n (k.cells (anchor_place n)) m stored went room fits)

  -- ANCHORS

  -- whether the write went through or not, the block is the first of those known
  pub anchor_known : IsPending k m → with_anchor.known ≡ m ∷ k.known
  anchor_known pending =
      known_behind_call W disks d k (anchor_write n m stored) went
      ∙ ap (λ new. new ++ k.known) (anchor_completes W n m room fits k stored pending)

  -- and the first of the candidates
  pub anchor_candidates : IsPending k m → with_anchor.candidates ≡ m ∷ k.candidates
  anchor_candidates pending =
      write_candidates W disks d k (anchor_place n) (m.anchor ∷ []) stored went
      ∙ ap (λ new. new ++ k.candidates) (anchor_completes W n m room fits k stored pending)

  -- the best generation stays until a sync
  pub anchor_best : with_anchor.best ≡ k.best
  anchor_best = write_best W disks d k (anchor_place n) (m.anchor ∷ []) stored went

  -- what the write brings to the place of the anchor, stored or not
  pub anchor_cell : with_anchor.cells (anchor_place n)
      ≡ brought (k.cells (anchor_place n)) m.anchor (nat_lt 0 stored)
  anchor_cell = anchor_brings n (k.cells (anchor_place n)) m stored went

  -- where it was stored behind its extended sectors the block stands
  pub anchor_stands : 1 ≤ stored → IsReady n k m → IsStanding W n with_anchor m
  anchor_stands some ready = record {
    stands = standing_is W n with_anchor.cells m fits here before;
    known = subst (In m) (sym (anchor_known ready.pending)) (inl refl);
  }
    where
      here : (with_anchor.cells (anchor_place n)).stood ≡ m.anchor
      here =
          let is : nat_lt 0 stored ≡ true = grind (arith, nat_tests, some) in
          ap (λ (c : Cell). c.stood) anchor_cell
          ∙ ap (λ b. (brought (k.cells (anchor_place n)) m.anchor b).stood) is

      left : (p : ℕ) → p < anchor_place n → (with_anchor.cells p).stood ≡ (k.cells p).stood
      left p lt = ap (λ (c : Cell). c.stood) (anchor_leaves n (k.cells p) m stored went p lt)

      before : standing_from with_anchor.cells (anchor_place n - length m.extended) (length m.extended) ≡ m.extended
      before =
          let count = length m.extended in
          standing_alike with_anchor.cells k.cells (anchor_place n - count) count
          (λ p from to. left p (omega (arith, to, room, fits.few)))
          ∙ ready.stands
