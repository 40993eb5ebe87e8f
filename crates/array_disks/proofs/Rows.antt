-- A call at rows: what it leaves of a disk's metadata.
use Rattle.std.proofs.Common.{◌≡◌, ℕ, ◌+◌, ◌-◌, ◌≤◌, Bool, true, false, List, [], ◌++◌, length, refl, ap, sym, ◌∙◌, subst, arith, inl, inr}
use Rattle.units.specs.declared.disk.Sector.{Sector}
use Rattle.units.specs.declared.bounds.TheConstants.{METADATA_SECTORS}
use Rattle.units.specs.Places.{anchor_place}
use Rattle.device_log.specs.Log.{What, Write}
use Rattle.device_log.specs.Cells.{Cell}
use Rattle.array_model.specs.Blocks.{Laid, Words}
use Rattle.array_model.specs.Start.{Disks}
use Rattle.array_model.specs.Candidates.{Disk, In, standing, standing_from}
use Rattle.array_disks.specs.Held.{IsPending, IsReady, IsStanding}
use Rattle.array_disks.specs.Calls.{behind, RowCall, row_read, row_write, row_sync, IsSettled, FitsEnd}
use Rattle.array_disks.specs.Brought.{brought_by, completed}
use Rattle.array_disks.specs.Changes.{SameBlocks}
use Rattle.array_disks.proofs.Parts.{part_of_row}
use Rattle.array_disks.proofs.Places.{standing_alike, row_stands}
use Rattle.array_disks.proofs.Brought.{pend_by, pend_behind, pend_behind_call, known_behind_call, written_candidates, written_best}

-- ANY CALL

module _ (W : Words) (n : ℕ) (cells : ℕ → Cell) (m : Laid) where
  -- a block stands at the end of a disk where its anchor and its extended sectors stand
  pub standing_is : FitsEnd W m → (cells (anchor_place n)).stood ≡ m.anchor
      → standing_from cells (anchor_place n - length m.extended) (length m.extended) ≡ m.extended
      → standing W n cells ≡ m
  standing_is fits here before =
      let by : ℕ → List Sector = λ count. standing_from cells (anchor_place n - count) count in
      ap (λ (s : Sector). record { anchor = s; extended = by (W.extra s) }) here
      ∙ ap (λ (count : ℕ). record { anchor = m.anchor; extended = by count }) fits.extra
      ∙ ap (λ (xs : List Sector). record { anchor = m.anchor; extended = xs }) before

  -- and there its anchor stands
  pub standing_anchor : standing W n cells ≡ m → (cells (anchor_place n)).stood ≡ m.anchor
  standing_anchor is = ap (λ (x : Laid). x.anchor) is

  -- and its extended sectors before it
  pub standing_extended : FitsEnd W m → standing W n cells ≡ m
      → standing_from cells (anchor_place n - length m.extended) (length m.extended) ≡ m.extended
  standing_extended fits is =
      let count : W.extra (cells (anchor_place n)).stood ≡ length m.extended =
      ap (λ (x : Laid). W.extra x.anchor) is ∙ fits.extra in
      subst (λ k. standing_from cells (anchor_place n - k) k ≡ m.extended) count (ap (λ (x : Laid). x.extended) is)

module _ (W : Words) (disks : Disks) (d : ℕ) where
  -- any write puts the block that it completes, if any, in front of the candidates, and leaves the best generation
  pub write_candidates : (k : Disk) (place : ℕ) (sectors : List Sector) (stored : ℕ) (went : Bool)
      → (behind W disks d k (Write place sectors stored) went).candidates
      ≡ brought_by W (disks.sectors d) k.pend (Write place sectors stored) ++ k.candidates
  write_candidates k place sectors stored went = written_candidates W k _

  -- the best generation stays
  pub write_best : (k : Disk) (place : ℕ) (sectors : List Sector) (stored : ℕ) (went : Bool)
      → (behind W disks d k (Write place sectors stored) went).best ≡ k.best
  write_best k place sectors stored went = written_best W k _

-- CALLS AT ROWS

-- the extended sectors that wait for their anchor go on to, and no block comes
row_pends : (n : ℕ) (pend : List Sector) (what : What) → RowCall n what → pend_by n pend what ≡ pend
row_pends n pend _ (row_read place) = refl
row_pends n pend _ (row_write place sectors stored before) =
    ap (pend_behind pend) (part_of_row n place sectors before)
row_pends n pend _ row_sync = refl

-- a call at rows completes no block
pub row_brings : (W : Words) (n : ℕ) (pend : List Sector) (what : What) → RowCall n what → brought_by W n pend what ≡ []
row_brings W n pend _ (row_read place) = refl
row_brings W n pend _ (row_write place sectors stored before) =
    ap (completed W pend) (part_of_row n place sectors before)
row_brings W n pend _ row_sync = refl

module _ (W : Words) (disks : Disks) (d : ℕ) (k : Disk) (what : What) (went : Bool)
    (row : RowCall (disks.sectors d) what) where
  -- the extended sectors that wait for their anchor stay
  pub row_pend : (behind W disks d k what went).pend ≡ k.pend
  row_pend = pend_behind_call W disks d k what went ∙ row_pends (disks.sectors d) k.pend what row

  -- what is known stays
  pub row_known : (behind W disks d k what went).known ≡ k.known
  row_known =
      known_behind_call W disks d k what went
      ∙ ap (λ new. new ++ k.known) (row_brings W (disks.sectors d) k.pend what row)

  -- one that isn't a sync, or that fails, changes nothing of the disk's blocks
  pub row_same : (IsSettled what went → ⊥) → SameBlocks k (behind W disks d k what went)
  row_same unsettled = record { pend = row_pend; known = row_known; candidates = rest.0; best = rest.1 }
    where
      by : (what : What) (went : Bool) → RowCall (disks.sectors d) what → (IsSettled what went → ⊥)
          → ((behind W disks d k what went).candidates ≡ k.candidates) × ((behind W disks d k what went).best ≡ k.best)
      by _ went (row_read place) unsettled = (refl, refl)
      by _ went (row_write place sectors stored before) unsettled =
          let write : RowCall (disks.sectors d) (Write place sectors stored) = row_write place sectors stored before in
          let none = row_brings W (disks.sectors d) k.pend (Write place sectors stored) write in (
            write_candidates W disks d k place sectors stored went ∙ ap (λ new. new ++ k.candidates) none,
            write_best W disks d k place sectors stored went,
          )
      by _ false row_sync unsettled = (refl, refl)
      by _ true row_sync unsettled = absurd (unsettled tt)

      rest : ((behind W disks d k what went).candidates ≡ k.candidates) × ((behind W disks d k what went).best ≡ k.best)
      rest = by what went row unsettled

  -- what stands in the sectors that are kept for metadata goes on to
  pub row_anchor : ((behind W disks d k what went).cells (anchor_place (disks.sectors d))).stood
      ≡ (k.cells (anchor_place (disks.sectors d))).stood
  row_anchor =
      let place = anchor_place (disks.sectors d) in
      row_stands (disks.sectors d) (k.cells place) what went row place (omega arith)

  row_standing_from : (count : ℕ) → METADATA_SECTORS ≤ disks.sectors d → count + 2 ≤ METADATA_SECTORS
      → standing_from (behind W disks d k what went).cells (anchor_place (disks.sectors d) - count) count
      ≡ standing_from k.cells (anchor_place (disks.sectors d) - count) count
  row_standing_from count room few =
      standing_alike (behind W disks d k what went).cells k.cells (anchor_place (disks.sectors d) - count) count
      (λ p from to. row_stands (disks.sectors d) (k.cells p) what went row p (omega (arith, from, room, few)))

  -- so does what the next call of a block's write waits for
  pub row_pending : (m : Laid) → IsPending k m → IsPending (behind W disks d k what went) m
  row_pending m (inl none) = inl none
  row_pending m (inr pend) = inr (row_pend ∙ pend)

  module _ (m : Laid) (room : METADATA_SECTORS ≤ disks.sectors d) (fits : FitsEnd W m) where
    pub row_ready : IsReady (disks.sectors d) k m → IsReady (disks.sectors d) (behind W disks d k what went) m
    row_ready ready = record {
      pending = row_pending m ready.pending;
      stands = row_standing_from (length m.extended) room fits.few ∙ ready.stands;
    }

    -- a block that stands at the end goes on to
    pub row_standing : IsStanding W (disks.sectors d) k m
        → IsStanding W (disks.sectors d) (behind W disks d k what went) m
    row_standing there = record {
      stands = standing_is W (disks.sectors d) (behind W disks d k what went).cells m fits
          (row_anchor ∙ standing_anchor W (disks.sectors d) k.cells m there.stands)
          (row_standing_from (length m.extended) room fits.few
          ∙ standing_extended W (disks.sectors d) k.cells m fits there.stands);
      known = subst (In m) (sym row_known) there.known;
    }
