-- The metadata blocks of a disk after a log: which of them a stop may leave, what is durable, and the mark.
-- Source: this project's own, over the order of writes of super-intel.c (store_imsm_mpb: the extended sectors, then
-- the anchor).
use Rattle.std.specs.Prelude.{◌≡◌, ℕ, zero, suc, ◌+◌, ◌-◌, ◌≤◌, ◌==◌, ◌&&◌, nat_le, max, Bool, true, false, List, [], ◌∷◌, length, Option, Some, None, if◌then◌else◌, ◌⊎◌}
use Rattle.std.specs.List.{AllByRecursion, list_any}
use Rattle.units.specs.declared.disk.Sector.{Sector}
use Rattle.units.specs.declared.bounds.TheConstants.{METADATA_SECTORS}
use Rattle.units.specs.Places.{anchor_place}
use Rattle.device_log.specs.Log.{Call, What, Read, Write, Sync}
use Rattle.device_log.specs.Cells.{Cell, resting, cell_at}
use Rattle.array_model.specs.Blocks.{Laid, Words, laid_eq, block_of, is_container}
use Rattle.array_model.specs.Start.{Disks}

-- A disk after some calls: each place; the extended sectors whose anchor hasn't come; the blocks that stood there at
-- opening or that were written since; of these the candidates, the newest first; and the greatest generation of a
-- container's block that a counted sync found.
pub record Disk : Type 0 where
  pub cells : ℕ → Cell
  pub pend : List Sector
  pub known : List Laid
  pub candidates : List Laid
  pub best : ℕ

-- a block is one of these
abbrev pub In : Laid → List Laid → Type 0
In a [] = ⊥
In a (b ∷ bs) = (a ≡ b) ⊎ In a bs

abbrev pub is_among : Laid → List Laid → Bool
is_among a blocks = list_any (laid_eq a) blocks

-- WRITES

-- what a write is to the metadata of a disk: nothing, an extended part, an anchor, or another write into the sectors
-- that are kept for it
pub data Part : Type 0 where
  NoPart : Part
  ExtendedPart : (sectors : List Sector) → Part
  AnchorPart : (sector : Sector) → Part
  OtherPart : Part

abbrev pub part_at_end : ℕ → ℕ → List Sector → Part
part_at_end n place [] = NoPart
part_at_end n place (s ∷ []) =
    if place == anchor_place n then AnchorPart s
    else (if place + 1 == anchor_place n then ExtendedPart (s ∷ []) else OtherPart)
part_at_end n place (s ∷ t ∷ more) =
    if place + length (s ∷ t ∷ more) == anchor_place n then ExtendedPart (s ∷ t ∷ more) else OtherPart

-- on a disk of n sectors
abbrev pub part_of : ℕ → ℕ → List Sector → Part
part_of n place sectors =
    if nat_le (place + length sectors) (n - METADATA_SECTORS) then NoPart else part_at_end n place sectors

abbrev pub with_block : Disk → Option Laid → Disk
with_block k None = record k { pend = [] }
with_block k (Some m) = record k { pend = []; known = m ∷ k.known; candidates = m ∷ k.candidates }

-- a part is written, gone through or not
abbrev pub written : Words → Disk → Part → Disk
written W k NoPart = k
written W k (ExtendedPart sectors) = record k { pend = sectors }
written W k (AnchorPart s) = with_block k (block_of W k.pend s)
written W k OtherPart = record k { pend = [] }

-- SYNCS

abbrev pub standing_from : (ℕ → Cell) → ℕ → ℕ → List Sector
standing_from cells place zero = []
standing_from cells place (suc k) = (cells place).stood ∷ standing_from cells (place + 1) k

-- the block that stands at the end of a disk of n sectors
abbrev pub standing : Words → ℕ → (ℕ → Cell) → Laid
standing W n cells =
    let anchor = (cells (anchor_place n)).stood in
    record { anchor = anchor; extended = standing_from cells (anchor_place n - W.extra anchor) (W.extra anchor) }

abbrev pub best_with : Bool → ℕ → ℕ → ℕ
best_with false best generation = best
best_with true best generation = max best generation

-- a sync is counted where it finds a whole block that stood there at opening or was written since
abbrev pub counted : Words → Disk → Laid → Bool → Disk
counted W k m false = k
counted W k m true =
    record k { candidates = m ∷ []; best = best_with (is_container W m) k.best (W.generation m.anchor) }

abbrev pub synced : Words → List ℕ → ℕ → Disk → Bool → Disk
synced W serial n k false = k
synced W serial n k true =
    let m = standing W n k.cells in
    counted W k m (W.is_whole serial n m && is_among m k.known)

-- A LOG

abbrev pub noted : Words → List ℕ → ℕ → Disk → What → Bool → Disk
noted W serial n k (Read place) went = k
noted W serial n k (Write place sectors stored) went = written W k (part_of n place sectors)
noted W serial n k Sync went = synced W serial n k went

-- one call on the disk, gone through or not
abbrev pub disk_at : Words → List ℕ → ℕ → Disk → What → Bool → Disk
disk_at W serial n k what went =
    record (noted W serial n k what went) { cells = λ p. cell_at p (k.cells p) what went }

abbrev pub disk_called : Words → Disks → ℕ → Disk → Call → Disk
disk_called W disks d k call =
    if call.disk == d then disk_at W (disks.serial d) (disks.sectors d) k call.what call.went else k

abbrev pub disk_from : Words → Disks → ℕ → Disk → List Call → Disk
disk_from W disks d k [] = k
disk_from W disks d k (call ∷ log) = disk_from W disks d (disk_called W disks d k call) log

-- at opening a whole block that stands there is known and the candidate
abbrev pub opened_with : Words → (ℕ → Cell) → Laid → Bool → Disk
opened_with W cells m false = record { cells = cells; pend = []; known = []; candidates = []; best = 0 }
opened_with W cells m true = record {
  cells = cells;
  pend = [];
  known = m ∷ [];
  candidates = m ∷ [];
  best = best_with (is_container W m) 0 (W.generation m.anchor);
}

abbrev pub opened : Words → Disks → ℕ → Disk
opened W disks d =
    let cells : ℕ → Cell = λ p. resting (disks.opening d p) in
    let m = standing W (disks.sectors d) cells in
    opened_with W cells m (W.is_whole (disks.serial d) (disks.sectors d) m)

-- disk d after a log of calls since opening, the oldest first
abbrev pub disk_after : Words → Disks → List Call → ℕ → Disk
disk_after W disks log d = disk_from W disks d (opened W disks d) log

-- a fact is durable on a disk that has a candidate, where each candidate says it
pub record Durable (P : Laid → Type 0) (k : Disk) : Type 0 where
  pub some : 1 ≤ length k.candidates
  pub each : AllByRecursion P k.candidates

-- The greatest generation of a container's block that stood on one of the first disks at opening or at a counted
-- sync. The newest block at opening is among them.
abbrev pub mark_below : ℕ → (ℕ → Disk) → ℕ
mark_below zero ks = 0
mark_below (suc n) ks = max (ks n).best (mark_below n ks)

abbrev pub mark : Words → Disks → List Call → ℕ
mark W disks log = mark_below disks.count (disk_after W disks log)

-- the blocks that a log writes to disk d
abbrev pub writes : Words → Disks → ℕ → List Call → List Laid
writes W disks d log =
    (disk_from W disks d
    (record { cells = λ p. resting (record { 0 = [] }); pend = []; known = []; candidates = []; best = 0 })
    log).known
