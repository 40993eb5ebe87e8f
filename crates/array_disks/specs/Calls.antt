-- The calls that a run makes on a disk, by what they are to its metadata. Source: this project's own, over the order of
-- writes of super-intel.c (store_imsm_mpb: the extended sectors, then the anchor).
use Rattle.std.specs.Prelude.{◌≡◌, ℕ, ◌+◌, ◌-◌, ◌≤◌, Bool, true, false, List, [], ◌∷◌, ◌++◌, length, ⊤}
use Rattle.units.specs.declared.disk.Sector.{Sector}
use Rattle.units.specs.declared.bounds.TheConstants.{METADATA_SECTORS}
use Rattle.units.specs.Places.{anchor_place}
use Rattle.device_log.specs.Log.{Call, What, Read, Write, Sync}
use Rattle.array_model.specs.Blocks.{Laid, Words}
use Rattle.array_model.specs.Candidates.{Disk, disk_at, disk_after}
use Rattle.array_model.specs.Start.{Disks}
use Rattle.array_disks.specs.Held.{IsPending, IsFresh}

-- a call on disk d, gone through or not
abbrev pub call_on : (d : ℕ) → What → (went : Bool) → Call
call_on d what went = record { disk = d; what = what; went = went }

-- disk d, which is k before it, behind a call on it
abbrev pub behind : Words → Disks → (d : ℕ) → Disk → What → (went : Bool) → Disk
behind W disks d k what went = disk_at W (disks.serial d) (disks.sectors d) k what went

-- each disk behind a log and one call more, on disk d
abbrev pub after_call : Words → Disks → List Call → (d : ℕ) → What → (went : Bool) → ℕ → Disk
after_call W disks log d what went = disk_after W disks (log ++ call_on d what went ∷ [])

-- KINDS

-- on a disk of n sectors so many sectors from a place on end before those that are kept for metadata
abbrev pub IsBeforeMetadata : (n place count : ℕ) → Type 0
IsBeforeMetadata n place count = place + count + METADATA_SECTORS ≤ n

-- a call at rows: a read anywhere, a write before the sectors that are kept for metadata, or a sync
pub data RowCall (n : ℕ) : What → Type 0 where
  row_read : (place : ℕ) → RowCall n (Read place)
  row_write : (place : ℕ) (sectors : List Sector) (stored : ℕ) → IsBeforeMetadata n place (length sectors)
      → RowCall n (Write place sectors stored)
  row_sync : RowCall n Sync

-- a sync that goes through
abbrev pub IsSettled : What → (went : Bool) → Type 0
IsSettled (Read place) went = ⊥
IsSettled (Write place sectors stored) went = ⊥
IsSettled Sync false = ⊥
IsSettled Sync true = ⊤

-- a block that fits the end of a disk: it has as many extended sectors as its anchor says, and with the anchor and the
-- sector behind it they are no more than are kept for metadata
pub record FitsEnd (W : Words) (m : Laid) : Type 0 where
  pub extra : W.extra m.anchor ≡ length m.extended
  pub few : length m.extended + 2 ≤ METADATA_SECTORS

-- the write of a block's extended sectors, right before the anchor's place, and that of its anchor; so many sectors of
-- it were stored
abbrev pub extended_write : (n : ℕ) → Laid → (stored : ℕ) → What
extended_write n m stored = Write (anchor_place n - length m.extended) m.extended stored

abbrev pub anchor_write : (n : ℕ) → Laid → (stored : ℕ) → What
anchor_write n m stored = Write (anchor_place n) (m.anchor ∷ []) stored

-- the calls that write block m to disk d of n sectors, where each goes through and stores all
abbrev pub block_calls : (d n : ℕ) → Laid → List Call
block_calls d n m =
    call_on d (extended_write n m (length m.extended)) true
    ∷ call_on d (anchor_write n m 1) true
    ∷ call_on d Sync true
    ∷ []

-- Any call of a run on a disk of n sectors, which is k before it: at rows, or a write of a block. The anchor comes
-- right behind the extended sectors, and no other known block has it. The sync behind it is a call at rows.
pub data RunCall (W : Words) (n : ℕ) (k : Disk) : What → Type 0 where
  at_rows : (what : What) → RowCall n what → RunCall W n k what
  of_extended : (m : Laid) (stored : ℕ) → METADATA_SECTORS ≤ n → FitsEnd W m
      → RunCall W n k (extended_write n m stored)
  of_anchor : (m : Laid) (stored : ℕ) → METADATA_SECTORS ≤ n → FitsEnd W m → IsPending k m → IsFresh k m
      → RunCall W n k (anchor_write n m stored)
