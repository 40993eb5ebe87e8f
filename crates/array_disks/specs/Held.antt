-- What a disk holds of a block that is written to it, and which of its blocks may stand. Source: this project's own.
use Rattle.std.specs.Prelude.{◌≡◌, ℕ, ◌-◌, true, List, [], length, ◌⊎◌}
use Rattle.units.specs.Places.{anchor_place}
use Rattle.device_log.specs.Log.{Call}
use Rattle.device_log.specs.Cells.{resting}
use Rattle.array_model.specs.Blocks.{Laid, Words}
use Rattle.array_model.specs.Candidates.{Disk, In, standing, standing_from, disk_after}
use Rattle.array_model.specs.Start.{Disks}

-- the block that stood at the end of disk d at opening, whole or not
abbrev pub first_block : Words → Disks → ℕ → Laid
first_block W disks d = standing W (disks.sectors d) (λ p. resting (disks.opening d p))

-- the disk has a candidate
abbrev pub HasCandidate : Disk → Type 0
HasCandidate k = (a : Laid) × In a k.candidates

-- the extended sectors of a block, where it has some, are those whose anchor hasn't come
abbrev pub IsPending : Disk → Laid → Type 0
IsPending k m = (m.extended ≡ []) ⊎ (k.pend ≡ m.extended)

-- they are, and they stand right before the anchor's place
pub record IsReady (n : ℕ) (k : Disk) (m : Laid) : Type 0 where
  pub pending : IsPending k m
  pub stands : standing_from k.cells (anchor_place n - length m.extended) (length m.extended) ≡ m.extended

-- the block stands at the end of the disk, and is known
pub record IsStanding (W : Words) (n : ℕ) (k : Disk) (m : Laid) : Type 0 where
  pub stands : standing W n k.cells ≡ m
  pub known : In m k.known

-- the block is whole on disk d
abbrev pub IsWholeOn : Words → Disks → (d : ℕ) → Laid → Type 0
IsWholeOn W disks d m = W.is_whole (disks.serial d) (disks.sectors d) m ≡ true

-- the disk has this candidate and no other
pub record IsSole (k : Disk) (m : Laid) : Type 0 where
  pub there : In m k.candidates
  pub only : (a : Laid) → In a k.candidates → a ≡ m

-- no other known block has its anchor
abbrev pub IsFresh : Disk → Laid → Type 0
IsFresh k m = (a : Laid) → In a k.known → a.anchor ≡ m.anchor → a ≡ m

-- Candidates account for what stands: each is known, no two known blocks have one anchor, and a known block whose
-- anchor stands is a candidate. So the block that stands is a candidate, or it isn't known.
pub record AccountForEnd (n : ℕ) (k : Disk) : Type 0 where
  pub known : (a : Laid) → In a k.candidates → In a k.known
  pub own : (a b : Laid) → In a k.known → In b k.known → a.anchor ≡ b.anchor → a ≡ b
  pub stand : (a : Laid) → In a k.known → a.anchor ≡ (k.cells (anchor_place n)).stood → In a k.candidates

-- so they do on each disk behind a log
abbrev pub AccountForEnds : Words → Disks → List Call → Type 0
AccountForEnds W disks log = (d : ℕ) → AccountForEnd (disks.sectors d) (disk_after W disks log d)
