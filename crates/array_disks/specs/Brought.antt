-- Which blocks a log brings to a disk: each is complete with the write of its anchor. Source: this project's own.
use Rattle.std.specs.Prelude.{ℕ, ◌==◌, List, [], ◌∷◌, Option, Some, None, if◌then◌else◌, drop}
use Rattle.units.specs.declared.disk.Sector.{Sector}
use Rattle.device_log.specs.Log.{Call, What, Read, Write, Sync}
use Rattle.device_log.specs.Cells.{resting}
use Rattle.array_model.specs.Blocks.{Laid, Words, block_of}
use Rattle.array_model.specs.Candidates.{Disk, Part, NoPart, ExtendedPart, AnchorPart, OtherPart, part_of, disk_from}
use Rattle.array_model.specs.Start.{Disks}

-- a disk on which nothing was seen yet, from which what a log writes is counted
abbrev pub blank : Disk
blank = record { cells = λ p. resting (record { 0 = [] }); pend = []; known = []; candidates = []; best = 0 }

-- disk d as the calls behind the first so many of a log leave a blank one
abbrev pub disk_since : Words → Disks → (log : List Call) → (stamp d : ℕ) → Disk
disk_since W disks log stamp d = disk_from W disks d blank (drop stamp log)

abbrev pub as_list : Option Laid → List Laid
as_list None = []
as_list (Some m) = m ∷ []

-- the block that a part completes, where these extended sectors wait for their anchor
abbrev pub completed : Words → (pend : List Sector) → Part → List Laid
completed W pend NoPart = []
completed W pend (ExtendedPart sectors) = []
completed W pend (AnchorPart s) = as_list (block_of W pend s)
completed W pend OtherPart = []

-- the block that a call completes, on a disk of n sectors
abbrev pub brought_by : Words → (n : ℕ) → (pend : List Sector) → What → List Laid
brought_by W n pend (Read place) = []
brought_by W n pend (Write place sectors stored) = completed W pend (part_of n place sectors)
brought_by W n pend Sync = []

-- the same of disk d, of which another disk's call completes nothing
abbrev pub brought_to : Words → Disks → (d : ℕ) → (pend : List Sector) → Call → List Laid
brought_to W disks d pend call = if call.disk == d then brought_by W (disks.sectors d) pend call.what else []
