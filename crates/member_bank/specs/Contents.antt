-- What stands on several disks. Source: this project's own.
use Rattle.std.specs.Prelude.{◌≡◌, ℕ, ◌+◌, List, [], ◌++◌, map, length, take, drop, slice_set, slice_get, slice_index_or, Some, Vec}
use Rattle.std.specs.declared.alloc.Global.{Global}
use Rattle.units.specs.declared.disk.Sector.{Sector}
use Rattle.units.specs.declared.disk.Serial.{Serial}
use Rattle.device_log.specs.Log.{Call}
use Rattle.device_log.specs.Cells.{Stands}
use Rattle.member_bank.specs.declared.disks.MemDisk.{MemDisk}

-- the serials and the sectors of several disks
pub record Contents : Type 0 where
  pub serials : List Serial
  pub sectors : List (List Sector)

abbrev pub contents_of : List MemDisk → Contents
contents_of disks =
    record { serials = map (λ (d : MemDisk). d.serial) disks; sectors = map (λ (d : MemDisk). d.sectors.items) disks }

abbrev pub sectors_of : List (Vec Sector Global) → List (List Sector)
sectors_of disks = map (λ (d : Vec Sector Global). d.items) disks

abbrev pub sizes_of : List (List Sector) → List ℕ
sizes_of disks = map (λ (d : List Sector). length d) disks

-- a disk with these sectors from a place on
abbrev pub overwritten : List Sector → ℕ → List Sector → List Sector
overwritten disk place sectors = take place disk ++ sectors ++ drop (place + length sectors) disk

-- the disks with these sectors on one of them
abbrev pub overwritten_on : List (List Sector) → ℕ → ℕ → List Sector → List (List Sector)
overwritten_on disks d place sectors = slice_set disks d (overwritten (slice_index_or disks d []) place sectors)

-- these disks are what a log leaves of the opening contents, at each place of each disk
abbrev pub Shows : List (List Sector) → List Call → List (List Sector) → Type 0
Shows opening log disks =
    (d p : ℕ) (s : Sector) → slice_get (slice_index_or disks d []) p ≡ Some s → Stands opening log d p s
