-- What stands at one place of a disk after a log, and what a stop may leave there. Source: this project's own model of
-- a disk: a write that wasn't synced yet may be there or not, and may be torn.
use Rattle.std.specs.Prelude.{◌≡◌, ℕ, ◌+◌, ◌-◌, ◌==◌, nat_lt, Bool, true, false, if◌then◌else◌, List, [], ◌∷◌, slice_get, slice_index_or}
use Rattle.std.specs.List.{AllByRecursion}
use Rattle.std.specs.Option.{IsSomeAnd}
use Rattle.units.specs.declared.disk.Sector.{Sector}
use Rattle.device_log.specs.Log.{Call, What, Read, Write, Sync}

-- a place: the sector that stands there, the one that stood there at the last sync that went through, and what each
-- write since then brought, stored or not, the newest first
pub record Cell : Type 0 where
  pub stood : Sector
  pub synced : Sector
  pub since : List Sector

abbrev pub resting : Sector → Cell
resting s = record { stood = s; synced = s; since = [] }

abbrev pub brought : Cell → Sector → Bool → Cell
brought c s true = record { stood = s; synced = c.synced; since = s ∷ c.since }
brought c s false = record { stood = c.stood; synced = c.synced; since = s ∷ c.since }

-- place p after a write of sectors from a place on, of which so many were stored
abbrev pub cell_written : Cell → ℕ → List Sector → ℕ → ℕ → Cell
cell_written c place [] stored p = c
cell_written c place (s ∷ ss) stored p =
    cell_written (if place == p then brought c s (nat_lt 0 stored) else c) (place + 1) ss (stored - 1) p

abbrev pub cell_synced : Cell → Bool → Cell
cell_synced c true = resting c.stood
cell_synced c false = c

-- place p of a disk after a call on it
abbrev pub cell_at : ℕ → Cell → What → Bool → Cell
cell_at p c (Read place) went = c
cell_at p c (Write place sectors stored) went = cell_written c place sectors stored p
cell_at p c Sync went = cell_synced c went

-- place p of disk d after a call, and after a log
abbrev pub cell_called : ℕ → ℕ → Cell → Call → Cell
cell_called d p c call = if call.disk == d then cell_at p c call.what call.went else c

abbrev pub cell_after : ℕ → ℕ → Cell → List Call → Cell
cell_after d p c [] = c
cell_after d p c (call ∷ log) = cell_after d p (cell_called d p c call) log

-- what stands at place p of disk d after a log, from the opening contents of each disk
abbrev pub Stands : List (List Sector) → List Call → ℕ → ℕ → Sector → Type 0
Stands opening log d p s =
    IsSomeAnd (slice_get (slice_index_or opening d []) p) (λ first. (cell_after d p (resting first) log).stood ≡ s)

-- A stop may leave x at a place: where each write since the last sync brought what stood there at that sync, the place
-- isn't loose, and x is what stands there.
abbrev pub MayLeave : Cell → Sector → Type 0
MayLeave c x = AllByRecursion (λ y. y ≡ c.synced) c.since → x ≡ c.stood
