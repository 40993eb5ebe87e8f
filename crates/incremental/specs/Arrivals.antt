-- What has arrived of the disks of a container, and the order in which it is kept. Source: mdadm --incremental
-- (Incremental.c) takes the disks one by one, in whatever order they come; the words are this project's own.
use Rattle.std.specs.Prelude.{◌≡◌, ◌≢◌, ◌<◌, nat_lt, Bool, true, false, List, [], ◌∷◌, ◌++◌}
use Rattle.std.specs.List.{All, AllPairs, Any, filter}
use Rattle.units.specs.declared.bounds.TheConstants.{MAX_DISKS}
use Rattle.units.specs.declared.disk.DiskNo.{DiskNo}
use Rattle.container.specs.declared.seen.Seen.{Seen}
use Rattle.container.specs.declared.verdict.Verdict.{Verdict}
use Rattle.container.specs.declared.verdict.Verdict.TheVariants.{Refused, Large, GenerationEnd, Waiting, Ready}
use Rattle.container.specs.Seen.{AreSound}

-- the disks that have arrived as they were seen, and whether a verdict opened the container
pub record Arrived : Type 0 where
  pub seen : List Seen
  pub started : Bool

abbrev pub HasArrived : List Seen → DiskNo → Type 0
HasArrived seen d = Any (λ (s : Seen). s.disk ≡ d) seen

-- whether a verdict opens the container
abbrev pub is_ready : Verdict → Bool
is_ready (Refused fault) = false
is_ready (Large family generation size) = false
is_ready (GenerationEnd family generation) = false
is_ready (Waiting family generation list) = false
is_ready (Ready opening) = true

-- THE ORDER OF NUMBERS

abbrev pub lower : DiskNo → List Seen → List Seen
lower d seen = filter (λ (s : Seen). nat_lt s.disk.0 d.0) seen

abbrev pub higher : DiskNo → List Seen → List Seen
higher d seen = filter (λ (s : Seen). nat_lt d.0 s.disk.0) seen

-- a disk among others: those with lower numbers, the disk, those with higher ones
abbrev pub with_disk : Seen → List Seen → List Seen
with_disk s seen = lower s.disk seen ++ s ∷ higher s.disk seen

-- what is kept of disks that arrived one after the other, the last one first
abbrev pub arrived : List Seen → List Seen
arrived [] = []
arrived (s ∷ before) = with_disk s (arrived before)

abbrev pub AreDistinct : List Seen → Type 0
AreDistinct seen = AllPairs (λ (s t : Seen). s.disk ≢ t.disk) seen

abbrev pub IsRising : List Seen → Type 0
IsRising seen = AllPairs (λ (s t : Seen). s.disk.0 < t.disk.0) seen

-- what is true of the disks that have arrived; since their numbers rise and are below 16, there are 16 at most
pub record AreKept (seen : List Seen) : Type 0 where
  pub rising : IsRising seen
  pub below : All (λ (s : Seen). s.disk.0 < MAX_DISKS) seen
  pub sound : AreSound seen
