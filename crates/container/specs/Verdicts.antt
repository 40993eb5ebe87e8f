-- The verdict on a container whose disks are there as they were seen. Source: mdadm --incremental (Incremental.c)
-- starts an array when the disks that its newest metadata names are there, and with --run where the others suffice; the
-- words are this project's own.
use Rattle.std.specs.Prelude.{◌≡◌, ◌≢◌, ℕ, ◌+◌, ◌<◌, ◌≤◌, ◌⊎◌, Bool, true, false, List, [], Contains}
use Rattle.std.specs.List.{sum_by}
use Rattle.units.specs.declared.bounds.TheConstants.{FIRST_GENERATION_REFUSED, MAX_BLOCK_BYTES}
use Rattle.imsm_base.specs.Layout.{Block, generation_of, size_of}
use Rattle.imsm_base.specs.Parts.{block_in}
use Rattle.imsm_base.specs.Volumes.{second_map_bytes}
use Rattle.generation_pick.specs.declared.fault.PickFault.{PickFault}
use Rattle.generation_pick.specs.declared.found.FoundAt.{FoundAt}
use Rattle.generation_pick.specs.declared.found.Pick.{Pick}
use Rattle.generation_pick.specs.Picks.{HasPickFault, IsPicked}
use Rattle.container.specs.declared.missing.Missing.{Missing}
use Rattle.container.specs.declared.seen.Seen.{Seen}
use Rattle.container.specs.declared.volume.VolumeVerdict.{VolumeVerdict}
use Rattle.container.specs.declared.verdict.Opening.{Opening}
use Rattle.container.specs.declared.verdict.Verdict.{Verdict}
use Rattle.container.specs.declared.verdict.Verdict.TheVariants.{Refused, Large, GenerationEnd, Waiting, Ready}
use Rattle.container.specs.Lacking.{AreMissing}
use Rattle.container.specs.Roles.{AreRoles}
use Rattle.container.specs.Seen.{AreOf, containers_of}
use Rattle.container.specs.Volumes.{AreVolumeVerdicts, is_any_started}

-- how many bytes a block takes with a second map for each volume that has none
abbrev pub full_size : Block → ℕ
full_size b = size_of b + sum_by second_map_bytes b.volumes

-- no block of the disks is picked, for this reason
pub record IsRefused (seen : List Seen) (fault : PickFault) : Type 0 where
  pub entries : List FoundAt
  pub are : AreOf entries (containers_of seen)
  pub cause : HasPickFault entries fault

-- the newest block of the disks, as it was picked, and its bytes
pub record IsNewest (seen : List Seen) (p : Pick) (bytes : List ℕ) : Type 0 where
  pub entries : List FoundAt
  pub are : AreOf entries (containers_of seen)
  pub picked : IsPicked entries p
  pub there : Contains (containers_of seen) (record { disk = p.disk.0; bytes = bytes })
  pub generation : generation_of (block_in bytes) ≡ p.generation

-- the container is opened by the newest block, in room for every second map: a verdict on each volume, and the role of
-- each disk
pub record IsOpening (bytes : List ℕ) (p : Pick) (seen : List Seen) (missing : List Missing) (o : Opening) : Type 0 where
  pub book : o.book ≡ record { bytes = bytes; room = full_size (block_in bytes) }
  pub family : o.family ≡ p.family
  pub generation : o.generation ≡ p.generation
  pub volumes : AreVolumeVerdicts (block_in bytes) missing o.volumes.items
  pub disks : AreRoles (block_in bytes) seen o.disks.items

-- the block would fit with all second maps, and its generation is none of the last
pub record GoesOn (bytes : List ℕ) (p : Pick) : Type 0 where
  pub fits : full_size (block_in bytes) ≤ MAX_BLOCK_BYTES
  pub below : p.generation < FIRST_GENERATION_REFUSED

-- disks lack, and aren't done without: a start without them isn't asked for, or no volume would start
pub record Waits (bytes : List ℕ) (run : Bool) (missing : List Missing) : Type 0 where
  pub some : missing ≢ []
  pub none_starts : run ≡ true
      → (list : List VolumeVerdict) × AreVolumeVerdicts (block_in bytes) missing list × (is_any_started list ≡ false)

-- no disk lacks, or a start without them is asked for, and a volume starts
abbrev pub IsReady : (run : Bool) → (missing : List Missing) → List VolumeVerdict → Type 0
IsReady run missing list = (missing ≡ []) ⊎ ((run ≡ true) × (is_any_started list ≡ true))

-- the verdict by the newest block where these disks lack, the first of these that holds: the block would be too large,
-- its generation is one of the last, expected disks lack, or the container is opened
abbrev pub IsVerdictBy : List ℕ → Pick → List Seen → (run : Bool) → List Missing → Verdict → Type 0
IsVerdictBy bytes p seen run missing (Refused fault) = ⊥
IsVerdictBy bytes p seen run missing (Large family generation size) =
    (family ≡ p.family) × (generation ≡ p.generation) × (size ≡ full_size (block_in bytes)) × (MAX_BLOCK_BYTES < size)
IsVerdictBy bytes p seen run missing (GenerationEnd family generation) =
    (family ≡ p.family) × (generation ≡ p.generation) × (full_size (block_in bytes) ≤ MAX_BLOCK_BYTES)
    × (FIRST_GENERATION_REFUSED ≤ generation)
IsVerdictBy bytes p seen run missing (Waiting family generation list) =
    (family ≡ p.family) × (generation ≡ p.generation) × GoesOn bytes p × (list.items ≡ missing)
    × Waits bytes run missing
IsVerdictBy bytes p seen run missing (Ready opening) =
    GoesOn bytes p × IsReady run missing opening.volumes.items × IsOpening bytes p seen missing opening

-- the newest block of the disks, the expected disks that lack, and the verdict by them
pub record IsByNewest (seen : List Seen) (run : Bool) (verdict : Verdict) : Type 0 where
  pub pick : Pick
  pub bytes : List ℕ
  pub newest : IsNewest seen pick bytes
  pub missing : List Missing
  pub lack : AreMissing seen (block_in bytes).disks missing
  pub says : IsVerdictBy bytes pick seen run missing verdict

-- the verdict on the disks: no block is picked, or it is the one by the newest
abbrev pub IsVerdict : List Seen → (run : Bool) → Verdict → Type 0
IsVerdict seen run verdict =
    ((fault : PickFault) × IsRefused seen fault × (verdict ≡ Refused fault)) ⊎ IsByNewest seen run verdict
