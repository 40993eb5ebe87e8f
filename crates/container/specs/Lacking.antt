-- Which disks a container's newest block expects and lack, and why. Source: mdadm --incremental starts a container
-- where the disks are there that its metadata names (super-intel.c, load_super_imsm); the causes are this project's own.
use Rattle.std.specs.Prelude.{◌≡◌, ◌≢◌, ℕ, ◌<◌, ◌≤◌, ◌⊎◌, true, false, List, [], ◌∷◌, ⊤}
use Rattle.std.specs.List.{AllByRecursion}
use Rattle.imsm_base.specs.Fields.{Part}
use Rattle.imsm_base.specs.Layout.{serial_of, total_blocks_of}
use Rattle.imsm_base.specs.Whole.{is_expected}
use Rattle.mpb_store.specs.declared.answer.StoreFault.{StoreFault}
use Rattle.mpb_store.specs.declared.answer.StoreFault.TheVariants.{Mpb, NoOwn, Small}
use Rattle.container.specs.declared.seen.Seen.{Seen}
use Rattle.container.specs.declared.seen.SeenAs.TheVariants as seen_as
use Rattle.container.specs.declared.missing.Lack.{Lack}
use Rattle.container.specs.declared.missing.Lack.TheVariants.{Absent, Blank, Spare, Unread, Torn}
use Rattle.container.specs.declared.missing.Missing.{Missing}
use Rattle.container.specs.Seen.{IsContainer, IsSpare, HasDisk}

-- the disk of a record is there: it holds a container's block, and has the sectors that the record names
pub record IsGood (disk : Part) (s : Seen) : Type 0 where
  pub container : IsContainer s.holds
  pub large : total_blocks_of disk ≤ s.sectors

-- the disk holds a container's block, and has so many sectors, which are fewer than the record names
pub record IsSmaller (disk : Part) (s : Seen) (named has : ℕ) : Type 0 where
  pub container : IsContainer s.holds
  pub named_is : named ≡ total_blocks_of disk
  pub has_is : has ≡ s.sectors
  pub less : has < named

-- the same as a fault
abbrev pub IsTooSmall : Part → Seen → StoreFault → Type 0
IsTooSmall disk s (Mpb fault) = ⊥
IsTooSmall disk s NoOwn = ⊥
IsTooSmall disk s (Small named has) = IsSmaller disk s named has

-- the disk of a record lacks, for this reason: it isn't there, or what is there is of no use
abbrev pub Lacks : List Seen → Part → Lack → Type 0
Lacks seen disk Absent = AllByRecursion (λ (s : Seen). s.serial.0 ≢ serial_of disk) seen
Lacks seen disk Blank = HasDisk seen (serial_of disk) (λ s. s.holds ≡ seen_as.Blank)
Lacks seen disk Spare = HasDisk seen (serial_of disk) (λ s. IsSpare s.holds)
Lacks seen disk Unread = HasDisk seen (serial_of disk) (λ s. s.holds ≡ seen_as.Unread)
Lacks seen disk (Torn fault) =
    HasDisk seen (serial_of disk) (λ s. (s.holds ≡ seen_as.Torn fault) ⊎ IsTooSmall disk s fault)

-- the record asks for nothing, or its disk is there
abbrev pub IsServed : List Seen → Part → Type 0
IsServed seen disk = (is_expected disk ≡ false) ⊎ HasDisk seen (serial_of disk) (IsGood disk)

-- the record expects a disk that lacks, with this serial and for this cause
pub record IsMissing (seen : List Seen) (disk : Part) (m : Missing) : Type 0 where
  pub expected : is_expected disk ≡ true
  pub serial : m.serial.0 ≡ serial_of disk
  pub cause : Lacks seen disk m.cause

-- the disks that lack, in the order of the records that expect them
abbrev pub AreMissing : List Seen → List Part → List Missing → Type 0
AreMissing seen [] [] = ⊤
AreMissing seen [] (m ∷ list) = ⊥
AreMissing seen (disk ∷ disks) [] = IsServed seen disk × AreMissing seen disks []
AreMissing seen (disk ∷ disks) (m ∷ list) =
    (IsServed seen disk × AreMissing seen disks (m ∷ list)) ⊎ (IsMissing seen disk m × AreMissing seen disks list)
