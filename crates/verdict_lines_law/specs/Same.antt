-- Verdicts whose numbers are those of their types, and what a text tells of them. Source: this project's own.
use Rattle.std.specs.Prelude.{◌≡◌, ℕ, ◌^◌, ◌<◌, List, length, map, slice_get, Option, Some, None, ⊤}
use Rattle.std.specs.List.{AllByRecursion}
use Rattle.units.specs.declared.bounds.TheConstants.{SERIAL_BYTES}
use Rattle.units.specs.declared.disk.Serial.{Serial}
use Rattle.imsm_text.specs.Text.{serial_text}
use Rattle.imsm_codec.specs.declared.fault.MpbFault.{MpbFault}
use Rattle.imsm_codec.specs.declared.fault.MpbFault.TheVariants.{Short, Signature, Size, Cut, Checksum, Counts, Serials, Volume, BadBlocks}
use Rattle.mpb_store.specs.declared.answer.StoreFault.{StoreFault}
use Rattle.mpb_store.specs.declared.answer.StoreFault.TheVariants.{Mpb, NoOwn, Small}
use Rattle.imsm_view.specs.declared.fault.VolumeFault.{VolumeFault}
use Rattle.imsm_view.specs.declared.fault.VolumeFault.TheVariants.{Level, Policy, Migration, DiskIndex, Geometry, Overlap}
use Rattle.generation_pick.specs.declared.fault.PickFault.{PickFault}
use Rattle.generation_pick.specs.declared.fault.PickFault.TheVariants as pick
use Rattle.container.specs.declared.missing.Lack.{Lack}
use Rattle.container.specs.declared.missing.Lack.TheVariants as lack
use Rattle.container.specs.declared.missing.Missing.{Missing}
use Rattle.container.specs.declared.role.DiskRole.{DiskRole}
use Rattle.container.specs.declared.role.DiskRole.TheVariants as role
use Rattle.container.specs.declared.verdict.Opening.{Opening}
use Rattle.container.specs.declared.verdict.Verdict.{Verdict}
use Rattle.container.specs.declared.verdict.Verdict.TheVariants.{Refused, Large, GenerationEnd, Waiting, Ready}
use Rattle.container.specs.declared.volume.VolumeVerdict.{VolumeVerdict}
use Rattle.container.specs.declared.volume.VolumeVerdict.TheVariants.{Unsupported, Broken, Unfinished, Degraded, Started}

-- NUMBERS

abbrev pub IsNumber : ℕ → Type 0
IsNumber n = n < 2 ^ 64

-- one that is printed as eight digits
abbrev pub IsCode : ℕ → Type 0
IsCode n = n < 2 ^ 32

pub record IsSerial (s : Serial) : Type 0 where
  pub long : length s.0 ≡ SERIAL_BYTES
  pub bytes : AllByRecursion (λ (b : ℕ). b < 256) s.0

-- no two disks have one name
abbrev pub HaveNames : List Serial → Type 0
HaveNames serials =
    (i j : ℕ) (s t : Serial) → slice_get serials i ≡ Some s → slice_get serials j ≡ Some t
    → serial_text s ≡ serial_text t → i ≡ j

-- VERDICTS

abbrev pub FitsBlockFault : MpbFault → Type 0
FitsBlockFault (Short given) = IsNumber given
FitsBlockFault Signature = ⊤
FitsBlockFault (Size n) = IsNumber n
FitsBlockFault (Cut n given) = IsNumber n × IsNumber given
FitsBlockFault (Checksum kept summed) = IsCode kept × IsCode summed
FitsBlockFault (Counts disks volumes) = IsNumber disks × IsNumber volumes
FitsBlockFault (Serials i j) = IsNumber i × IsNumber j
FitsBlockFault (Volume i) = IsNumber i
FitsBlockFault (BadBlocks n) = IsNumber n

abbrev pub FitsFault : StoreFault → Type 0
FitsFault (Mpb fault) = FitsBlockFault fault
FitsFault NoOwn = ⊤
FitsFault (Small named has) = IsNumber named × IsNumber has

abbrev pub FitsLack : Lack → Type 0
FitsLack (lack.Torn fault) = FitsFault fault
FitsLack _ = ⊤

pub record FitsMissing (m : Missing) : Type 0 where
  pub serial : IsSerial m.serial
  pub cause : FitsLack m.cause

abbrev pub FitsVolumeFault : VolumeFault → Type 0
FitsVolumeFault (Level byte members) = IsNumber byte × IsNumber members
FitsVolumeFault (Policy byte) = IsNumber byte
FitsVolumeFault (Migration type) = IsNumber type
FitsVolumeFault (DiskIndex slot) = IsNumber slot.0
FitsVolumeFault Geometry = ⊤
FitsVolumeFault (Overlap other) = IsNumber other.0

abbrev pub FitsPass : Option ℕ → Type 0
FitsPass None = ⊤
FitsPass (Some row) = IsNumber row

abbrev pub FitsVolume : VolumeVerdict → Type 0
FitsVolume (Unsupported fault) = FitsVolumeFault fault
FitsVolume Broken = ⊤
FitsVolume Unfinished = ⊤
FitsVolume (Degraded pass) = FitsPass pass
FitsVolume (Started pass) = FitsPass pass

abbrev pub FitsRole : DiskRole → Type 0
FitsRole (role.Torn fault) = FitsFault fault
FitsRole _ = ⊤

-- twins are disks that are there
abbrev pub FitsPick : List Serial → PickFault → Type 0
FitsPick serials pick.None = ⊤
FitsPick serials (pick.Families a b) = IsCode a × IsCode b
FitsPick serials (pick.Twins d e) = (d.0 < length serials) × (e.0 < length serials)

-- a block's family and generation
abbrev pub FitsBook : ℕ → ℕ → Type 0
FitsBook family generation = IsCode family × IsNumber generation

-- a verdict on the disks of these serials: some disk is waited for where any is, and each has one role
abbrev pub FitsVerdict : (serials present : List Serial) → Verdict → Type 0
FitsVerdict serials present (Refused fault) = FitsPick serials fault
FitsVerdict serials present (Large family generation size) = FitsBook family generation × IsNumber size
FitsVerdict serials present (GenerationEnd family generation) = FitsBook family generation
FitsVerdict serials present (Waiting family generation list) =
    FitsBook family generation × (0 < length list.items) × AllByRecursion FitsMissing list.items
FitsVerdict serials present (Ready o) =
    FitsBook o.family o.generation × AllByRecursion FitsVolume o.volumes.items
    × (length o.disks.items ≡ length present) × AllByRecursion FitsRole o.disks.items

-- WHAT IS TOLD

-- a role but for the index of its record
abbrev pub printed_role : DiskRole → DiskRole
printed_role (role.Member i) = role.Member 0
printed_role (role.Failed i) = role.Failed 0
printed_role r = r

-- two openings of one family and one generation say the same of each volume, and of each disk but for indices; their
-- books aren't printed
pub record TellSame (o u : Opening) : Type 0 where
  pub family : o.family ≡ u.family
  pub generation : o.generation ≡ u.generation
  pub volumes : o.volumes ≡ u.volumes
  pub disks : map printed_role o.disks.items ≡ map printed_role u.disks.items

-- two verdicts are the same, but for what isn't printed of an opening
abbrev pub AreTold : Verdict → Verdict → Type 0
AreTold (Ready o) (Ready u) = TellSame o u
AreTold v w = v ≡ w
