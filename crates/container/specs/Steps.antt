-- What the steps of the verdict find. Source: this project's own.
use Rattle.std.specs.Prelude.{ℕ, nat_le, ◌==◌, ◌&&◌, ◌||◌, Bool, true, false, if◌then◌else◌, List, [], ◌∷◌, find, length, Option, Some, None}
use Rattle.std.specs.List.{flat_map}
use Rattle.std.specs.Str.{bytes_eq}
use Rattle.imsm_base.specs.Fields.{Part}
use Rattle.imsm_base.specs.Layout.{serial_of, total_blocks_of, volume_count_of}
use Rattle.imsm_base.specs.Whole.{is_expected}
use Rattle.imsm_buffer.specs.Buffer.{parts_of}
use Rattle.mpb_store.specs.declared.answer.StoreFault.TheVariants.{Small}
use Rattle.container.specs.declared.seen.Seen.{Seen}
use Rattle.container.specs.declared.seen.SeenAs.{SeenAs}
use Rattle.container.specs.declared.seen.SeenAs.TheVariants.{Whole, Blank, Torn, Unread}
use Rattle.container.specs.declared.missing.Lack.{Lack}
use Rattle.container.specs.declared.missing.Lack.TheVariants as lack
use Rattle.container.specs.declared.missing.Missing.{Missing}
use Rattle.container.specs.declared.volume.VolumeVerdict.{VolumeVerdict}
use Rattle.container.specs.Volumes.{is_any_started}

-- WHAT LACKS

-- what is wrong with a disk on which this was seen, and which has so many sectors where its record names so many
abbrev pub lack_in : SeenAs → (named has : ℕ) → Option Lack
lack_in (Whole block) named has =
    if volume_count_of (parts_of block) == 0 then Some lack.Spare
    else (if nat_le named has then None else Some (lack.Torn (Small named has)))
lack_in Blank named has = Some lack.Blank
lack_in (Torn fault) named has = Some (lack.Torn fault)
lack_in Unread named has = Some lack.Unread

-- the disk of a serial, if it is there
abbrev pub disk_of : List ℕ → List Seen → Option Seen
disk_of serial seen = find (λ (s : Seen). bytes_eq s.serial.0 serial) seen

abbrev pub lack_by : Part → Option Seen → Option Lack
lack_by disk None = Some lack.Absent
lack_by disk (Some s) = lack_in s.holds (total_blocks_of disk) s.sectors

-- one entry, where something is wrong
abbrev pub missing_by : Part → Option Lack → List Missing
missing_by disk None = []
missing_by disk (Some cause) = record { serial = record { 0 = serial_of disk }; cause = cause } ∷ []

-- the same of a record that is expected; of another nothing is asked
abbrev pub missing_as : Part → List Seen → List Missing
missing_as disk seen = if is_expected disk then missing_by disk (lack_by disk (disk_of (serial_of disk) seen)) else []

abbrev pub missing_of : List Part → List Seen → List Missing
missing_of disks seen = flat_map (λ (disk : Part). missing_as disk seen) disks

-- WHICH RECORD

-- a record has a serial, and is expected if that is asked
abbrev pub is_named : Bool → List ℕ → Part → Bool
is_named true serial disk = is_expected disk && bytes_eq (serial_of disk) serial
is_named false serial disk = bytes_eq (serial_of disk) serial

-- WHETHER IT IS OPENED

abbrev pub is_ready : Bool → List Missing → List VolumeVerdict → Bool
is_ready run missing list = length missing == 0 || (run && is_any_started list)
