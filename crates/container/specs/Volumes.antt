-- What is said of a volume when its container is assembled. Slots whose disks lack count as out of sync, and are still
-- expected. Source: md starts an array that can run, and of RAID 5 none that is both dirty and degraded (md.rst,
-- start_dirty_degraded); a pass is wanted as mdmon asks for one.
use Rattle.std.specs.Prelude.{◌≡◌, ℕ, ◌==◌, ◌&&◌, ◌||◌, ◌⊎◌, not, Bool, true, false, if◌then◌else◌, List, map, length, slice_get, Option, Some, None}
use Rattle.std.specs.List.{list_any}
use Rattle.std.specs.Option.{option_map_or}
use Rattle.std.specs.Str.{bytes_eq}
use Rattle.units.specs.Levels.{suffices}
use Rattle.units.specs.declared.volume.Level.{Level}
use Rattle.units.specs.declared.volume.Level.TheVariants.{One, Five, Ten}
use Rattle.imsm_base.specs.Fields.{Part}
use Rattle.imsm_base.specs.Layout.{Block, Volume, map_state_of, serial_of, volume_count_of}
use Rattle.imsm_base.specs.Volumes.{Member, first_map, members, is_in_sync, is_expected_at, is_unfinished, pass_start, volume_fault, volume_level}
use Rattle.imsm_base.specs.Whole.{is_expected}
use Rattle.imsm_codec.specs.Mpb.{volume_at}
use Rattle.imsm_view.specs.declared.fault.VolumeFault.{VolumeFault}
use Rattle.imsm_view.specs.Faults.{fault_of}
use Rattle.container.specs.declared.missing.Missing.{Missing}
use Rattle.container.specs.declared.volume.VolumeVerdict.{VolumeVerdict}
use Rattle.container.specs.declared.volume.VolumeVerdict.TheVariants.{Unsupported, Broken, Unfinished, Degraded, Started}

-- WHICH SLOTS COUNT OUT

-- the disk of a record is listed as one that lacks
abbrev pub is_listed_as : List Missing → Part → Bool
is_listed_as list disk = is_expected disk && list_any (λ (m : Missing). bytes_eq m.serial.0 (serial_of disk)) list

abbrev pub is_listed : Block → List Missing → ℕ → Bool
is_listed b list i = option_map_or (is_listed_as list) (slice_get b.disks i) false

-- a member whose index counts out is out of sync
abbrev pub counted_out : (ℕ → Bool) → Member → Member
counted_out out m = record { index = m.index; is_out = m.is_out || out m.index }

abbrev pub counted : (ℕ → Bool) → Volume → List Member
counted out v = map (counted_out out) (members v)

-- THE WORDS OF A VOLUME WITH THESE MEMBERS

abbrev pub can_run : Block → Volume → List Member → Bool
can_run b v slots = suffices (volume_level v) (map (is_in_sync b) slots) && not (map_state_of (first_map v) == 3)

abbrev pub is_degraded : Block → List Member → Bool
is_degraded b slots = list_any (λ m. not (is_in_sync b m)) slots

abbrev pub wants_pass : Block → Volume → List Member → Bool
wants_pass b v slots = is_unfinished v || list_any (λ m. m.is_out && is_expected_at b m.index) slots

-- of these levels a slot's data can't be told by a row that wasn't finished
abbrev pub has_parity : Option Level → Bool
has_parity None = false
has_parity (Some One) = false
has_parity (Some Five) = true
has_parity (Some Ten) = false

-- the row at which a pass starts, where one is wanted
abbrev pub pass_from : Bool → ℕ → Option ℕ
pass_from wants start = if wants then Some start else None

-- THE VERDICT

-- the first that holds: the volume can't run; it has parity, and is unfinished and degraded; it is degraded; or it
-- starts
abbrev pub verdict_by : (runs unfinished degraded : Bool) → Option Level → (pass : Option ℕ) → VolumeVerdict
verdict_by runs unfinished degraded level pass =
    if not runs then Broken
    else (if has_parity level && (unfinished && degraded) then Unfinished
    else (if degraded then Degraded pass else Started pass))

-- what is said of a supported volume with these members
abbrev pub verdict_with : Block → Volume → List Member → VolumeVerdict
verdict_with b v slots =
    verdict_by (can_run b v slots) (is_unfinished v) (is_degraded b slots) (volume_level v)
    (pass_from (wants_pass b v slots) (pass_start v))

-- what is said of volume k, where these indices count out: its fault, where it has one
abbrev pub IsVolumeVerdict : Block → (ℕ → Bool) → ℕ → Volume → VolumeVerdict → Type 0
IsVolumeVerdict b out k v verdict =
    ((fault : VolumeFault) × (volume_fault b k v ≡ Some (fault_of fault)) × (verdict ≡ Unsupported fault))
    ⊎ ((volume_fault b k v ≡ None) × (verdict ≡ verdict_with b v (counted out v)))

-- one verdict for each volume, where these disks lack
pub record AreVolumeVerdicts (b : Block) (missing : List Missing) (list : List VolumeVerdict) : Type 0 where
  pub count : length list ≡ volume_count_of b
  pub each : (k : ℕ) (v : VolumeVerdict) → slice_get list k ≡ Some v
      → IsVolumeVerdict b (is_listed b missing) k (volume_at k b) v

-- the volume starts, with or without a slot
abbrev pub starts : VolumeVerdict → Bool
starts (Unsupported fault) = false
starts Broken = false
starts Unfinished = false
starts (Degraded pass) = true
starts (Started pass) = true

abbrev pub is_any_started : List VolumeVerdict → Bool
is_any_started list = list_any starts list
