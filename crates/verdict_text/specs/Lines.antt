-- The lines of a verdict on a container. Source: this project's own.
use Rattle.std.specs.Prelude.{ℕ, List, [], ◌∷◌, ◌++◌, codes, replicate, slice_index_or, Option, Some, None}
use Rattle.std.specs.Fmt.{decimal}
use Rattle.std.specs.List.{flat_map}
use Rattle.units.specs.declared.bounds.TheConstants.{SERIAL_BYTES}
use Rattle.units.specs.declared.disk.Serial.{Serial}
use Rattle.imsm_text.specs.Text.{hex_number, line, serial_text}
use Rattle.imsm_view.specs.declared.fault.VolumeFault.{VolumeFault}
use Rattle.imsm_view.specs.declared.fault.VolumeFault.TheVariants.{Level, Policy, Migration, DiskIndex, Geometry, Overlap}
use Rattle.fault_text.specs.Words.{torn_words}
use Rattle.examine.specs.Lines.{numbered}
use Rattle.generation_pick.specs.declared.fault.PickFault.{PickFault}
use Rattle.generation_pick.specs.declared.fault.PickFault.TheVariants as pick
use Rattle.container.specs.declared.missing.Lack.{Lack}
use Rattle.container.specs.declared.missing.Lack.TheVariants as lack
use Rattle.container.specs.declared.missing.Missing.{Missing}
use Rattle.container.specs.declared.role.DiskRole.{DiskRole}
use Rattle.container.specs.declared.role.DiskRole.TheVariants as role
use Rattle.container.specs.declared.verdict.Opening.{Opening}
use Rattle.container.specs.declared.verdict.Verdict.{Verdict}
use Rattle.container.specs.declared.verdict.Verdict.TheVariants.{Refused, Large, GenerationEnd, Waiting, Ready}
use Rattle.container.specs.declared.volume.VolumeVerdict.{VolumeVerdict}
use Rattle.container.specs.declared.volume.VolumeVerdict.TheVariants.{Unsupported, Broken, Unfinished, Degraded, Started}

-- the name of a disk, by the serials of all disks
abbrev pub blank_serial : Serial
blank_serial = record { 0 = replicate SERIAL_BYTES 0 }

abbrev pub disk_name : List Serial → ℕ → List ℕ
disk_name serials d = serial_text (slice_index_or serials d blank_serial)

-- REFUSED

abbrev pub pick_words : List Serial → PickFault → List (List ℕ)
pick_words serials pick.None = codes "none" ∷ []
pick_words serials (pick.Families a b) = codes "families" ∷ hex_number a ∷ hex_number b ∷ []
pick_words serials (pick.Twins d e) = codes "twins" ∷ disk_name serials d.0 ∷ disk_name serials e.0 ∷ []

abbrev pub refused_line : List (List ℕ) → List ℕ
refused_line words = line (codes "refused") words

abbrev pub family_line : ℕ → ℕ → List ℕ
family_line family generation =
    line (codes "family") (hex_number family ∷ codes "generation" ∷ decimal generation ∷ [])

-- WAITING

abbrev pub lack_words : Lack → List (List ℕ)
lack_words lack.Absent = codes "absent" ∷ []
lack_words lack.Blank = codes "blank" ∷ []
lack_words lack.Spare = codes "spare" ∷ []
lack_words lack.Unread = codes "unread" ∷ []
lack_words (lack.Torn fault) = torn_words fault

abbrev pub waiting_line : Missing → List ℕ
waiting_line m = line (codes "waiting") (serial_text m.serial ∷ lack_words m.cause)

-- VOLUMES

abbrev pub volume_fault_words : VolumeFault → List (List ℕ)
volume_fault_words (Level byte members) = codes "level" ∷ decimal byte ∷ decimal members ∷ []
volume_fault_words (Policy byte) = codes "policy" ∷ decimal byte ∷ []
volume_fault_words (Migration type) = codes "migration" ∷ decimal type ∷ []
volume_fault_words (DiskIndex slot) = codes "index" ∷ decimal slot.0 ∷ []
volume_fault_words Geometry = codes "geometry" ∷ []
volume_fault_words (Overlap other) = codes "overlap" ∷ decimal other.0 ∷ []

-- the row that a pass starts at, where one is wanted
abbrev pub pass_words : Option ℕ → List (List ℕ)
pass_words None = []
pass_words (Some row) = codes "pass" ∷ decimal row ∷ []

abbrev pub volume_words : VolumeVerdict → List (List ℕ)
volume_words (Unsupported fault) = codes "unsupported" ∷ volume_fault_words fault
volume_words Broken = codes "broken" ∷ []
volume_words Unfinished = codes "unfinished" ∷ []
volume_words (Degraded pass) = codes "degraded" ∷ pass_words pass
volume_words (Started pass) = codes "started" ∷ pass_words pass

abbrev pub volume_line : ℕ → VolumeVerdict → List ℕ
volume_line v verdict = line (codes "volume") (decimal v ∷ volume_words verdict)

-- a line for each volume, by its number
abbrev pub volume_lines : List VolumeVerdict → List ℕ
volume_lines list = numbered volume_line list

-- DISKS

abbrev pub role_words : DiskRole → List (List ℕ)
role_words (role.Member i) = codes "member" ∷ []
role_words (role.Failed i) = codes "failed" ∷ []
role_words role.Spare = codes "spare" ∷ []
role_words role.Stranger = codes "stranger" ∷ []
role_words role.Blank = codes "blank" ∷ []
role_words (role.Torn fault) = torn_words fault
role_words role.Unread = codes "unread" ∷ []

-- a line for each disk that is there, of which these are the serials
abbrev pub disk_line : Serial → DiskRole → List ℕ
disk_line serial r = line (codes "disk") (serial_text serial ∷ role_words r)

abbrev pub disk_lines : List Serial → List DiskRole → List ℕ
disk_lines [] roles = []
disk_lines (serial ∷ serials) [] = []
disk_lines (serial ∷ serials) (r ∷ roles) = disk_line serial r ++ disk_lines serials roles

-- THE VERDICT

abbrev pub opening_lines : List Serial → Opening → List ℕ
opening_lines present o =
    family_line o.family o.generation ++ (volume_lines o.volumes.items ++ disk_lines present o.disks.items)

-- the lines of a verdict on the disks of which these are the serials, in the order of their numbers; all disks have
-- these serials
abbrev pub verdict_lines : (serials present : List Serial) → Verdict → List ℕ
verdict_lines serials present (Refused fault) = refused_line (pick_words serials fault)
verdict_lines serials present (Large family generation size) =
    family_line family generation ++ refused_line (codes "large" ∷ decimal size ∷ [])
verdict_lines serials present (GenerationEnd family generation) =
    family_line family generation ++ refused_line (codes "generation" ∷ decimal generation ∷ [])
verdict_lines serials present (Waiting family generation list) =
    family_line family generation ++ flat_map waiting_line list.items
verdict_lines serials present (Ready opening) = opening_lines present opening
