-- Where a block's tables stand. Source: sizeof_imsm_dev and sizeof_imsm_map of super-intel.c.
use Rattle.std.specs.Prelude.{ℕ, ◌+◌, ◌*◌, ◌/◌, ◌%◌, ◌^◌, List, length, take}
use Rattle.imsm_base.specs.Fields.{with_number_at}
use Rattle.imsm_base.specs.Layout.{Block}
use Rattle.imsm_base.specs.Parts.{volumes_room, maps_room}
use Rattle.imsm_codec.specs.Mpb.{volume_at}

-- the record of a disk, a volume's record, and a volume's map
abbrev pub disk_place : ℕ → ℕ
disk_place i = 216 + 48 * i

abbrev pub volume_place : ℕ → Block → ℕ
volume_place v b = 216 + 48 * length b.disks + volumes_room (take v b.volumes)

abbrev pub map_place : ℕ → ℕ → Block → ℕ
map_place v m b = volume_place v b + (112 + maps_room (take m (volume_at v b).maps))

-- a pass in the state of the volume at a place: its type, its mark, and the halves of its unit
abbrev pub with_pass_at : ℕ → ℕ → ℕ → ℕ → List ℕ → List ℕ
with_pass_at at kind unit mark bytes =
    with_number_at 4 (at + 96) (unit / 2 ^ 32) (with_number_at 4 (at + 80) (unit % 2 ^ 32)
    (with_number_at 4 (at + 84) mark (with_number_at 1 (at + 89) kind bytes)))
