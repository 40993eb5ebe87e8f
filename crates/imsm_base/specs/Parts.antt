-- Taking a metadata block apart, from its front: where bytes spell a block, these are its parts, and there is no other
-- (`parts_are_determined` of this crate). Of bytes that spell none they say nothing.
-- Source: parse_raid_devices and sizeof_imsm_dev of super-intel.c, which find each part behind the one before it.
use Rattle.std.specs.Prelude.{ℕ, zero, suc, ◌+◌, ◌-◌, ◌*◌, ◌==◌, if◌then◌else◌, List, [], ◌∷◌, length, take, drop, replicate}
use Rattle.imsm_base.specs.Fields.{Part, number_at}
use Rattle.imsm_base.specs.Layout.{Block, Volume, Map, header_lengths, disk_lengths, device_lengths, state_lengths, map_lengths, disk_count_of, tail_size_of, member_count_of}

-- the fields of these lengths, from a place on
abbrev pub cut_at : ℕ → List ℕ → List ℕ → Part
cut_at at [] bytes = []
cut_at at (n ∷ ns) bytes = take n (drop at bytes) ∷ cut_at (at + n) ns bytes

-- the records of so many disks
abbrev pub disks_in : ℕ → List ℕ → List Part
disks_in zero bytes = []
disks_in (suc k) bytes = cut_at 0 disk_lengths bytes ∷ disks_in k (drop 48 bytes)

abbrev pub map_in : List ℕ → Map
map_in bytes = record {
  fields = cut_at 0 map_lengths bytes;
  entries = cut_at 48 (replicate (number_at 1 16 bytes) 4) bytes;
}

-- how many bytes maps take, and a volume, and several
abbrev pub map_room : Map → ℕ
map_room m = 48 + 4 * member_count_of m

abbrev pub maps_room : List Map → ℕ
maps_room [] = 0
maps_room (m ∷ ms) = map_room m + maps_room ms

abbrev pub volume_room : Volume → ℕ
volume_room v = 112 + maps_room v.maps

abbrev pub volumes_room : List Volume → ℕ
volumes_room [] = 0
volumes_room (v ∷ vs) = volume_room v + volumes_room vs

abbrev pub maps_in : ℕ → List ℕ → List Map
maps_in zero bytes = []
maps_in (suc k) bytes = map_in bytes ∷ maps_in k (drop (map_room (map_in bytes)) bytes)

abbrev pub volume_in : List ℕ → Volume
volume_in bytes = record {
  device = cut_at 0 device_lengths bytes;
  state = cut_at 80 state_lengths bytes;
  maps = maps_in (if number_at 1 88 bytes == 0 then 1 else 2) (drop 112 bytes);
}

abbrev pub volumes_in : ℕ → List ℕ → List Volume
volumes_in zero bytes = []
volumes_in (suc k) bytes = volume_in bytes ∷ volumes_in k (drop (volume_room (volume_in bytes)) bytes)

-- the bytes behind the disk table, and those behind the volumes
abbrev pub behind_disks : List ℕ → List ℕ
behind_disks bytes = drop (216 + 48 * number_at 1 56 bytes) bytes

abbrev pub behind_volumes : List ℕ → List ℕ
behind_volumes bytes =
    drop (volumes_room (volumes_in (number_at 1 57 bytes) (behind_disks bytes))) (behind_disks bytes)

unfoldable pub block_in : List ℕ → Block
block_in bytes =
    let rest = behind_volumes bytes in
    let kept = length rest - number_at 4 72 bytes in
    record {
      header = cut_at 0 header_lengths bytes;
      disks = disks_in (number_at 1 56 bytes) (drop 216 bytes);
      volumes = volumes_in (number_at 1 57 bytes) (behind_disks bytes);
      gap = take kept rest;
      tail = drop kept rest;
    }

-- the bytes that a block's parts take, the gap apart
abbrev pub room_of : Block → ℕ
room_of b = 216 + 48 * disk_count_of b + volumes_room b.volumes + tail_size_of b
