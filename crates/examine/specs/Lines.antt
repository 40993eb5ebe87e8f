-- What a metadata block says, as lines. Source: the fields are those of super-intel.c; the lines are this project's
-- own.
use Rattle.std.specs.Prelude.{ℕ, ◌%◌, ◌==◌, if◌then◌else◌, List, [], ◌∷◌, ◌++◌, codes}
use Rattle.std.specs.Int.{bit_at}
use Rattle.std.specs.List.{flat_map, enumerate_from}
use Rattle.std.specs.Fmt.{decimal}
use Rattle.imsm_base.specs.Fields.{Part}
use Rattle.imsm_base.specs.Layout.{Block, Volume, Map, family_of, orig_family_of, generation_of, size_of, attributes_of, checksum_of, serial_of, total_blocks_of, status_of, name_of, volume_size_of, migration_type_of, unit_of, checkpoint_of, level_byte_of, member_count_of, map_state_of, strip_of, pba_of, blocks_per_member_of, orders_of}
use Rattle.imsm_base.specs.Volumes.{has_pass, is_dirty}
use Rattle.imsm_base.specs.declared.values.TheConstants.{INDEX_RANGE}
use Rattle.imsm_text.specs.Text.{hex_number, name_text, line}

-- the lines of each element, which is told its number, from 0
abbrev pub numbered : {A : Type 0} → (ℕ → A → List ℕ) → List A → List ℕ
numbered lines xs = flat_map (λ (i, x). lines i x) (enumerate_from 0 xs)

-- a line of a name and a word
abbrev pub field_line : List ℕ × List ℕ → List ℕ
field_line (name, word) = line name (word ∷ [])

abbrev pub header_lines : Block → List ℕ
header_lines b = flat_map field_line
    ((codes "family", hex_number (family_of b))
    ∷ (codes "orig", hex_number (orig_family_of b))
    ∷ (codes "generation", decimal (generation_of b))
    ∷ (codes "size", decimal (size_of b))
    ∷ (codes "attributes", hex_number (attributes_of b))
    ∷ (codes "checksum", hex_number (checksum_of b)) ∷ [])

abbrev pub disk_line : ℕ → Part → List ℕ
disk_line i d =
    line (codes "disk") (decimal i ∷ name_text (serial_of d) ∷ decimal (total_blocks_of d)
    ∷ hex_number (status_of d) ∷ [])

-- an entry of a map: the low 24 bits are the index of a disk's record, and bit 24 says that the slot is out of sync
abbrev pub slot_line : ℕ → ℕ → List ℕ
slot_line slot order =
    line (codes "slot") (decimal slot ∷ decimal (order % INDEX_RANGE)
    ∷ (if bit_at order 24 == 1 then codes "out" else codes "in") ∷ [])

abbrev pub map_line : ℕ → Map → List ℕ
map_line i m =
    line (codes "map") (decimal i
    ∷ codes "level" ∷ decimal (level_byte_of m)
    ∷ codes "members" ∷ decimal (member_count_of m)
    ∷ codes "state" ∷ decimal (map_state_of m)
    ∷ codes "strip" ∷ decimal (strip_of m)
    ∷ codes "pba" ∷ decimal (pba_of m)
    ∷ codes "blocks" ∷ decimal (blocks_per_member_of m) ∷ [])

abbrev pub map_lines : ℕ → Map → List ℕ
map_lines i m = map_line i m ++ numbered slot_line (orders_of m)

-- the line of a pass, where one is open
abbrev pub pass_lines : Volume → List ℕ
pass_lines v =
    if has_pass v
    then line (codes "pass") (decimal (migration_type_of v) ∷ decimal (unit_of v) ∷ hex_number (checkpoint_of v) ∷ [])
    else []

abbrev pub volume_head : ℕ → Volume → List ℕ
volume_head i v =
    line (codes "volume") (decimal i ∷ name_text (name_of v) ∷ decimal (volume_size_of v) ∷ [])
    ++ (line (codes "dirty") (decimal (if is_dirty v then 1 else 0) ∷ []) ++ pass_lines v)

abbrev pub volume_lines : ℕ → Volume → List ℕ
volume_lines i v = volume_head i v ++ numbered map_lines v.maps

-- the lines of a block: its header, its disk records, and its volumes with their maps
abbrev pub examine_lines : Block → List ℕ
examine_lines b = header_lines b ++ (numbered disk_line b.disks ++ numbered volume_lines b.volumes)
