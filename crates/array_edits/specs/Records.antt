-- Edits of the table of disk records, and of the slots that name them: the record of a spare that is activated, and a
-- record that leaves.
-- Source: imsm_process_update (update_activate_spare, update_add_remove_disk) of super-intel.c. That a volume takes a
-- spare only where the spare has its sectors, and that a record stays while a slot names it, is this project's own.
use Rattle.std.specs.Prelude.{ℕ, ◌+◌, ◌*◌, ◌/◌, ◌%◌, ◌^◌, ◌==◌, ◌&&◌, ◌||◌, nat_lt, nat_le, not, Bool, false, if◌then◌else◌, List, length, map, Option}
use Rattle.std.specs.Option.{option_map_or}
use Rattle.std.specs.List.{list_any, position}
use Rattle.std.specs.Str.{bytes_eq}
use Rattle.byteorder.specs.Endian.{little_bytes}
use Rattle.units.specs.declared.bounds.TheConstants.{METADATA_SECTORS}
use Rattle.imsm_base.specs.declared.values.TheConstants.{INDEX_RANGE}
use Rattle.imsm_base.specs.Fields.{Part, number}
use Rattle.imsm_base.specs.Layout.{Block, Volume, Map, serial_of, total_blocks_of, migration_type_of, pba_of}
use Rattle.imsm_base.specs.Volumes.{first_map, members, is_expected_at, has_pass, volume_rows}
use Rattle.imsm_base.specs.Whole.{is_expected}
use Rattle.imsm_base.specs.EditsOfTables.{block_with_disk, block_without_disk}
use Rattle.imsm_buffer.specs.Record.{part_of}
use Rattle.imsm_edit.specs.Meanings.{is_told, with_states}
use Rattle.imsm_edit.specs.Passes.{with_pass}
use Rattle.imsm_edit.specs.Slots.{changed_each, slots_with}

-- the index of the expected record that has the serial
abbrev pub expected_index : List ℕ → Block → Option ℕ
expected_index serial b = position (λ d. is_expected d && bytes_eq (serial_of d) serial) b.disks

-- A SPARE IN THE PLACE OF A FAILED RECORD

-- the record of a disk that is activated: configured (CONFIGURED_DISK)
abbrev pub activated_record : (serial : List ℕ) (sectors : ℕ) → Part
activated_record serial sectors =
    part_of (record { serial = record { 0 = serial }; blocks = sectors; scsi = 0; status = 2; owner = 0 })

-- an entry with another index and called out of sync; the bits above stay
abbrev pub entry_given : ℕ → List ℕ → List ℕ
entry_given index entry = little_bytes 4 (number entry / 2 ^ 25 * 2 ^ 25 + INDEX_RANGE + index)

abbrev pub map_given : ℕ → List Bool → Map → Map
map_given index named m = record m {
  entries = changed_each (λ slot e. if is_told named slot then entry_given index e else e) m.entries;
}

-- the slots of record i, by the first map, are given to another record, in each map
abbrev pub volume_given : (i index : ℕ) → Volume → Volume
volume_given i index v =
    record v { maps = map (map_given index (slots_with (λ j. j == i) v)) v.maps }

-- an open pass goes from the first row on with its type; else a rebuild begins
abbrev pub rebuilt : (i index : ℕ) → Volume → Volume
rebuilt i index v = with_pass (if has_pass v then migration_type_of v else 1) 0 (volume_given i index v)

abbrev pub has_slot : ℕ → Volume → Bool
has_slot i v = list_any (λ m. m.index == i) (members v)

-- the disk has the sectors that a member of the volume needs
abbrev pub has_sectors_for : Volume → Part → Bool
has_sectors_for v disk = nat_le (pba_of (first_map v) + volume_rows v + METADATA_SECTORS) (total_blocks_of disk)

-- volume k takes the spare for record i: it is started and not broken, and it has the record in a slot
abbrev pub takes_spare : (started broken : ℕ → Bool) (i : ℕ) → Part → ℕ → Volume → Bool
takes_spare started broken i disk k v = started k && not (broken k) && has_slot i v && has_sectors_for v disk

-- the slots of record i are given to the last record of the block
abbrev pub slots_given : (started broken : ℕ → Bool) (i index : ℕ) → Part → Block → Block
slots_given started broken i index disk b = record b {
  volumes = changed_each
      (λ k v. if takes_spare started broken i disk k v then with_states b false (rebuilt i index v) else v) b.volumes;
}

-- A record is added, and takes the slots of record i; where that one is expected it takes none.
abbrev pub with_spare : (started broken : ℕ → Bool) (i : ℕ) → Part → Block → Block
with_spare started broken i disk b =
    let added = block_with_disk b disk in
    if is_expected_at b i then added else slots_given started broken i (length b.disks) disk added

-- A RECORD THAT LEAVES

-- an entry of a map names the index
abbrev pub names_index : ℕ → Map → Bool
names_index i m = list_any (λ e. number e % INDEX_RANGE == i) m.entries

abbrev pub is_in_use : ℕ → Block → Bool
is_in_use i b = list_any (λ (v : Volume). list_any (names_index i) v.maps) b.volumes

-- a record leaves where no entry names it, and another record is left
abbrev pub without_index : ℕ → Block → Block
without_index i b = if is_in_use i b || nat_lt (length b.disks) 2 then b else block_without_disk b i

-- the record of a serial leaves
abbrev pub without_serial : List ℕ → Block → Block
without_serial serial b =
    option_map_or (λ i. without_index i b) (position (λ d. bytes_eq (serial_of d) serial) b.disks) b
