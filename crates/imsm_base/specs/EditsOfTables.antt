-- Edits of a metadata block's tables, on its parts: the disk records, the volumes, their maps and entries. An edit
-- changes what it names; all else stays, carried fields, gap and tail too, and moves with its table.
-- Source: struct imsm_disk, imsm_dev, imsm_vol and imsm_map of super-intel.c. The mark of a checkpoint is this
-- project's own.
use Rattle.std.specs.Prelude.{ℕ, zero, suc, ◌+◌, ◌-◌, ◌/◌, ◌%◌, ◌^◌, nat_lt, if◌then◌else◌, List, [], ◌∷◌, ◌++◌, length, map, replicate}
use Rattle.std.specs.List.{remove}
use Rattle.byteorder.specs.Endian.{little_bytes}
use Rattle.imsm_base.specs.declared.values.TheConstants.{CHECKPOINT_SIGNATURE, INDEX_RANGE}
use Rattle.imsm_base.specs.Fields.{Part, number}
use Rattle.imsm_base.specs.Layout.{Block, Volume, Map, header_lengths, disk_lengths}
use Rattle.imsm_base.specs.Volumes.{first_map}
use Rattle.imsm_base.specs.Whole.{the_signature}
use Rattle.imsm_base.specs.Edits.{with_field}

-- WHERE AN EDIT IS

-- element k alone is changed
abbrev pub changed_at : {A : Type 0} → ℕ → (A → A) → List A → List A
changed_at k f [] = []
changed_at zero f (x ∷ xs) = f x ∷ xs
changed_at (suc k) f (x ∷ xs) = x ∷ changed_at k f xs

abbrev pub with_disk : ℕ → (Part → Part) → Block → Block
with_disk i f b = record b { disks = changed_at i f b.disks }

abbrev pub with_volume : ℕ → (Volume → Volume) → Block → Block
with_volume k f b = record b { volumes = changed_at k f b.volumes }

abbrev pub with_map : ℕ → (Map → Map) → Volume → Volume
with_map m f v = record v { maps = changed_at m f v.maps }

-- a number in two fields, by its halves
abbrev pub with_wide : ℕ → ℕ → ℕ → Part → Part
with_wide low high n part =
    with_field high (little_bytes 4 (n / 2 ^ 32)) (with_field low (little_bytes 4 (n % 2 ^ 32)) part)

-- EDITS OF FIELDS

abbrev pub block_with_status : Block → ℕ → ℕ → Block
block_with_status b i status = with_disk i (with_field 3 (little_bytes 4 status)) b

abbrev pub map_with_order : ℕ → ℕ → Map → Map
map_with_order slot order m = record m { entries = with_field slot (little_bytes 4 order) m.entries }

abbrev pub block_with_order : Block → ℕ → ℕ → ℕ → ℕ → Block
block_with_order b v m slot order = with_volume v (with_map m (map_with_order slot order)) b

abbrev pub map_with_state : ℕ → Map → Map
map_with_state state m = record m { fields = with_field 4 (little_bytes 1 state) m.fields }

abbrev pub block_with_state : Block → ℕ → ℕ → ℕ → Block
block_with_state b v m state = with_volume v (with_map m (map_with_state state)) b

abbrev pub volume_with_name : List ℕ → Volume → Volume
volume_with_name name v = record v { device = with_field 0 name v.device }

abbrev pub block_with_name : Block → ℕ → List ℕ → Block
block_with_name b v name = with_volume v (volume_with_name name) b

-- the type of an open pass, how far it has come, and whose mark says so
abbrev pub volume_with_pass : ℕ → ℕ → Volume → Volume
volume_with_pass kind unit v =
    record v {
      state = with_wide 0 8 unit
          (with_field 1 (little_bytes 4 CHECKPOINT_SIGNATURE) (with_field 3 (little_bytes 1 kind) v.state));
    }

abbrev pub block_with_pass : Block → ℕ → ℕ → ℕ → Block
block_with_pass b v kind unit = with_volume v (volume_with_pass kind unit) b

-- EDITS OF TABLES

-- a migration is open, with a second map that is a copy of the first
abbrev pub volume_with_migration : Volume → Volume
volume_with_migration v = record v {
  state = with_field 2 (little_bytes 1 1) v.state;
  maps = first_map v ∷ first_map v ∷ [];
}

abbrev pub block_with_migration : Block → ℕ → Block
block_with_migration b v = with_volume v volume_with_migration b

-- none is open, and of the pass nothing is left
abbrev pub volume_without_migration : Volume → Volume
volume_without_migration v = record v {
  state =
      with_wide 0 8 0 (with_field 1 (little_bytes 4 0)
      (with_field 3 (little_bytes 1 0) (with_field 2 (little_bytes 1 0) v.state)));
  maps = first_map v ∷ [];
}

abbrev pub block_without_migration : Block → ℕ → Block
block_without_migration b v = with_volume v volume_without_migration b

-- a header that counts so many disks
abbrev pub counting_disks : ℕ → Part → Part
counting_disks n header = with_field 8 (little_bytes 1 n) header

-- a record more, behind the others
abbrev pub block_with_disk : Block → Part → Block
block_with_disk b disk = record b {
  header = counting_disks (length b.disks + 1) b.header;
  disks = b.disks ++ disk ∷ [];
}

-- an entry's index, its low 24 bits, is one less where a record before it has left
abbrev pub lowered : ℕ → ℕ → ℕ
lowered i order = if nat_lt i (order % INDEX_RANGE) then order - 1 else order

abbrev pub map_without_disk : ℕ → Map → Map
map_without_disk i m = record m { entries = map (λ e. little_bytes 4 (lowered i (number e))) m.entries }

abbrev pub volume_without_disk : ℕ → Volume → Volume
volume_without_disk i v = record v { maps = map (map_without_disk i) v.maps }

-- the record of an index has left
abbrev pub block_without_record : Block → ℕ → Block
block_without_record b i = record b {
  header = counting_disks (length b.disks - 1) b.header;
  disks = remove b.disks i;
}

-- and with it the entries are lowered
abbrev pub block_without_disk : Block → ℕ → Block
block_without_disk b i = record (block_without_record b i) { volumes = map (volume_without_disk i) b.volumes }

-- A NEW BLOCK

-- a part whose bytes are 0
abbrev pub blank_part : List ℕ → Part
blank_part lengths = map (λ n. replicate n 0) lengths

-- "1.3.00" and two zero bytes
abbrev pub the_version : List ℕ
the_version = 0x31 ∷ 0x2e ∷ 0x33 ∷ 0x2e ∷ 0x30 ∷ 0x30 ∷ 0 ∷ 0 ∷ []

-- one disk record, which is empty, and no volume; the generation is 1, and the size that of the block
abbrev pub new_block : Block
new_block = record {
  header = with_field 0 the_signature (with_field 1 the_version (with_field 3 (little_bytes 4 264)
      (with_field 5 (little_bytes 4 1) (counting_disks 1 (blank_part header_lengths)))));
  disks = blank_part disk_lengths ∷ [];
  volumes = [];
  gap = [];
  tail = [];
}
