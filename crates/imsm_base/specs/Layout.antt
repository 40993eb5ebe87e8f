-- A metadata block is a list of parts, laid end to end: a header, a record for each disk, the volumes, bytes that
-- are carried, and a tail.
-- Source: struct imsm_super, imsm_disk, imsm_dev, imsm_vol and imsm_map of super-intel.c. Where they name more
-- fields than stand here, the carried ones are one field.
use Rattle.std.specs.Prelude.{◌≡◌, ℕ, ◌+◌, ◌*◌, ◌^◌, ◌==◌, if◌then◌else◌, List, [], ◌∷◌, ◌++◌, length, map, replicate}
use Rattle.std.specs.List.{concat, flat_map, AllByRecursion}
use Rattle.imsm_base.specs.Fields.{Part, field, number, number_in}

-- one of a volume's maps: its fields, and an entry for each member
pub record Map : Type 0 where
  pub fields : Part
  pub entries : Part

-- a volume: its record, its state, and one map or two
pub record Volume : Type 0 where
  pub device : Part
  pub state : Part
  pub maps : List Map

pub record Block : Type 0 where
  pub header : Part
  pub disks : List Part
  pub volumes : List Volume
  pub gap : List ℕ
  pub tail : List ℕ

-- The header: signature, version, check_sum, mpb_size, family_num, generation_num, error_log_size, attributes,
-- num_disks, num_raid_devs, six bytes carried, orig_family_num, four carried, bbm_log_size, the rest carried.
abbrev pub header_lengths : List ℕ
header_lengths = 24 ∷ 8 ∷ 4 ∷ 4 ∷ 4 ∷ 4 ∷ 4 ∷ 4 ∷ 1 ∷ 1 ∷ 6 ∷ 4 ∷ 4 ∷ 4 ∷ 140 ∷ []

abbrev pub signature_of : Block → List ℕ
signature_of b = field 0 b.header

abbrev pub checksum_of : Block → ℕ
checksum_of b = number_in 2 b.header

abbrev pub size_of : Block → ℕ
size_of b = number_in 3 b.header

abbrev pub family_of : Block → ℕ
family_of b = number_in 4 b.header

abbrev pub generation_of : Block → ℕ
generation_of b = number_in 5 b.header

abbrev pub attributes_of : Block → ℕ
attributes_of b = number_in 7 b.header

abbrev pub disk_count_of : Block → ℕ
disk_count_of b = number_in 8 b.header

abbrev pub volume_count_of : Block → ℕ
volume_count_of b = number_in 9 b.header

abbrev pub orig_family_of : Block → ℕ
orig_family_of b = number_in 11 b.header

abbrev pub tail_size_of : Block → ℕ
tail_size_of b = number_in 13 b.header

-- A disk record: serial, total_blocks_lo, scsi_id, status, owner_cfg_num, total_blocks_hi, filler.
abbrev pub disk_lengths : List ℕ
disk_lengths = 16 ∷ 4 ∷ 4 ∷ 4 ∷ 4 ∷ 4 ∷ 12 ∷ []

abbrev pub serial_of : Part → List ℕ
serial_of disk = field 0 disk

-- two fields that are the halves of one number
abbrev pub wide : ℕ → ℕ → Part → ℕ
wide low high part = number_in low part + 2 ^ 32 * number_in high part

abbrev pub total_blocks_of : Part → ℕ
total_blocks_of disk = wide 1 5 disk

abbrev pub status_of : Part → ℕ
status_of disk = number_in 3 disk

-- A volume's record: name, size_low, size_high, status, 22 bytes carried, policy, 29 carried.
abbrev pub device_lengths : List ℕ
device_lengths = 16 ∷ 4 ∷ 4 ∷ 4 ∷ 22 ∷ 1 ∷ 29 ∷ []

abbrev pub name_of : Volume → List ℕ
name_of v = field 0 v.device

abbrev pub volume_size_of : Volume → ℕ
volume_size_of v = wide 1 2 v.device

abbrev pub policy_of : Volume → ℕ
policy_of v = number_in 5 v.device

-- A volume's state: curr_migr_unit_lo, checkpoint_id, migr_state, migr_type, dirty, fs_state, verify_errors,
-- bad_blocks, curr_migr_unit_hi, filler.
abbrev pub state_lengths : List ℕ
state_lengths = 4 ∷ 4 ∷ 1 ∷ 1 ∷ 1 ∷ 1 ∷ 2 ∷ 2 ∷ 4 ∷ 12 ∷ []

abbrev pub unit_of : Volume → ℕ
unit_of v = wide 0 8 v.state

abbrev pub checkpoint_of : Volume → ℕ
checkpoint_of v = number_in 1 v.state

abbrev pub migration_state_of : Volume → ℕ
migration_state_of v = number_in 2 v.state

abbrev pub migration_type_of : Volume → ℕ
migration_type_of v = number_in 3 v.state

abbrev pub dirty_byte_of : Volume → ℕ
dirty_byte_of v = number_in 4 v.state

-- A map: pba_of_lba0_lo, blocks_per_member_lo, num_data_stripes_lo, blocks_per_strip, map_state, raid_level,
-- num_members, num_domains, failed_disk_num, ddf, the high halves of the first three, filler.
abbrev pub map_lengths : List ℕ
map_lengths = 4 ∷ 4 ∷ 4 ∷ 2 ∷ 1 ∷ 1 ∷ 1 ∷ 1 ∷ 1 ∷ 1 ∷ 4 ∷ 4 ∷ 4 ∷ 16 ∷ []

abbrev pub pba_of : Map → ℕ
pba_of m = wide 0 10 m.fields

abbrev pub blocks_per_member_of : Map → ℕ
blocks_per_member_of m = wide 1 11 m.fields

abbrev pub data_stripes_of : Map → ℕ
data_stripes_of m = wide 2 12 m.fields

abbrev pub strip_of : Map → ℕ
strip_of m = number_in 3 m.fields

abbrev pub map_state_of : Map → ℕ
map_state_of m = number_in 4 m.fields

abbrev pub level_byte_of : Map → ℕ
level_byte_of m = number_in 5 m.fields

abbrev pub member_count_of : Map → ℕ
member_count_of m = number_in 6 m.fields

-- the entries of a map's slots, four bytes each (disk_ord_tbl)
abbrev pub orders_of : Map → List ℕ
orders_of m = map number m.entries

-- fields of these lengths
abbrev pub HasLengths : List ℕ → Part → Type 0
HasLengths lengths part = map (λ (f : List ℕ). length f) part ≡ lengths

pub record IsMap (m : Map) : Type 0 where
  pub fields : HasLengths map_lengths m.fields
  pub entries : HasLengths (replicate (member_count_of m) 4) m.entries

-- the second map stands exactly where a migration is open
abbrev pub map_count_of : Volume → ℕ
map_count_of v = if migration_state_of v == 0 then 1 else 2

pub record IsVolume (v : Volume) : Type 0 where
  pub device : HasLengths device_lengths v.device
  pub state : HasLengths state_lengths v.state
  pub count : length v.maps ≡ map_count_of v
  pub maps : AllByRecursion IsMap v.maps

-- each part has its fields, and there are as many parts as the header says
pub record IsBlock (b : Block) : Type 0 where
  pub header : HasLengths header_lengths b.header
  pub disks : AllByRecursion (HasLengths disk_lengths) b.disks
  pub disk_count : length b.disks ≡ disk_count_of b
  pub volumes : AllByRecursion IsVolume b.volumes
  pub volume_count : length b.volumes ≡ volume_count_of b
  pub tail : length b.tail ≡ tail_size_of b

abbrev pub map_bytes : Map → List ℕ
map_bytes m = concat m.fields ++ concat m.entries

abbrev pub volume_bytes : Volume → List ℕ
volume_bytes v = concat v.device ++ (concat v.state ++ flat_map map_bytes v.maps)

-- the parts end to end
abbrev pub bytes_of : Block → List ℕ
bytes_of b = concat b.header ++ (flat_map concat b.disks ++ (flat_map volume_bytes b.volumes ++ (b.gap ++ b.tail)))

-- these bytes are the block's parts
pub record Spells (bytes : List ℕ) (b : Block) : Type 0 where
  pub parts : IsBlock b
  pub laid : bytes ≡ bytes_of b
