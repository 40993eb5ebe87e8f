-- The metadata block that is made for a container over disks, field by field as `Layout` of imsm_base names them.
-- Source: init_super_imsm and init_super_imsm_volume of super-intel.c; where a volume lies, its name and the number of
-- the family are this project's own choice.
use Rattle.std.specs.Prelude.{◌≡◌, ℕ, ◌+◌, ◌*◌, ◌/◌, ◌%◌, ◌^◌, ◌<◌, ◌≤◌, true, List, [], ◌∷◌, ◌++◌, length, map, codes, replicate, All, Option, Some, None, unwrap_or}
use Rattle.std.specs.List.{range_with_len}
use Rattle.byteorder.specs.Endian.{little_bytes}
use Rattle.units.specs.declared.volume.Level.{Level}
use Rattle.units.specs.declared.volume.Level.TheVariants.{One, Five, Ten}
use Rattle.units.specs.declared.bounds.TheConstants.{METADATA_SECTORS}
use Rattle.imsm_base.specs.Fields.{Part}
use Rattle.imsm_base.specs.Layout.{Block, Volume, state_lengths, bytes_of}
use Rattle.imsm_base.specs.Whole.{the_signature, block_sum, AreApart}
use Rattle.imsm_base.specs.EditsOfTables.{blank_part, the_version}
use Rattle.new_container.specs.declared.container.NewContainer.{NewContainer}
use Rattle.new_container.specs.declared.disk.NewDisk.{NewDisk}
use Rattle.new_container.specs.declared.volume.NewVolume.{NewVolume}
use Rattle.new_container.specs.Fits.{container_fits, rows_over, total_rows}

-- the halves of a number, four bytes each
abbrev pub low_half : ℕ → List ℕ
low_half n = little_bytes 4 (n % 2 ^ 32)

abbrev pub high_half : ℕ → List ℕ
high_half n = little_bytes 4 (n / 2 ^ 32)

-- the header: generation 1, and these counts of disks and of volumes
abbrev pub header_part : (sum size family disks volumes : ℕ) → Part
header_part sum size family disks volumes =
    the_signature ∷ the_version ∷ little_bytes 4 sum ∷ little_bytes 4 size ∷ little_bytes 4 family ∷ little_bytes 4 1
    ∷ replicate 4 0 ∷ replicate 4 0 ∷ (disks ∷ []) ∷ (volumes ∷ []) ∷ replicate 6 0
    ∷ little_bytes 4 family ∷ replicate 4 0 ∷ replicate 4 0 ∷ replicate 140 0 ∷ []

-- the values that a disk's type has: a serial of 16 bytes, and a number of 64 bits
pub record IsDisk (disk : NewDisk) : Type 0 where
  pub serial : length disk.serial.0 ≡ 16
  pub sectors : disk.sectors < 2 ^ 64

-- a disk's record: of status 2, configured (CONFIGURED_DISK)
abbrev pub disk_part : NewDisk → Part
disk_part disk =
    disk.serial.0 ∷ low_half disk.sectors ∷ replicate 4 0 ∷ little_bytes 4 2 ∷ replicate 4 0 ∷ high_half disk.sectors
    ∷ replicate 12 0 ∷ []

-- a volume's record: its name, `Volume0` or `Volume1`, and its size
abbrev pub device_part : (number size : ℕ) → Part
device_part number size =
    (codes "Volume" ++ (0x30 + number) ∷ replicate 9 0) ∷ low_half size ∷ high_half size
    ∷ replicate 4 0 ∷ replicate 22 0
    ∷ replicate 1 0 ∷ replicate 29 0 ∷ []

-- the byte of a level, and in how many sets of one copy each its disks are (num_domains)
abbrev pub level_byte : Level → ℕ
level_byte One = 1
level_byte Five = 5
level_byte Ten = 1

abbrev pub domain_count : Level → ℕ
domain_count One = 2
domain_count Five = 1
domain_count Ten = 2

-- a map: the volume lies from sector `pba` on with so many rows, is normal, and no disk has failed
abbrev pub map_part : (volume : NewVolume) (pba rows count : ℕ) → Part
map_part volume pba rows count =
    let stripes = rows / volume.strip in
    low_half pba ∷ low_half rows ∷ low_half stripes ∷ little_bytes 2 volume.strip ∷ (0 ∷ [])
    ∷ (level_byte volume.level ∷ []) ∷ (count ∷ []) ∷ (domain_count volume.level ∷ []) ∷ (0xFF ∷ []) ∷ (1 ∷ [])
    ∷ high_half pba ∷ high_half rows ∷ high_half stripes ∷ replicate 16 0 ∷ []

-- the entries of the slots: slot k has the disk of record k
abbrev pub entries_part : ℕ → Part
entries_part count = map (λ k. little_bytes 4 k) (range_with_len 0 count)

-- a volume of this number over so many disks, from sector `pba` on
abbrev pub created_volume : (number pba : ℕ) → NewVolume → ℕ → Volume
created_volume number pba volume count = record {
  device = device_part number volume.size;
  state = blank_part state_lengths;
  maps = record { fields = map_part volume pba (rows_over volume count) count; entries = entries_part count } ∷ [];
}

-- the second volume lies behind the first
abbrev pub second_volume : ℕ → Option NewVolume → ℕ → List Volume
second_volume pba None count = []
second_volume pba (Some volume) count = created_volume 1 pba volume count ∷ []

abbrev pub created_volumes : NewContainer → ℕ → List Volume
created_volumes made count =
    created_volume 0 0 made.first count ∷ second_volume (rows_over made.first count) made.second count

-- how many volumes there are
abbrev pub second_count : Option NewVolume → ℕ
second_count None = 0
second_count (Some volume) = 1

abbrev pub volume_count : NewContainer → ℕ
volume_count made = 1 + second_count made.second

-- how many bytes the block takes: the header, the records, and each volume with its one map and the map's entries
abbrev pub created_size : (disks volumes : ℕ) → ℕ
created_size disks volumes = 216 + 48 * disks + volumes * (160 + 4 * disks)

-- the block, with this checksum and this number of the family
unfoldable pub block_with : (sum family : ℕ) → NewContainer → List NewDisk → Block
block_with sum family made disks =
    let count = length disks in
    record {
      header = header_part sum (created_size count (volume_count made)) family count (volume_count made);
      disks = map disk_part disks;
      volumes = created_volumes made count;
      gap = [];
      tail = [];
    }

-- the number of the family: the given one, or the sum of the block that has none yet
unfoldable pub created_family : NewContainer → List NewDisk → ℕ
created_family made disks = unwrap_or made.family (block_sum (bytes_of (block_with 0 0 made disks)))

-- the block with its number of the family, and with the checksum that it then has
unfoldable pub created_block : NewContainer → List NewDisk → Block
created_block made disks =
    let family = created_family made disks in
    block_with (block_sum (bytes_of (block_with 0 family made disks))) family made disks

unfoldable pub created_bytes : NewContainer → List NewDisk → List ℕ
created_bytes made disks = bytes_of (created_block made disks)

-- a container can be made over these disks: they are as many as its levels take, each has a serial of its own, and room
-- for the rows and for metadata
pub record CanCreate (made : NewContainer) (disks : List NewDisk) : Type 0 where
  pub fits : container_fits made (length disks) ≡ true
  pub apart : AreApart (map (λ (d : NewDisk). d.serial.0) disks)
  pub room : All (λ (d : NewDisk). total_rows made (length disks) + METADATA_SECTORS ≤ d.sectors) disks
