-- Edits of a metadata block. On its bytes each edit puts other bytes into one field and leaves all others; on its parts
-- the block has that field alone changed.
-- Source: generation_num, mpb_size and check_sum of struct imsm_super and dirty of struct imsm_vol, of super-intel.c.
use Rattle.std.specs.Prelude.{ℕ, zero, suc, ◌+◌, ◌*◌, ◌/◌, Bool, if◌then◌else◌, List, [], ◌∷◌, ◌++◌, length, take, replicate, slice_set}
use Rattle.byteorder.specs.Endian.{little_bytes}
use Rattle.units.specs.declared.bounds.TheConstants.{SECTOR_BYTES}
use Rattle.imsm_base.specs.Fields.{Part, number_at, with_number_at}
use Rattle.imsm_base.specs.Layout.{Block, Volume, dirty_byte_of}
use Rattle.imsm_base.specs.Parts.{volumes_in, volumes_room, behind_disks}
use Rattle.imsm_base.specs.Whole.{block_sum}

-- ON THE BYTES

abbrev pub with_generation : List ℕ → ℕ → List ℕ
with_generation bytes g = with_number_at 4 0x2c g bytes

-- the place of a volume's dirty byte, 90 bytes into the volume
abbrev pub dirty_place : List ℕ → ℕ → ℕ
dirty_place bytes v = 216 + 48 * number_at 1 0x38 bytes + volumes_room (volumes_in v (behind_disks bytes)) + 90

-- a byte with its lowest bit set or cleared, and the other bits as they are
abbrev pub with_lowest_bit : ℕ → Bool → ℕ
with_lowest_bit byte on = byte / 2 * 2 + (if on then 1 else 0)

abbrev pub with_dirty : List ℕ → ℕ → Bool → List ℕ
with_dirty bytes v on =
    let at = dirty_place bytes v in
    with_number_at 1 at (with_lowest_bit (number_at 1 at bytes) on) bytes

-- the size is right, and the checksum too
abbrev pub sized : List ℕ → List ℕ
sized bytes = with_number_at 4 0x24 (length bytes) bytes

abbrev pub sealed : List ℕ → List ℕ
sealed bytes = with_number_at 4 0x20 (block_sum (sized bytes)) (sized bytes)

-- the block's first sector, with zeros behind the block's end
abbrev pub first_sector : List ℕ → List ℕ
first_sector bytes = take SECTOR_BYTES (bytes ++ replicate SECTOR_BYTES 0)

-- ON THE PARTS

abbrev pub with_field : ℕ → List ℕ → Part → Part
with_field k bytes part = slice_set part k bytes

-- the block with other bytes in field k of its header
abbrev pub with_header_field : ℕ → List ℕ → Block → Block
with_header_field k bytes b = record b { header = with_field k bytes b.header }

abbrev pub block_with_generation : Block → ℕ → Block
block_with_generation b g = with_header_field 5 (little_bytes 4 g) b

abbrev pub volume_with_dirty : Bool → Volume → Volume
volume_with_dirty on v =
    record v { state = with_field 4 (little_bytes 1 (with_lowest_bit (dirty_byte_of v) on)) v.state }

-- volume number k alone is changed
abbrev pub volumes_with_dirty : ℕ → Bool → List Volume → List Volume
volumes_with_dirty k on [] = []
volumes_with_dirty zero on (v ∷ vs) = volume_with_dirty on v ∷ vs
volumes_with_dirty (suc k) on (v ∷ vs) = v ∷ volumes_with_dirty k on vs

abbrev pub block_with_dirty : Block → ℕ → Bool → Block
block_with_dirty b v on = record b { volumes = volumes_with_dirty v on b.volumes }

abbrev pub block_with_size : Block → ℕ → Block
block_with_size b size = with_header_field 3 (little_bytes 4 size) b

abbrev pub block_with_checksum : Block → ℕ → Block
block_with_checksum b sum = with_header_field 2 (little_bytes 4 sum) b

-- the block that a seal makes of one of so many bytes, with this sum
abbrev pub block_sealed : Block → ℕ → ℕ → Block
block_sealed b size sum = block_with_checksum (block_with_size b size) sum
