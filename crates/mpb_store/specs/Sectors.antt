-- The sectors of a metadata block, in the order of its bytes: the anchor, the extended sectors, and zeros.
-- Source: store_imsm_mpb of super-intel.c.
use Rattle.std.specs.Prelude.{ℕ, ◌-◌, ◌*◌, List, ◌++◌, length, map, drop, replicate}
use Rattle.std.specs.List.{flat_map, range_with_len}
use Rattle.units.specs.declared.bounds.TheConstants.{MAX_BLOCK_BYTES, MAX_WRITE_SECTORS, SECTOR_BYTES}
use Rattle.units.specs.declared.disk.Sector.{Sector}
use Rattle.imsm_base.specs.Edits.{first_sector}

-- the bytes of sectors, one behind the other
abbrev pub bytes_in : List Sector → List ℕ
bytes_in sectors = flat_map (λ (s : Sector). s.0) sectors

-- a block's bytes with zeros up to the end of the largest block
abbrev pub filled : List ℕ → List ℕ
filled bytes = bytes ++ replicate (MAX_BLOCK_BYTES - length bytes) 0

-- the sector of a number, with zeros behind the end of the bytes
abbrev pub block_sector : List ℕ → ℕ → Sector
block_sector bytes k = record { 0 = first_sector (drop (SECTOR_BYTES * k) bytes) }

-- all sectors of the largest block
unfoldable pub block_sectors : List ℕ → List Sector
block_sectors bytes = map (block_sector bytes) (range_with_len 0 MAX_WRITE_SECTORS)
