-- How the bytes of a block lie on a disk: its first sector is the anchor, and the others are the extended sectors, in
-- order, with zeros behind the end of the bytes. Source: store_imsm_mpb of super-intel.c.
use Rattle.std.specs.Prelude.{ℕ, zero, suc, List, [], ◌∷◌, length, drop}
use Rattle.units.specs.declared.bounds.TheConstants.{SECTOR_BYTES}
use Rattle.units.specs.declared.disk.Sector.{Sector}
use Rattle.units.specs.Places.{extended_count}
use Rattle.imsm_base.specs.Edits.{first_sector}
use Rattle.array_model.specs.Blocks.{Laid}

-- so many sectors, from the front of the bytes on
abbrev pub sectors_in : ℕ → List ℕ → List Sector
sectors_in zero bytes = []
sectors_in (suc n) bytes = record { 0 = first_sector bytes } ∷ sectors_in n (drop SECTOR_BYTES bytes)

-- a block of these bytes
abbrev pub laid_of : List ℕ → Laid
laid_of bytes = record {
  anchor = record { 0 = first_sector bytes };
  extended = sectors_in (extended_count (length bytes)) (drop SECTOR_BYTES bytes);
}
