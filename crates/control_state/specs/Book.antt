-- The blocks that rounds are edited from, and how they lie on a disk. Source: this project's own.
use Rattle.std.specs.Prelude.{◌≡◌, ℕ, ◌<◌, ◌≤◌, List, [], length}
use Rattle.units.specs.declared.bounds.TheConstants.{SECTOR_BYTES}
use Rattle.units.specs.declared.disk.Sector.{Sector}
use Rattle.imsm_base.specs.Fields.{number_at}
use Rattle.imsm_base.specs.Layout.{size_of}
use Rattle.imsm_base.specs.Parts.{block_in}
use Rattle.imsm_codec.specs.Laid.{IsLaid}
use Rattle.array_model.specs.Blocks.{Laid}
use Rattle.block_meaning.specs.Meaning.{bytes_of_laid}

-- the bytes are a block of one sector with a volume, of the size that it says
pub record IsBook (bytes : List ℕ) : Type 0 where
  pub laid : IsLaid bytes
  pub short : length bytes ≤ SECTOR_BYTES
  pub size : size_of (block_in bytes) ≡ length bytes
  pub volume : 0 < number_at 1 57 bytes

-- a block that lies in one sector
abbrev pub laid_at : Sector → Laid
laid_at s = record { anchor = s; extended = [] }

-- the bytes are the block with which a sector begins, whatever follows it there
abbrev pub IsBlockOf : Sector → List ℕ → Type 0
IsBlockOf s bytes = bytes_of_laid (laid_at s) ≡ bytes
