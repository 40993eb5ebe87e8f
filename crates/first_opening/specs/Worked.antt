-- A bank that opens: two disks of 4,096 sectors that hold the container of the example, any bytes behind its block, and
-- zeros. Source: this project's own.
use Rattle.std.specs.Prelude.{ℕ, List, [], ◌∷◌, ◌++◌, replicate}
use Rattle.units.specs.declared.bounds.TheConstants.{SECTOR_BYTES}
use Rattle.units.specs.declared.disk.Sector.{Sector}
use Rattle.imsm_base.specs.Vector.{mirror_bytes}
use Rattle.first_opening.specs.Opened.{Opened}

abbrev pub zeros : Sector
zeros = record { 0 = replicate SECTOR_BYTES 0 }

-- the block, and what is behind its end
abbrev pub mirror_anchor : (behind : List ℕ) → Sector
mirror_anchor behind = record { 0 = mirror_bytes ++ behind }

-- zeros, with the anchor in the second to last sector
abbrev pub mirror_disk : (behind : List ℕ) → List Sector
mirror_disk behind = replicate 4094 zeros ++ mirror_anchor behind ∷ zeros ∷ []

-- a serial of one letter
abbrev pub serial_of_letter : ℕ → List ℕ
serial_of_letter letter = letter ∷ replicate 15 0

-- the block is read from the first disk
abbrev pub mirror_opened : (behind other : List ℕ) → Opened
mirror_opened behind other = record {
  serials = serial_of_letter 65 ∷ serial_of_letter 66 ∷ [];
  sizes = 4096 ∷ 4096 ∷ [];
  contents = mirror_disk behind ∷ mirror_disk other ∷ [];
  anchor = mirror_anchor behind;
}
