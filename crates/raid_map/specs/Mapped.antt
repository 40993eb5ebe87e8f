-- A geometry as a shape that places sectors, and which geometries have a map. Source: the levels and the sizes of
-- imsm_map and imsm_dev in super-intel.c that this project takes.
use Rattle.std.specs.Prelude.{◌≡◌, ℕ, ◌+◌, ◌*◌, ◌/◌, ◌%◌, ◌^◌, ◌<◌, ◌≤◌, Some, ◌⊎◌}
use Rattle.units.specs.declared.bounds.TheConstants.{MAX_VOLUME_SECTORS}
use Rattle.units.specs.declared.volume.Geometry.{Geometry}
use Rattle.units.specs.declared.volume.Level.{Level}
use Rattle.units.specs.declared.volume.Level.TheVariants.{One, Five, Ten}
use Rattle.units.specs.Levels.{rows_of}
use Rattle.array_model.specs.Placement.{Shape, Placement}
use Rattle.raid_map.specs.declared.places.Place.{Place}

abbrev pub shape_of : Geometry → Shape
shape_of g = record {
  level = Some g.level;
  members = g.members;
  size = g.size;
  strip = g.strip;
  pba = g.pba;
  rows = g.rows;
}

abbrev pub placement_told : Place → Placement
placement_told p = record { main = p.main.0; other = p.other.0; row = p.row }

-- how many members a level takes
abbrev pub FitsLevel : Level → ℕ → Type 0
FitsLevel One n = n ≡ 2
FitsLevel Five n = (3 ≤ n) × (n ≤ 8)
FitsLevel Ten n = n ≡ 4

-- As many members as the level takes, some sectors and not too many, a strip where there are strips, the rows that the
-- size takes, and sectors of a member that have numbers.
pub record IsMapped (g : Geometry) : Type 0 where
  pub members : FitsLevel g.level g.members
  pub some : 1 ≤ g.size
  pub most : g.size ≤ MAX_VOLUME_SECTORS
  pub strip : (g.level ≡ One) ⊎ (1 ≤ g.strip)
  pub rows : g.rows ≡ rows_of (Some g.level) g.members g.size g.strip
  pub end : g.pba + g.rows < 2 ^ 64

-- BY NUMBERS

-- the sector in this row of a pair of slots, of so many pairs: strips fill a stripe one after the other
abbrev pub sector_number : (pairs strip on row : ℕ) → ℕ
sector_number pairs strip on row = (row / strip * pairs + on) * strip + row % strip
