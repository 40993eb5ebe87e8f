-- A small volume for the examples: 32 sectors in strips of 8, on 16 rows. Source: this project's own.
use Rattle.std.specs.Prelude.{ℕ, Some}
use Rattle.units.specs.declared.volume.Level.{Level}
use Rattle.array_model.specs.Placement.{Shape}

abbrev pub small_shape : Level → ℕ → Shape
small_shape level members = record { level = Some level; members = members; size = 32; strip = 8; pba = 0; rows = 16 }
