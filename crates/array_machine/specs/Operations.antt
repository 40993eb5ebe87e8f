-- What an operation of the script names: its volume, the place of its sector, its value. Source: this project's own.
use Rattle.std.specs.Prelude.{ℕ, ◌+◌, Bool, true, false, List, filter, length, Option, Some, None}
use Rattle.std.specs.List.{range_with_len}
use Rattle.units.specs.declared.disk.Sector.{Sector}
use Rattle.array_model.specs.declared.script.Op.{Op}
use Rattle.array_model.specs.declared.script.OpKind.{OpKind}
use Rattle.array_model.specs.declared.script.OpKind.TheVariants.{Write, Read, Whole}
use Rattle.array_model.specs.Script.{kind_at, is_of_client, sector_of}
use Rattle.array_model.specs.Placement.{Shape, Placement, placement_of}
use Rattle.array_machine.specs.Setting.{Setting}

-- the operations of a client, in order
abbrev pub ops_of : List Op → ℕ → List ℕ
ops_of ops k = filter (is_of_client ops k) (range_with_len 0 (length ops))

abbrev pub volume_in : Option OpKind → ℕ
volume_in None = 0
volume_in (Some (Write v s value)) = v.0
volume_in (Some (Read v s)) = v.0
volume_in (Some (Whole v)) = v.0

abbrev pub volume_of : Setting → ℕ → ℕ
volume_of S i = volume_in (kind_at S.asked.ops i)

abbrev pub shape_of : Setting → ℕ → Shape
shape_of S v = S.start.words.shape S.start.newest v

abbrev pub sector_in : Option OpKind → ℕ
sector_in None = 0
sector_in (Some (Write v s value)) = s
sector_in (Some (Read v s)) = s
sector_in (Some (Whole v)) = 0

-- where the sector of operation i lies, if the volume has it
abbrev pub place_at : Setting → ℕ → Option Placement
place_at S i = placement_of (shape_of S (volume_of S i)) (sector_in (kind_at S.asked.ops i))

abbrev pub place_or : Option Placement → Placement
place_or None = record { main = 0; other = 0; row = 0 }
place_or (Some place) = place

abbrev pub the_place : Setting → ℕ → Placement
the_place S i = place_or (place_at S i)

-- the row of operation i, as a place on each member
abbrev pub place_on : Setting → ℕ → ℕ
place_on S i = (shape_of S (volume_of S i)).pba + (the_place S i).row

abbrev pub value_in : Option OpKind → Sector
value_in None = sector_of 0
value_in (Some (Write v s value)) = sector_of value
value_in (Some (Read v s)) = sector_of 0
value_in (Some (Whole v)) = sector_of 0

abbrev pub value_at : Setting → ℕ → Sector
value_at S i = value_in (kind_at S.asked.ops i)

abbrev pub is_write_kind : Option OpKind → Bool
is_write_kind None = false
is_write_kind (Some (Write v s value)) = true
is_write_kind (Some (Read v s)) = false
is_write_kind (Some (Whole v)) = false

abbrev pub is_write : Setting → ℕ → Bool
is_write S i = is_write_kind (kind_at S.asked.ops i)
