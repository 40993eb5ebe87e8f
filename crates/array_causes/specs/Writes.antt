-- Writes to a sector that a volume has. Source: this project's own.
use Rattle.std.specs.Prelude.{ℕ, ◌==◌, ◌&&◌, Bool, false, List, Option, Some, None, is_some}
use Rattle.array_model.specs.declared.script.Op.{Op}
use Rattle.array_model.specs.Script.{VolumeWrite, write_at}
use Rattle.array_model.specs.Placement.{placement_of}
use Rattle.array_model.specs.Start.{Start}

abbrev pub is_there : Start → ℕ → Option VolumeWrite → Bool
is_there start v None = false
is_there start v (Some t) =
    (t.volume == v) && is_some (placement_of (start.words.shape start.newest v) t.sector)

-- op i is a write to volume v, and the volume has its sector
abbrev pub is_write_there : Start → List Op → ℕ → ℕ → Bool
is_write_there start ops v i = is_there start v (write_at ops i)
