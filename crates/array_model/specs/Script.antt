-- Words of a script: what its operations ask for. Source: this project's own.
use Rattle.std.specs.Prelude.{ℕ, ◌==◌, ◌&&◌, Bool, true, false, List, slice_get, Option, Some, None, if◌then◌else◌}
use Rattle.std.specs.List.{repeat}
use Rattle.byteorder.specs.Endian.{big_bytes}
use Rattle.units.specs.declared.disk.Sector.{Sector}
use Rattle.array_model.specs.declared.script.Op.{Op}
use Rattle.array_model.specs.declared.script.OpKind.{OpKind}
use Rattle.array_model.specs.declared.script.OpKind.TheVariants.{Write, Read, Whole}
use Rattle.array_model.specs.declared.script.Ask.{Ask}
use Rattle.array_model.specs.declared.script.Ask.TheVariants.{Add, Rename, Remove}

-- what a script asks for, but for its turns
pub record Asked : Type 0 where
  pub ops : List Op
  pub asks : List Ask

-- the sector that a write brings: eight bytes, 64 times over
abbrev pub sector_of : ℕ → Sector
sector_of value = record { 0 = repeat 64 (big_bytes 8 value) }

-- a sector of a volume, and what a write brings there
pub record VolumeWrite : Type 0 where
  pub volume : ℕ
  pub sector : ℕ
  pub value : Sector

abbrev pub write_of : OpKind → Option VolumeWrite
write_of (Write v s value) = Some (record { volume = v.0; sector = s; value = sector_of value })
write_of (Read v s) = None
write_of (Whole v) = None

abbrev pub kind_in : Option Op → Option OpKind
kind_in None = None
kind_in (Some op) = Some op.kind

-- what op i asks for
abbrev pub kind_at : List Op → ℕ → Option OpKind
kind_at ops i = kind_in (slice_get ops i)

-- where op i writes, and what, if it is a write
abbrev pub write_in : Option OpKind → Option VolumeWrite
write_in None = None
write_in (Some kind) = write_of kind

abbrev pub write_at : List Op → ℕ → Option VolumeWrite
write_at ops i = write_in (kind_at ops i)

abbrev pub is_of_client_in : ℕ → Option Op → Bool
is_of_client_in c None = false
is_of_client_in c (Some op) = op.client == c

-- op i is of client c
abbrev pub is_of_client : List Op → ℕ → ℕ → Bool
is_of_client ops c i = is_of_client_in c (slice_get ops i)

abbrev pub is_at : ℕ → ℕ → Option VolumeWrite → Bool
is_at v s None = false
is_at v s (Some t) = (t.volume == v) && (t.sector == s)

-- op i is a write to sector s of volume v
abbrev pub is_write_to : List Op → ℕ → ℕ → ℕ → Bool
is_write_to ops v s i = is_at v s (write_at ops i)

abbrev pub is_in_volume : ℕ → Option VolumeWrite → Bool
is_in_volume v None = false
is_in_volume v (Some t) = t.volume == v

-- op i is a write to volume v
abbrev pub is_write_in : List Op → ℕ → ℕ → Bool
is_write_in ops v i = is_in_volume v (write_at ops i)

-- the sector of a volume that an operation names
abbrev pub names_sector : ℕ → OpKind → Option ℕ
names_sector v (Write w s value) = if w.0 == v then Some s else None
names_sector v (Read w s) = if w.0 == v then Some s else None
names_sector v (Whole w) = None

-- an ask to make a disk a spare
abbrev pub is_add : Ask → Bool
is_add (Add d) = true
is_add (Rename v name) = false
is_add (Remove d) = false
