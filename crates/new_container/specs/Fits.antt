-- What can be made over so many disks. Source: this project's own.
use Rattle.std.specs.Prelude.{ℕ, ◌+◌, ◌*◌, ◌%◌, ◌==◌, ◌&&◌, nat_le, Bool, true, Option, Some, None}
use Rattle.units.specs.declared.bounds.TheConstants.{MAX_VOLUME_SECTORS}
use Rattle.units.specs.declared.volume.Level.{Level}
use Rattle.units.specs.declared.volume.Level.TheVariants.{One, Five, Ten}
use Rattle.units.specs.Levels.{data_members, rows_of}
use Rattle.new_container.specs.declared.container.NewContainer.{NewContainer}
use Rattle.new_container.specs.declared.volume.NewVolume.{NewVolume}

-- a volume whose strip and size are in their ranges
abbrev pub is_in_range : NewVolume → Bool
is_in_range v = nat_le 1 v.strip && nat_le v.strip 65535 && nat_le 1 v.size && nat_le v.size MAX_VOLUME_SECTORS

-- the level takes so many disks
abbrev pub takes : Level → ℕ → Bool
takes One count = count == 2
takes Five count = nat_le 3 count && nat_le count 8
takes Ten count = count == 4

-- a size of whole stripes, where a level over so many disks has stripes
abbrev pub is_striped : Level → ℕ → ℕ → ℕ → Bool
is_striped One count strip size = true
is_striped Five count strip size = size % (data_members Five count * strip) == 0
is_striped Ten count strip size = size % (data_members Ten count * strip) == 0

-- a volume that is made over so many disks, a second one, if there is one, and a container
abbrev pub volume_fits : NewVolume → ℕ → Bool
volume_fits v count = is_in_range v && (takes v.level count && is_striped v.level count v.strip v.size)

abbrev pub second_fits : Option NewVolume → ℕ → Bool
second_fits None count = true
second_fits (Some v) count = volume_fits v count

abbrev pub container_fits : NewContainer → ℕ → Bool
container_fits made count = volume_fits made.first count && second_fits made.second count

-- the rows of a volume, of a second one, and of a container, over so many disks
abbrev pub rows_over : NewVolume → ℕ → ℕ
rows_over v count = rows_of (Some v.level) count v.size v.strip

abbrev pub second_rows : Option NewVolume → ℕ → ℕ
second_rows None count = 0
second_rows (Some v) count = rows_over v count

abbrev pub total_rows : NewContainer → ℕ → ℕ
total_rows made count = rows_over made.first count + second_rows made.second count
