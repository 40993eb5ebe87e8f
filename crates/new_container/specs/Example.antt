-- The container whose block `Vector` of imsm_base writes out: two disks of 4,096 sectors, A and B, and one volume of
-- two copies. Source: this project's own.
use Rattle.std.specs.Prelude.{ℕ, List, [], ◌∷◌, replicate, None}
use Rattle.units.specs.declared.volume.Level.TheVariants.{One}
use Rattle.new_container.specs.declared.container.NewContainer.{NewContainer}
use Rattle.new_container.specs.declared.disk.NewDisk.{NewDisk}

abbrev pub mirror : NewContainer
mirror = record { family = None; first = record { level = One; strip = 128; size = 1024 }; second = None }

abbrev pub disk_of : ℕ → NewDisk
disk_of letter = record { serial = record { 0 = letter ∷ replicate 15 0 }; sectors = 4096 }

abbrev pub mirror_disks : List NewDisk
mirror_disks = disk_of 0x41 ∷ disk_of 0x42 ∷ []
