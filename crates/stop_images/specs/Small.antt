-- Two disks of two sectors, one write and one sync, for the examples. Source: this project's own.
use Rattle.std.specs.Prelude.{ℕ, ◌==◌, true, if◌then◌else◌, List, [], ◌∷◌}
use Rattle.units.specs.declared.disk.Sector.{Sector}
use Rattle.device_log.specs.Log.{Call, Write, Sync}
use Rattle.array_model.specs.Start.{Disks, disks_of}
use Rattle.sound_images.specs.Images.{Image}

-- what the first disk held, and the second
abbrev pub two_disks : (a b c d : Sector) → Disks
two_disks a b c d =
    disks_of ((1 ∷ []) ∷ (2 ∷ []) ∷ []) (2 ∷ 2 ∷ []) ((a ∷ b ∷ []) ∷ (c ∷ d ∷ []) ∷ [])

-- both sectors of the first disk are written, and it is synced
abbrev pub write : (x y : Sector) → Call
write x y = record { disk = 0; what = Write 0 (x ∷ y ∷ []) 2; went = true }

abbrev pub sync : Call
sync = record { disk = 0; what = Sync; went = true }

abbrev pub image : (serial : ℕ) (first second : Sector) → Image
image serial first second =
    record { serial = serial ∷ []; sectors = 2; at = λ p. if p == 0 then first else second }

-- these sectors on the first disk, and these on the second
abbrev pub images : (a b c d : Sector) → List Image
images a b c d = image 1 a b ∷ image 2 c d ∷ []
