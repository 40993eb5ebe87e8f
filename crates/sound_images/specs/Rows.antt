-- What the disks of a container hold of a volume's rows: what is given for a sector, and when a slot is right in a row.
-- Source: the levels of the kernel's md.rst: the slots of a row of RAID 5 have the xor zero, those of a mirror are
-- copies. That of two copies the first in sync is read is this project's own.
use Rattle.std.specs.Prelude.{◌≡◌, ℕ, ◌+◌, if◌then◌else◌, List, [], ◌∷◌, map, find, Option, Some, None, bytes_eq}
use Rattle.std.specs.Option.{option_map_or}
use Rattle.units.specs.declared.disk.Sector.{Sector}
use Rattle.units.specs.declared.volume.Level.{Level}
use Rattle.units.specs.declared.volume.Level.TheVariants.{One, Five, Ten}
use Rattle.array_model.specs.AnswerLaw.{xor_onto}
use Rattle.array_model.specs.Blocks.{Laid, Words}
use Rattle.array_model.specs.Placement.{Placement, SlotPair, others}
use Rattle.raid_map.specs.Layouts.{mirror_pair}
use Rattle.sound_images.specs.Images.{Image}
use Rattle.sound_images.specs.Volumes.{slot_at}

-- the disk of a serial
abbrev pub disk_with : List ℕ → List Image → Option Image
disk_with serial images = find (λ i. bytes_eq i.serial serial) images

-- what stands in a row of a slot of volume v, of a block; nothing, where the slot's disk isn't there
abbrev pub stands_in : Words → List Image → Laid → (v row slot : ℕ) → Sector
stands_in W images m v row slot =
    option_map_or (λ i. i.at ((W.shape m v).pba + row)) (disk_with (slot_at W m v slot).serial images)
    (record { 0 = [] })

-- the xor of sectors, as bytes; of one sector, its bytes
abbrev pub xor_of : List Sector → List ℕ
xor_of [] = []
xor_of (x ∷ xs) = xor_onto x xs

-- of what stands in a row of these slots
abbrev pub xor_in : Words → List Image → Laid → (v row : ℕ) → List ℕ → List ℕ
xor_in W images m v row slots = xor_of (map (stands_in W images m v row) slots)

-- of two copies, the first that is in sync
abbrev pub first_in_sync : Words → Laid → ℕ → SlotPair → ℕ
first_in_sync W m v pair = if (slot_at W m v pair.main).is_in_sync then pair.main else pair.other

-- GIVEN

-- the slots that a sector is read from: the first copy in sync; at level five its own slot, or all others of the row
abbrev pub slots_read_at : Option Level → Words → Laid → ℕ → Placement → List ℕ
slots_read_at None W m v lies = []
slots_read_at (Some One) W m v lies = first_in_sync W m v (record { main = lies.main; other = lies.other }) ∷ []
slots_read_at (Some Five) W m v lies =
    if (slot_at W m v lies.main).is_in_sync then lies.main ∷ [] else others (W.shape m v).members lies.main
slots_read_at (Some Ten) W m v lies = first_in_sync W m v (record { main = lies.main; other = lies.other }) ∷ []

abbrev pub slots_read : Words → Laid → ℕ → Placement → List ℕ
slots_read W m v lies = slots_read_at (W.shape m v).level W m v lies

-- what is given for a sector: the xor of what stands on the slots that it is read from
abbrev pub given : Words → List Image → Laid → ℕ → Placement → List ℕ
given W images m v lies = xor_in W images m v lies.row (slots_read W m v lies)

-- RIGHT

-- the slots that tell what a slot is to hold in a row: the first in sync of its pair, or all others
abbrev pub slots_telling_at : Option Level → Words → Laid → (v slot : ℕ) → List ℕ
slots_telling_at None W m v slot = []
slots_telling_at (Some One) W m v slot = first_in_sync W m v (mirror_pair slot) ∷ []
slots_telling_at (Some Five) W m v slot = others (W.shape m v).members slot
slots_telling_at (Some Ten) W m v slot = first_in_sync W m v (mirror_pair slot) ∷ []

-- a slot is right in a row: it holds what those tell
abbrev pub IsRight : Words → List Image → Laid → (v row slot : ℕ) → Type 0
IsRight W images m v row slot =
    (stands_in W images m v row slot).0 ≡ xor_in W images m v row (slots_telling_at (W.shape m v).level W m v slot)
