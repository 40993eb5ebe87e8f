-- What the sectors of a mirror hold when its bank is opened: what all copies of a sector hold. Source: this project's
-- own.
use Rattle.std.specs.Prelude.{◌≡◌, ℕ, ◌+◌, ◌<◌, not, Bool, false, [], length, slice_get, slice_index_or, Some}
use Rattle.std.specs.List.{list_any}
use Rattle.units.specs.declared.disk.Sector.{Sector}
use Rattle.imsm_base.specs.Layout.{Volume, volume_size_of, pba_of}
use Rattle.imsm_base.specs.Parts.{block_in}
use Rattle.imsm_base.specs.Volumes.{first_map}
use Rattle.array_model.specs.Blocks.{sector_eq}
use Rattle.block_meaning.specs.Reading.{block_words}
use Rattle.first_opening.specs.Opened.{Opened, newest_of, block_of, numbers_of}

-- each sector of a volume that isn't unsure stands on all disks, and is the volume's content
abbrev pub AreCopies : Opened → Volume → (content : ℕ → Sector) → (unsure : ℕ → Bool) → Type 0
AreCopies o v content unsure =
    (s d : ℕ) → s < volume_size_of v → unsure s ≡ false → d < length o.serials
    → slice_get (slice_index_or o.contents d []) (pba_of (first_map v) + s) ≡ Some (content s)

-- so do those of each volume of the block
abbrev pub HoldsCopies : Opened → (content : ℕ → ℕ → Sector) → (unsure : ℕ → ℕ → Bool) → Type 0
HoldsCopies o content unsure =
    (number : ℕ) (v : Volume) → slice_get (block_in (block_of o)).volumes number ≡ Some v
    → AreCopies o v (content number) (unsure number)

-- sector s of a volume as disk d holds it
abbrev pub copy_on : Opened → (d volume s : ℕ) → Sector
copy_on o d volume s =
    slice_index_or (slice_index_or o.contents d []) ((block_words.shape (newest_of o) volume).pba + s)
    (record { 0 = [] })

abbrev pub first_copy : Opened → (volume s : ℕ) → Sector
first_copy o volume s = copy_on o 0 volume s

-- some disk holds another sector than the first
abbrev pub differs : Opened → (volume s : ℕ) → Bool
differs o volume s = list_any (λ d. not (sector_eq (first_copy o volume s) (copy_on o d volume s))) (numbers_of o)
