-- Sound images: disks, present or not, from which any of them can be put together again without loss. Source: this
-- project's own.
use Rattle.std.specs.Prelude.{◌≡◌, ℕ, ◌<◌, ◌&&◌, Bool, true, false, List, Some, ◌⊎◌}
use Rattle.units.specs.declared.disk.Sector.{Sector}
use Rattle.array_model.specs.Blocks.{Laid, Words}
use Rattle.array_model.specs.Placement.{Placement}
use Rattle.container.specs.Volumes.{has_parity}
use Rattle.raid_map.specs.Layouts.{has_copy, sector_placement}
use Rattle.sound_images.specs.Images.{Image, HaveOwnSerials, IsHeld, IsHeldOn, IsNewestOf, IsComplete, AreOneContainer}
use Rattle.sound_images.specs.Volumes.{slot_at, is_degraded, has_failed_disk, Starts}
use Rattle.sound_images.specs.Rows.{stands_in, given, IsRight}

-- OLD BLOCKS

-- a block is below the mark, or below one that a disk holds
abbrev pub IsOld : Words → List Image → (mark : ℕ) → Laid → Type 0
IsOld W images mark m =
    (W.generation m.anchor < mark)
    ⊎ ((a : Laid) × IsHeld W images a × (W.generation m.anchor < W.generation a.anchor))

-- a disk that the block expects holds no whole block of a container, or one of a higher generation
abbrev pub IsOvertaken : Words → List Image → Laid → Type 0
IsOvertaken W images m =
    (serial : List ℕ) × (W.expects m serial ≡ true)
    × ((a : Laid) → IsHeldOn W images serial a → W.generation m.anchor < W.generation a.anchor)

-- ROWS

-- What the disks hold of a volume that the newest block starts. Unless a sector is unsure, each slot in sync that holds
-- it, as data or as mirror, holds its content, and its content is given for it. Where the volume isn't unfinished, each
-- slot in sync is right in every row. In each row that a pass has left behind, each slot on an expected disk is right.
-- Of a parity volume the last two are asked only where all slots are in sync, and where all are on expected disks,
-- since a row's other slots tell only together what one is to hold. They are asked of the rows of unsure sectors too.
pub record SoundRows (W : Words) (images : List Image) (content : ℕ → ℕ → Sector) (unsure : ℕ → ℕ → Bool)
    (m : Laid) (v : ℕ) : Type 0 where
  pub copies : (s : ℕ) (lies : Placement) → sector_placement (W.shape m v) s ≡ Some lies → unsure v s ≡ false
      → (slot : ℕ) → has_copy (W.shape m v).level lies slot ≡ true → (slot_at W m v slot).is_in_sync ≡ true
      → stands_in W images m v lies.row slot ≡ content v s
  pub gives : (s : ℕ) (lies : Placement) → sector_placement (W.shape m v) s ≡ Some lies → unsure v s ≡ false
      → given W images m v lies ≡ (content v s).0
  pub finished : W.is_unfinished m v ≡ false → (has_parity (W.shape m v).level && is_degraded W m v) ≡ false
      → (row slot : ℕ) → row < (W.shape m v).rows → (slot_at W m v slot).is_in_sync ≡ true
      → IsRight W images m v row slot
  pub behind_pass : (has_parity (W.shape m v).level && has_failed_disk W m v) ≡ false
      → (row slot : ℕ) → row < W.pass_start m v → (slot_at W m v slot).is_expected ≡ true
      → IsRight W images m v row slot

-- THE IMAGES

-- Disks of one container. Of each block that is old a disk is gone or has moved on, so that nothing is started by it.
-- Where each disk that the newest of all expects holds a block, the rows of each volume that it starts are sound.
pub record SoundImages (W : Words) (bytes : Laid → List ℕ) (images : List Image) (content : ℕ → ℕ → Sector)
    (unsure : ℕ → ℕ → Bool) (mark : ℕ) : Type 0 where
  pub serials : HaveOwnSerials images
  pub one_container : AreOneContainer W bytes images
  pub old : (m : Laid) → IsHeld W images m → IsOld W images mark m → IsOvertaken W images m
  pub rows : (m : Laid) → IsNewestOf W images m → IsComplete W images m
      → (v : ℕ) → Starts W m v → SoundRows W images content unsure m v
