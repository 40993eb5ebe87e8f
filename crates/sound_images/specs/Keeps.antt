-- Disks that are put together again: when they are opened, and what an opening keeps. Source: mdadm --incremental
-- (Incremental.c) starts an array when the disks that its newest metadata names are there; the rest is this project's
-- own.
use Rattle.std.specs.Prelude.{◌≡◌, ℕ, ◌≤◌, Bool, true, false, List, Option, Some}
use Rattle.std.specs.List.{AllByRecursion}
use Rattle.units.specs.declared.disk.Sector.{Sector}
use Rattle.array_model.specs.Blocks.{Laid, Words}
use Rattle.array_model.specs.Placement.{Placement}
use Rattle.raid_map.specs.Layouts.{sector_placement}
use Rattle.sound_images.specs.Images.{Image, Among, IsNewestOf, IsComplete, AreOneContainer}
use Rattle.sound_images.specs.Volumes.{slot_at, StartsFrom, Starts}
use Rattle.sound_images.specs.Rows.{slots_read, given}

-- each present disk that the block expects has the sectors that the block's record of it asks for
abbrev pub AreLargeEnough : Words → List Image → Laid → Type 0
AreLargeEnough W present m =
    (i : Image) → Among i present → W.expects m i.serial ≡ true → W.is_whole i.serial i.sectors m ≡ true

-- The disks that are present are opened by this block, with no disk left out that it expects: they are of one
-- container, it is the newest block that they hold, and each disk that it expects is one of them, holds a whole block
-- of a container, and is large enough.
pub record Opens (W : Words) (bytes : Laid → List ℕ) (present : List Image) (m : Laid) : Type 0 where
  pub one_container : AreOneContainer W bytes present
  pub newest : IsNewestOf W present m
  pub complete : IsComplete W present m
  pub large : AreLargeEnough W present m

-- a slot is expected and in sync
pub record IsTrusted (W : Words) (m : Laid) (v slot : ℕ) : Type 0 where
  pub expected : W.expects m (slot_at W m v slot).serial ≡ true
  pub in_sync : (slot_at W m v slot).is_in_sync ≡ true

-- What an opening of the disks that are present keeps, of all disks there are. Its block is the newest of all, and not
-- below the mark. Each slot that a sector of a started volume is read from is expected and in sync. A started volume
-- that is unfinished has a pass from the row where its passes start. What is given for a sector is its content, unless
-- it is unsure.
pub record Keeps (W : Words) (images present : List Image) (content : ℕ → ℕ → Sector) (unsure : ℕ → ℕ → Bool)
    (mark : ℕ) (m : Laid) : Type 0 where
  pub newest : IsNewestOf W images m
  pub marked : mark ≤ W.generation m.anchor
  pub trusted : (v : ℕ) → Starts W m v → (s : ℕ) (lies : Placement) → sector_placement (W.shape m v) s ≡ Some lies
      → AllByRecursion (IsTrusted W m v) (slots_read W m v lies)
  pub resumed : (v : ℕ) (pass : Option ℕ) → StartsFrom W m v pass → W.is_unfinished m v ≡ true
      → pass ≡ Some (W.pass_start m v)
  pub gives : (v : ℕ) → Starts W m v → (s : ℕ) (lies : Placement) → sector_placement (W.shape m v) s ≡ Some lies
      → unsure v s ≡ false → given W present m v lies ≡ (content v s).0
