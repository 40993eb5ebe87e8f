-- Disks as they may be found, and the blocks of containers that they hold. Source: super-intel.c chooses among blocks
-- of one family by their generations (imsm_thunderdome); that equal generations have equal bytes is this project's own.
use Rattle.std.specs.Prelude.{◌≡◌, ℕ, ◌≤◌, true, List, [], ◌∷◌, map, ◌⊎◌}
use Rattle.units.specs.declared.disk.Sector.{Sector}
use Rattle.device_log.specs.Cells.{resting}
use Rattle.imsm_base.specs.Whole.{AreApart}
use Rattle.array_model.specs.Blocks.{Laid, Words, is_container}
use Rattle.array_model.specs.Candidates.{standing}

-- DISKS

-- a disk: its serial, its sectors, and what stands at each place
pub record Image : Type 0 where
  pub serial : List ℕ
  pub sectors : ℕ
  pub at : ℕ → Sector

-- a disk is one of these
abbrev pub Among : Image → List Image → Type 0
Among i [] = ⊥
Among i (j ∷ images) = (i ≡ j) ⊎ Among i images

-- each of the first is one of the second, whatever their order
abbrev pub AreAmong : List Image → List Image → Type 0
AreAmong present images = (i : Image) → Among i present → Among i images

-- no two have one serial
abbrev pub HaveOwnSerials : List Image → Type 0
HaveOwnSerials images = AreApart (map (λ i. i.serial) images)

-- BLOCKS

-- the block at the end of a disk
abbrev pub block_on : Words → Image → Laid
block_on W i = standing W i.sectors (λ place. resting (i.at place))

-- one of these disks holds this block, a whole one of a container
pub record IsHeld (W : Words) (images : List Image) (m : Laid) : Type 0 where
  pub disk : Image
  pub among : Among disk images
  pub stands : block_on W disk ≡ m
  pub whole : W.is_whole disk.serial disk.sectors m ≡ true
  pub container : is_container W m ≡ true

-- the disk of this serial does
pub record IsHeldOn (W : Words) (images : List Image) (serial : List ℕ) (m : Laid) : Type 0 where
  pub held : IsHeld W images m
  pub same : held.disk.serial ≡ serial

-- of the blocks that these disks hold none has a higher generation
pub record IsNewestOf (W : Words) (images : List Image) (m : Laid) : Type 0 where
  pub held : IsHeld W images m
  pub highest : (a : Laid) → IsHeld W images a → W.generation a.anchor ≤ W.generation m.anchor

-- each disk that the block expects holds a whole block of a container, this one or another
abbrev pub IsComplete : Words → List Image → Laid → Type 0
IsComplete W images m = (serial : List ℕ) → W.expects m serial ≡ true → (a : Laid) × IsHeldOn W images serial a

-- The disks are of one container: the blocks that they hold are of one family, and those of one generation have the
-- same bytes. A block's bytes are given apart, since behind its end its last sector has others.
pub record AreOneContainer (W : Words) (bytes : Laid → List ℕ) (images : List Image) : Type 0 where
  pub family : (a b : Laid) → IsHeld W images a → IsHeld W images b → W.family a ≡ W.family b
  pub same : (a b : Laid) → IsHeld W images a → IsHeld W images b
      → W.generation a.anchor ≡ W.generation b.anchor → bytes a ≡ bytes b
