-- That no block stands on an image by chance: torn sectors might spell a whole block that no one wrote. Source: this
-- project's own. No law can show it, so that it is taken as given of the images that a stop leaves.
use Rattle.std.specs.Prelude.{◌≡◌, ℕ, true, List, slice_get, Some}
use Rattle.device_log.specs.Log.{Call}
use Rattle.array_model.specs.Blocks.{Words}
use Rattle.array_model.specs.Candidates.{In, disk_after}
use Rattle.array_model.specs.Start.{Disks}
use Rattle.sound_images.specs.Images.{Image, block_on}

-- each whole block that stands on the image of a disk is a candidate of that disk
pub record HoldCandidates (W : Words) (disks : Disks) (log : List Call) (images : List Image) : Type 0 where
  pub each : (d : ℕ) (i : Image) → slice_get images d ≡ Some i
      → W.is_whole i.serial i.sectors (block_on W i) ≡ true
      → In (block_on W i) (disk_after W disks log d).candidates
