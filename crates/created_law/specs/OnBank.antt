-- The disks of a bank as it tells them, and the block of a new container on them. Source: this project's own.
use Rattle.std.specs.Prelude.{◌≡◌, ℕ, ◌<◌, true, List, [], length, slice_index, slice_index_or, None}
use Rattle.units.specs.declared.disk.Sector.{Sector}
use Rattle.mpb_store.specs.Banks.{blank_sector}
use Rattle.array_model.specs.Blocks.{Laid, Words}
use Rattle.array_model.specs.Start.{Disks}
use Rattle.block_meaning.specs.Meaning.{bytes_of_laid}
use Rattle.new_container.specs.declared.container.NewContainer.{NewContainer}
use Rattle.new_container.specs.declared.disk.NewDisk.{NewDisk}
use Rattle.new_container.specs.Created.{created_bytes, volume_count}
use Rattle.image_outside.specs.Told.{BankTold}
use Rattle.container.specs.declared.volume.VolumeVerdict.TheVariants.{Started}
use Rattle.sound_images.specs.Images.{Image, Among, IsHeldOn, IsNewestOf, IsComplete}
use Rattle.sound_images.specs.Volumes.{verdict_in_words}

-- the disks of a bank by their numbers, with what stood there at opening; a place that isn't there is blank
abbrev pub disks_told : BankTold → (opening : List (List Sector)) → Disks
disks_told bank opening = record {
  count = length bank.serials;
  serial = λ d. (slice_index_or bank.serials d (record { 0 = [] })).0;
  sectors = λ d. slice_index bank.sizes d;
  opening = λ d p. slice_index_or (slice_index_or opening d []) p blank_sector;
}

-- A block is that of a new container over these disks, whose images they are: it has its bytes, and generation 1. Each
-- disk holds it, and is one that it expects, so that it is the newest of them and none lacks. It has the volumes that
-- were asked for, all supported, and each starts with all its slots and without a pass.
pub record IsCreatedOn (W : Words) (made : NewContainer) (disks : List NewDisk) (images : List Image)
    (m : Laid) : Type 0 where
  pub bytes : bytes_of_laid m ≡ created_bytes made disks
  pub generation : W.generation m.anchor ≡ 1
  pub held : (i : Image) → Among i images → IsHeldOn W images i.serial m
  pub expected : (i : Image) → Among i images → W.expects m i.serial ≡ true
  pub newest : IsNewestOf W images m
  pub complete : IsComplete W images m
  pub volumes : W.volumes m ≡ volume_count made
  pub supported : (v : ℕ) → v < volume_count made → W.is_supported m v ≡ true
  pub starts : (v : ℕ) → v < volume_count made → verdict_in_words W m v ≡ Started None
