-- The disks of a bank as images, where it tells what they held and no call on them failed. Source: this project's own.
use Rattle.std.specs.Prelude.{◌≡◌, ℕ, List, [], length}
use Rattle.units.specs.declared.bounds.TheConstants.{SECTOR_BYTES}
use Rattle.units.specs.declared.disk.Sector.{Sector}
use Rattle.device_log.specs.Log.{Call}
use Rattle.image_outside.specs.Told.{BankTold}
use Rattle.sound_images.specs.Images.{Image}
use Rattle.stop_images.specs.Left.{images_after}
use Rattle.created_law.specs.OnBank.{disks_told}
use Rattle.refused_verdicts.specs.Told.{Tells, stood_on}

-- the disks as they stood when they were opened
abbrev pub present_on : BankTold → (opening : List (List Sector)) → List Image
present_on bank opening = images_after (disks_told bank opening) []

-- a bank of which no two disks have one name tells what stood on them, with all the bytes of each sector, and its log;
-- and no call on a disk failed
pub record TellsWell (opening : List (List Sector)) (log : List Call) (bank : BankTold) : Type 0 where
  pub tells : Tells opening log bank
  pub full : (k p : ℕ) → length (stood_on opening k p).0 ≡ SECTOR_BYTES
  pub read : (k : ℕ) → bank.faults k ≡ 0
