-- Images that start. Source: this project's own.
use Rattle.std.specs.Prelude.{◌≢◌, ℕ, ◌≤◌, List, length}
use Rattle.std.specs.List.{AllPairs}
use Rattle.arrayvec.specs.ArrayVec.{ArrayVec}
use Rattle.units.specs.declared.bounds.TheConstants.{MAX_DISKS}
use Rattle.units.specs.declared.disk.Serial.{Serial}
use Rattle.image_verdict.specs.declared.images.ImageRead.{ImageRead}
use Rattle.image_verdict.specs.declared.report.Report.TheVariants.{Started}
use Rattle.image_verdict.specs.Reports.{IsReport}
use Rattle.image_verdict.specs.Images.{serials_of_all}

-- the report on the images is that their volume starts
pub record IsStarted (images : List ImageRead) : Type 0 where
  pub family : ℕ
  pub generation : ℕ
  pub present : ArrayVec Serial
  pub reported : IsReport images (Started family generation present)

-- no two images have the same serial
abbrev pub AreDistinct : List ImageRead → Type 0
AreDistinct images = AllPairs (λ a b. a ≢ b) (serials_of_all images)

-- images of a bank that start
pub record Starts (images : List ImageRead) : Type 0 where
  pub some : 1 ≤ length images
  pub few : length images ≤ MAX_DISKS
  pub distinct : AreDistinct images
  pub started : IsStarted images
