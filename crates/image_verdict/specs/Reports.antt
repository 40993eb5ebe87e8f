-- What is said of images, while only containers of the first form are started. Source: this project's own; that a
-- container waits until each expected disk is there is the rule of mdadm --incremental.
use Rattle.std.specs.Prelude.{◌≡◌, ◌≢◌, ℕ, not, Bool, List, [], ◌∷◌, ◌++◌, map, filter, slice_get, Option, Some, None}
use Rattle.std.specs.List.{AllByRecursion, list_any}
use Rattle.std.specs.Option.{IsSomeAnd, option_map_or}
use Rattle.std.specs.Str.{bytes_eq}
use Rattle.units.specs.declared.disk.Sector.{Sector}
use Rattle.units.specs.declared.disk.Serial.{Serial}
use Rattle.imsm_base.specs.Layout.{Block, family_of, generation_of, serial_of}
use Rattle.imsm_base.specs.Whole.{IsWholeDisk}
use Rattle.imsm_base.specs.FirstForm.{IsFirstForm}
use Rattle.imsm_base.specs.Parts.{block_in}
use Rattle.imsm_codec.specs.Given.{given_block}
use Rattle.image_verdict.specs.Images.{serials_of_all}
use Rattle.image_verdict.specs.declared.images.ImageRead.{ImageRead}
use Rattle.image_verdict.specs.declared.report.Report.{Report}
use Rattle.image_verdict.specs.declared.report.Report.TheVariants.{Unbuilt, Waiting, Started}

-- an anchor that holds all of a block of the first form, of a disk with this serial and so many sectors
pub record IsFirstAnchor (own : List ℕ) (n : ℕ) (bytes : List ℕ) : Type 0 where
  pub whole : IsWholeDisk own n bytes (block_in bytes)
  pub form : IsFirstForm (block_in bytes)

-- the block in an image's anchor
abbrev pub anchor_block : Sector → List ℕ
anchor_block a = given_block a.0

-- the image holds this block, and it is of the first form
pub record Holds (block : List ℕ) (image : ImageRead) : Type 0 where
  pub anchored : IsSomeAnd image.anchor (λ a. anchor_block a ≡ block)
  pub first : IsFirstAnchor image.serial.0 image.sectors block

-- the block of the first image, if it was read
abbrev pub block_read : Option ImageRead → List ℕ
block_read None = []
block_read (Some image) = option_map_or anchor_block image.anchor []

abbrev pub first_block : List ImageRead → List ℕ
first_block images = block_read (slice_get images 0)

-- an image of this serial is there
abbrev pub is_there : List ImageRead → List ℕ → Bool
is_there images serial = list_any (λ (i : ImageRead). bytes_eq i.serial.0 serial) images

-- the serials of a block's table of which no image is there
abbrev pub absent : List ImageRead → Block → List (List ℕ)
absent images b = filter (λ s. not (is_there images s)) (map serial_of b.disks)

-- the first image that doesn't hold a block
pub record IsFirstOther (block : List ℕ) (images : List ImageRead) (serial : Serial) : Type 0 where
  pub front : List ImageRead
  pub other : ImageRead
  pub rest : List ImageRead
  pub images_are : images ≡ front ++ other ∷ rest
  pub alike : AllByRecursion (Holds block) front
  pub unlike : ¬ Holds block other
  pub serial_is : serial ≡ other.serial

-- all images hold a block of this family and generation
pub record IsHeld (block : List ℕ) (images : List ImageRead) (family generation : ℕ) : Type 0 where
  pub alike : AllByRecursion (Holds block) images
  pub family_is : family ≡ family_of (block_in block)
  pub generation_is : generation ≡ generation_of (block_in block)

abbrev pub bytes_of_all : List Serial → List (List ℕ)
bytes_of_all serials = map (λ (s : Serial). s.0) serials

-- the report on images that are to hold a block: the first that doesn't; or the disks of its table that are absent; or
-- that none is absent, and which are there
abbrev pub IsReportOf : List ℕ → List ImageRead → Report → Type 0
IsReportOf block images (Unbuilt serial) = IsFirstOther block images serial
IsReportOf block images (Waiting family generation missing) =
    IsHeld block images family generation × (missing.items ≢ [])
    × (bytes_of_all missing.items ≡ absent images (block_in block))
IsReportOf block images (Started family generation present) =
    IsHeld block images family generation × (absent images (block_in block) ≡ [])
    × (present.items ≡ serials_of_all images)

-- the report on images: the block is the first one's
abbrev pub IsReport : List ImageRead → Report → Type 0
IsReport images report = IsReportOf (first_block images) images report
