-- What a stage is opened with, of images that start: the opening of a bank as the laws see it. Source: this project's
-- own.
use Rattle.std.specs.Prelude.{◌≡◌, List, slice_get, Option, Some, None, unwrap_or}
use Rattle.units.specs.declared.volume.Level.TheVariants.{One}
use Rattle.units.specs.declared.disk.Sector.{Sector}
use Rattle.imsm_codec.specs.Mpb.{block_bytes}
use Rattle.array_model.specs.Placement.{Shape}
use Rattle.block_meaning.specs.Reading.{block_words}
use Rattle.control_state.specs.Seen.{numbers, no_sector}
use Rattle.first_opening.specs.Opened.{Opened, block_of, newest_of, targets_of, members_of}
use Rattle.stage.specs.declared.open.Opening.{Opening}
use Rattle.image_verdict.specs.declared.images.ImageRead.{ImageRead}
use Rattle.image_verdict.specs.Reports.{bytes_of_all}
use Rattle.image_verdict.specs.Images.{sizes_of_all, serials_of_all}

-- the anchor of an image, where it was read
abbrev pub anchor_read : Option ImageRead → Sector
anchor_read None = no_sector
anchor_read (Some image) = unwrap_or image.anchor no_sector

abbrev pub first_anchor : List ImageRead → Sector
first_anchor images = anchor_read (slice_get images 0)

-- the bank of these images, with these sectors; the anchor of its newest block is the first image's
abbrev pub opened_on : List ImageRead → (contents : List (List Sector)) → Opened
opened_on images contents = record {
  serials = bytes_of_all (serials_of_all images);
  sizes = sizes_of_all images;
  contents = contents;
  anchor = first_anchor images;
}

-- how volume 0 lies, by the newest block
abbrev pub first_shape : Opened → Shape
first_shape o = block_words.shape (newest_of o) 0

-- what a stage is opened with says what the laws take of this bank
pub record Opens (opening : Opening) (o : Opened) : Type 0 where
  pub block : block_bytes opening.block ≡ block_of o
  pub newest : opening.newest ≡ o.anchor
  pub targets : numbers opening.targets.items ≡ targets_of o
  pub members : numbers opening.members.items ≡ members_of o
  pub pba : opening.pba ≡ (first_shape o).pba
  pub size : opening.size ≡ (first_shape o).size

-- two copies, with a row for each sector
pub record IsMirrorShape (shape : Shape) : Type 0 where
  pub level : shape.level ≡ Some One
  pub members : shape.members ≡ 2
  pub rows : shape.rows ≡ shape.size
