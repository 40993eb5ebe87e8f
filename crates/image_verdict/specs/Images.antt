-- The images of a bank, after the anchor of each was read once. Source: this project's own.
use Rattle.std.specs.Prelude.{◌≡◌, ℕ, suc, ◌<◌, ◌≤◌, ◌⊎◌, nat_lt, if◌then◌else◌, List, [], ◌∷◌, ◌++◌, map, length, take, replicate, slice_get, slice_index_or, Option, Some, None, IfSome, is_some}
use Rattle.units.specs.declared.bounds.TheConstants.{METADATA_SECTORS, SERIAL_BYTES}
use Rattle.units.specs.declared.disk.Sector.{Sector}
use Rattle.units.specs.declared.disk.Serial.{Serial}
use Rattle.units.specs.Places.{anchor_place}
use Rattle.device_log.specs.Log.{Call, Read}
use Rattle.member_bank.specs.Faults.{Rose}
use Rattle.image_outside.specs.Told.{BankTold}
use Rattle.image_verdict.specs.declared.images.ImageRead.{ImageRead}

abbrev pub serials_of_all : List ImageRead → List Serial
serials_of_all images = map (λ (i : ImageRead). i.serial) images

abbrev pub sizes_of_all : List ImageRead → List ℕ
sizes_of_all images = map (λ (i : ImageRead). i.sectors) images

abbrev pub blank_serial : Serial
blank_serial = record { 0 = replicate SERIAL_BYTES 0 }

-- the one call on disk d, of so many sectors, of which the anchor was read or not; a disk that is too small has none
abbrev pub anchor_calls : (d sectors : ℕ) → Option Sector → List Call
anchor_calls d sectors anchor =
    if nat_lt sectors METADATA_SECTORS then []
    else record { disk = d; what = Read (anchor_place sectors); went = is_some anchor } ∷ []

-- the calls that read the anchor of each image once, in order; the first image is that of disk d
abbrev pub anchor_reads_from : ℕ → List ImageRead → List Call
anchor_reads_from d [] = []
anchor_reads_from d (image ∷ images) = anchor_calls d image.sectors image.anchor ++ anchor_reads_from (suc d) images

abbrev pub anchor_reads : List ImageRead → List Call
anchor_reads images = anchor_reads_from 0 images

-- The anchor of disk d of a bank, which has so many sectors, was read or not. One that wasn't read is of a disk that is
-- too small for one, or on which a call failed.
abbrev pub IsAnchorOn : BankTold → (d sectors : ℕ) → Option Sector → Type 0
IsAnchorOn bank d sectors (Some anchor) = METADATA_SECTORS ≤ sectors
IsAnchorOn bank d sectors None = (sectors < METADATA_SECTORS) ⊎ Rose 0 (bank.faults d)

-- disks with these sectors have the images' sizes, and each anchor that was read stands at its place
pub record StandIn (images : List ImageRead) (contents : List (List Sector)) : Type 0 where
  pub sizes : sizes_of_all images ≡ map (λ (sectors : List Sector). length sectors) contents
  pub anchors : (d : ℕ) (image : ImageRead) → slice_get images d ≡ Some image
      → IfSome image.anchor (λ a. slice_get (slice_index_or contents d []) (anchor_place image.sectors) ≡ Some a)

-- The images of a bank, on whose disks no call had failed before: they have the serials and sizes of its disks, in
-- order, and the anchors that were read. Where the bank tells what it held and its log, these stood there.
pub record IsFoundOn (bank : BankTold) (images : List ImageRead) : Type 0 where
  pub named : serials_of_all images ≡ bank.serials
  pub sized : sizes_of_all images ≡ bank.sizes
  pub anchors : (d : ℕ) (image : ImageRead) → slice_get images d ≡ Some image
      → IsAnchorOn bank d image.sectors image.anchor
  pub stand : IfSome bank.opening (λ contents. IfSome bank.log (λ log. StandIn images contents))

-- nothing was done on a bank's disks but that, where it tells its log
abbrev pub HasReadAnchors : BankTold → List ImageRead → Type 0
HasReadAnchors bank images = IfSome bank.log (λ log. log ≡ anchor_reads images)

-- the anchors of some first disks of a bank were read, each once and in order, and nothing else was done, where it tells
-- its log
pub record HasReadFirst (bank : BankTold) : Type 0 where
  pub images : List ImageRead
  pub sized : sizes_of_all images ≡ take (length images) bank.sizes
  pub reads : HasReadAnchors bank images
