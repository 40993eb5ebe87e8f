-- The contents of disks on which the anchors of images that start stand.
use Rattle.std.proofs.Common.{◌≡◌, ℕ, zero, suc, ◌+◌, ◌-◌, ◌<◌, ◌≤◌, true, List, [], ◌∷◌, ◌++◌, length, map, replicate, slice_get, slice_index, slice_index_or, Option, Some, None, IsSomeAnd, unwrap_or, refl, sym, ◌∙◌, ap, subst, arith}
use Rattle.std.specs.Prelude.{IfSome}
use Rattle.std.specs.List.{AllByRecursion, list_all}
use Rattle.std.proofs.lemmas.List.{length-append, length-replicate}
use Rattle.units.specs.declared.disk.Sector.{Sector}
use Rattle.imsm_base.specs.Layout.{serial_of}
use Rattle.imsm_base.specs.Whole.{IsWholeDisk}
use Rattle.units.specs.Places.{anchor_place}
use Rattle.imsm_base.specs.FirstForm.{IsFirstForm}
use Rattle.imsm_base.specs.Parts.{block_in}
use Rattle.imsm_codec.specs.Given.{given_block}
use Rattle.block_meaning.specs.Meaning.{has_serial}
use Rattle.control_state.specs.Seen.{no_sector}
use Rattle.first_opening.specs.Opened.{IsOpening, block_of, serial_at}
use Rattle.image_verdict.specs.declared.images.ImageRead.{ImageRead}
use Rattle.image_verdict.specs.Reports.{Holds, bytes_of_all, first_block}
use Rattle.image_verdict.specs.Images.{StandIn, sizes_of_all, serials_of_all}
use Rattle.image_start.specs.Starts.{IsStarted, Starts}
use Rattle.image_start.specs.Openings.{first_anchor, opened_on}
use Rattle.image_start.proofs.Images.{IsAt, IsFirst, HasAnchorRead, all-hold, all-there, are-apart, first-image, holds-at, image-at, is-read, length-serials, none-absent}
use Rattle.first_opening.proofs.Numbers.{slice_get-behind}

-- WHAT THE LAWS TAKE AS GIVEN

pub block-is : (images : List ImageRead) (contents : List (List Sector)) → Starts images → block_of (opened_on images contents) ≡ first_block images
block-is images contents s = (first-image images s.some s.started).block

whole-at : (images : List ImageRead) (contents : List (List Sector)) (d : ℕ) → Starts images → d < length (opened_on images contents).serials
    → IsWholeDisk (serial_at (opened_on images contents) d) (slice_index (opened_on images contents).sizes d) (block_of (opened_on images contents)) (block_in (block_of (opened_on images contents)))
whole-at images contents d s below =
    let block : List ℕ = first_block images in
    let at : IsAt images d = image-at images d (omega (arith, below, length-serials images)) in
    let holds : Holds block at.image = holds-at block images d at.image (all-hold images s.started) at.there in
    let whole : IsWholeDisk at.image.serial.0 at.image.sectors block (block_in block) = holds.first.whole in
    subst (λ (own : List ℕ). IsWholeDisk own (slice_index (sizes_of_all images) d) (given_block (first_anchor images).0) (block_in (given_block (first_anchor images).0))) (sym at.serial) (
    subst (λ (n : ℕ). IsWholeDisk at.image.serial.0 n (given_block (first_anchor images).0) (block_in (given_block (first_anchor images).0))) (sym at.sectors) (
    subst (λ (bytes : List ℕ). IsWholeDisk at.image.serial.0 at.image.sectors bytes (block_in bytes)) (sym (block-is images contents s)) whole))

-- what stands at the place of an image's anchor, where that was read
stands-at : (images : List ImageRead) (contents : List (List Sector)) (d : ℕ) → StandIn images contents → (at : IsAt images d) → (a : Sector) → at.image.anchor ≡ Some a
    → slice_get (slice_index_or contents d []) (anchor_place (slice_index (sizes_of_all images) d)) ≡ Some a
stands-at images contents d stand at a was =
    ap (λ (n : ℕ). slice_get (slice_index_or contents d []) (anchor_place n)) at.sectors
    ∙ subst (λ (o : Option Sector). IfSome o (λ (x : Sector). slice_get (slice_index_or contents d []) (anchor_place at.image.sectors) ≡ Some x)) was (stand.anchors d at.image at.there)

anchored-at : (images : List ImageRead) (contents : List (List Sector)) (d : ℕ) → Starts images → StandIn images contents → d < length (opened_on images contents).serials
    → IsSomeAnd (slice_get (slice_index_or contents d []) (anchor_place (slice_index (sizes_of_all images) d))) (λ a. given_block a.0 ≡ block_of (opened_on images contents))
anchored-at images contents d s stand below =
    let block : List ℕ = first_block images in
    let at : IsAt images d = image-at images d (omega (arith, below, length-serials images)) in
    let read : HasAnchorRead block at.image = is-read block at.image (holds-at block images d at.image (all-hold images s.started) at.there) in
    subst (λ (o : Option Sector). IsSomeAnd o (λ a. given_block a.0 ≡ given_block (first_anchor images).0)) (sym (stands-at images contents d stand at read.anchor read.was)) (read.block_is ∙ sym (block-is images contents s))

read-at : (images : List ImageRead) (contents : List (List Sector)) → Starts images → StandIn images contents
    → slice_get (slice_index_or contents 0 []) (anchor_place (slice_index (sizes_of_all images) 0)) ≡ Some (first_anchor images)
read-at images contents s stand =
    let first : IsFirst images = first-image images s.some s.started in
    let at : IsAt images 0 = image-at images 0 (omega (arith, s.some)) in
    let same : Some at.image ≡ Some first.image = sym at.there ∙ first.there in
    stands-at images contents 0 stand at (first_anchor images) (ap (λ (o : Option ImageRead). anchor_in o) same ∙ first.anchor)
  where
    anchor_in : Option ImageRead → Option Sector
    anchor_in (Some i) = i.anchor
    anchor_in None = None

abbrev IsThere : List ImageRead → List ℕ → Type 0
IsThere images bytes = list_all (has_serial (bytes_of_all (serials_of_all images))) (map serial_of (block_in bytes).disks) ≡ true

pub is-opening : (images : List ImageRead) (contents : List (List Sector)) → Starts images → StandIn images contents → IsOpening (opened_on images contents)
is-opening images contents s stand =
    let first : IsFirst images = first-image images s.some s.started in
    let same : block_of (opened_on images contents) ≡ first_block images = block-is images contents s in
    record {
      sizes = stand.sizes;
      apart = are-apart images s.distinct;
      there = subst (λ (bytes : List ℕ). IsThere images bytes) (sym same) (all-there images (block_in (first_block images)) (none-absent images s.started));
      first = subst (λ (bytes : List ℕ). IsFirstForm (block_in bytes)) (sym same) first.holds.first.form;
      whole = λ d below. whole-at images contents d s below;
      anchored = λ d below. anchored-at images contents d s stand below;
      read = (0, omega (arith, s.some, length-serials images), read-at images contents s stand);
    }

-- THERE ARE SUCH CONTENTS

abbrev pub filled : ImageRead → List Sector
filled i = replicate (i.sectors - 2) no_sector ++ unwrap_or i.anchor no_sector ∷ no_sector ∷ []

length-filled : (block : List ℕ) (i : ImageRead) → Holds block i → i.sectors ≡ length (filled i)
length-filled block i holds =
    let enough : 18 ≤ i.sectors = holds.first.whole.enough in
    let size : length (filled i) ≡ length (replicate (i.sectors - 2) no_sector) + 2 = length-append (replicate (i.sectors - 2) no_sector) (unwrap_or i.anchor no_sector ∷ no_sector ∷ []) in
    let front : length (replicate (i.sectors - 2) no_sector) ≡ i.sectors - 2 = length-replicate (i.sectors - 2) no_sector in
    omega arith

sizes-filled : (block : List ℕ) (images : List ImageRead) → AllByRecursion (Holds block) images → sizes_of_all images ≡ map (λ (sectors : List Sector). length sectors) (map filled images)
sizes-filled block [] all = refl
sizes-filled block (i ∷ is) all =
    ap (λ (n : ℕ). n ∷ sizes_of_all is) (length-filled block i all.0)
    ∙ ap (λ (ns : List ℕ). length (filled i) ∷ ns) (sizes-filled block is all.1)

filled-at : (images : List ImageRead) (d : ℕ) (image : ImageRead) → slice_get images d ≡ Some image → slice_index_or (map filled images) d [] ≡ filled image
filled-at [] d image there = cc
filled-at (i ∷ is) zero image there = let same : i ≡ image = cc in ap filled same
filled-at (i ∷ is) (suc d) image there = filled-at is d image there

anchor-filled : (images : List ImageRead) (d : ℕ) (image : ImageRead) → IsStarted images → slice_get images d ≡ Some image
    → slice_get (slice_index_or (map filled images) d []) (anchor_place image.sectors) ≡ image.anchor
anchor-filled images d image started there =
    let block : List ℕ = first_block images in
    let read : HasAnchorRead block image = is-read block image (holds-at block images d image (all-hold images started) there) in
    ap (λ (sectors : List Sector). slice_get sectors (anchor_place image.sectors)) (filled-at images d image there)
    ∙ slice_get-behind (image.sectors - 2) no_sector (unwrap_or image.anchor no_sector) (no_sector ∷ [])
    ∙ ap (λ (o : Option Sector). Some (unwrap_or o no_sector)) read.was
    ∙ sym read.was

if-read : (there anchor : Option Sector) → there ≡ anchor → IfSome anchor (λ (a : Sector). there ≡ Some a)
if-read there None is = tt
if-read there (Some a) is = is

pub some-stand : (images : List ImageRead) → IsStarted images → StandIn images (map filled images)
some-stand images started = record {
  sizes = sizes-filled (first_block images) images (all-hold images started);
  anchors = λ d image there. if-read _ image.anchor (anchor-filled images d image started there);
}

-- a bank of these images, as the laws take it
abbrev pub contents_of : List ImageRead → List (List Sector)
contents_of images = map filled images

pub a-bank : (images : List ImageRead) → Starts images → IsOpening (opened_on images (contents_of images))
a-bank images s = is-opening images (contents_of images) s (some-stand images s.started)
