use Rattle.std.proofs.Common.{◌<◌, ℕ, List, sym, ◌∙◌, ap, subst}
use Rattle.units.specs.declared.disk.Sector.{Sector}
use Rattle.imsm_codec.specs.Mpb.{block_bytes}
use Rattle.block_meaning.specs.Meaning.{bytes_of_laid}
use Rattle.block_meaning.specs.Reading.{block_words}
use Rattle.control_state.specs.Book.{laid_at}
use Rattle.image_verdict.specs.declared.images.ImageRead.{ImageRead}
use Rattle.image_start.specs.Starts.{Starts}
use Rattle.image_start.proofs.Contents.{block-is, contents_of, is-opening, some-stand}
use Rattle.image_start.proofs.Found.{block-in-anchor, early, fits, is-book, mirror-shape, pba-is, size-is}
use Rattle.image_start.proofs.Images.{small-first}
use Rattle.image_start.proofs.opening.opening_of.Goals as goal

starts : (c : goal.After-members_of) → Starts c.args.images.now
starts c = record { some = c.requires.some; few = c.requires.few; distinct = c.requires.distinct; started = c.requires.started }

pub returns-clause-opens : goal.returns-clause-opens
returns-clause-opens c contents =
    let images : List ImageRead = c.args.images.now in
    let s : Starts images = starts c in
    let bytes : List ℕ = block_bytes c.first_block-block.result in
    record {
      block = c.first_block-block.ensures ∙ sym (block-is images contents s);
      newest = c.first_anchor.ensures;
      targets = c.targets_of.ensures contents;
      members = c.members_of.ensures contents;
      pba = c.map_pba-pba.ensures ∙ pba-is images contents bytes s c.first_block-block.ensures;
      size = c.vol_size-size.ensures ∙ size-is images contents bytes s c.first_block-block.ensures;
    }

pub returns-clause-book : goal.returns-clause-book
returns-clause-book c =
    let images : List ImageRead = c.args.images.now in
    let s : Starts images = starts c in
    is-book images (block_bytes c.first_block-block.result) s c.first_block-block.ensures c.first_block-block.result.laid

pub returns-clause-newest : goal.returns-clause-newest
returns-clause-newest c =
    let images : List ImageRead = c.args.images.now in
    let s : Starts images = starts c in
    ap (λ (a : Sector). bytes_of_laid (laid_at a)) c.first_anchor.ensures ∙ block-in-anchor images s ∙ sym c.first_block-block.ensures

pub returns-clause-generation : goal.returns-clause-generation
returns-clause-generation c =
    let images : List ImageRead = c.args.images.now in
    let s : Starts images = starts c in
    subst (λ (a : Sector). block_words.generation a < 0xff000000) (sym c.first_anchor.ensures) (early images s)

pub returns-clause-disks : goal.returns-clause-disks
returns-clause-disks c =
    let images : List ImageRead = c.args.images.now in
    let s : Starts images = starts c in
    let bytes : List ℕ = block_bytes c.first_block-block.result in
    fits images _ _ _ _ s (small-first images _ c.requires.some c.element_fits.fits) (c.targets_of.ensures (contents_of images)) (c.members_of.ensures (contents_of images))
    (c.map_pba-pba.ensures ∙ pba-is images (contents_of images) bytes s c.first_block-block.ensures) (c.vol_size-size.ensures ∙ size-is images (contents_of images) bytes s c.first_block-block.ensures)

pub returns-clause-opening : goal.returns-clause-opening
returns-clause-opening c contents stand =
    is-opening c.args.images.now contents (starts c) stand

pub returns-clause-stands : goal.returns-clause-stands
returns-clause-stands c = (contents_of c.args.images.now, some-stand c.args.images.now c.requires.started)

pub returns-clause-shape : goal.returns-clause-shape
returns-clause-shape c contents =
    mirror-shape c.args.images.now contents (starts c)
