-- What the newest block of images that start says of their disks.
use Rattle.std.proofs.Common.{◌≡◌, ℕ, zero, suc, ◌^◌, ◌<◌, ◌≤◌, true, List, [], ◌∷◌, ◌++◌, length, map, flat_map, slice_index, slice_index_or, Option, Some, bytes_eq, refl, sym, ◌∙◌, ap, subst, arith}
use Rattle.std.specs.List.{list_all, position, range_with_len}
use Rattle.std.specs.Option.{option_map_or}
use Rattle.std.proofs.lemmas.Bool.{and_parts, leb-true}
use Rattle.std.proofs.lemmas.List.{length-take}
use Rattle.std.proofs.lemmas.Option.{slice_get-get_or}
use Rattle.units.specs.declared.bounds.TheConstants.{FIRST_GENERATION_REFUSED, SECTOR_BYTES}
use Rattle.units.specs.declared.volume.Level.{Level}
use Rattle.units.specs.declared.disk.Sector.{Sector}
use Rattle.imsm_base.specs.Fields.{Part, number_at}
use Rattle.imsm_base.specs.Layout.{Block, Volume, disk_count_of, generation_of, map_count_of, member_count_of, pba_of, serial_of, size_of, strip_of, volume_count_of, volume_size_of}
use Rattle.imsm_base.specs.Parts.{block_in}
use Rattle.imsm_base.specs.Volumes.{first_map, has_geometry, member}
use Rattle.units.specs.Levels.{rows_of}
use Rattle.imsm_base.specs.Whole.{IsWholeBlock}
use Rattle.imsm_base.proofs.Apart.{length-volumes}
use Rattle.imsm_base.proofs.Spliced.{number_at-take}
use Rattle.imsm_codec.specs.Given.{size_in}
use Rattle.imsm_codec.specs.Laid.{IsLaid}
use Rattle.imsm_codec.specs.Mpb.{blank_volume, disk_at, map_at, volume_at}
use Rattle.imsm_codec.proofs.Mirror.{two_members}
use Rattle.imsm_codec.proofs.Places.{some_map}
use Rattle.array_model.specs.Blocks.{SlotWords}
use Rattle.block_meaning.specs.Meaning.{bytes_of_laid, slot_words}
use Rattle.array_model.specs.Placement.{Shape}
use Rattle.block_meaning.specs.Reading.{block_words}
use Rattle.control_state.specs.Book.{IsBook, laid_at}
use Rattle.first_opening.specs.Opened.{IsOpening, Opened, block_of, disks_in_slot, members_of, targets_of}
use Rattle.first_opening.proofs.Found.{bytes-are, found, target-below, targets-are, two-records}
use Rattle.first_opening.proofs.Volume.{ArePair, IsMirror, in-volume, mirror, pair, room-on, rows-are, the-volume}
use Rattle.stage.specs.Runs.{FitsDisks}
use Rattle.image_verdict.specs.declared.images.ImageRead.{ImageRead}
use Rattle.image_verdict.specs.Reports.{absent, first_block, is_there}
use Rattle.image_verdict.specs.Images.{sizes_of_all}
use Rattle.image_start.specs.Starts.{Starts}
use Rattle.image_start.specs.Openings.{IsMirrorShape, first_anchor, first_shape, opened_on}
use Rattle.image_start.proofs.Images.{length-serials, length-sizes, none-absent, none-left}
use Rattle.image_start.proofs.Contents.{a-bank, block-is, contents_of}
use Rattle.image_start.proofs.Numbers.{in-slot, is-named, record-passes}
use Rattle.block_meaning.proofs.Renewal.{generation-at}

abbrev bank : List ImageRead → Opened
bank images = opened_on images (contents_of images)

-- THE DISKS THAT IT EXPECTS

pub all-targets : (images : List ImageRead) (contents : List (List Sector)) → Starts images → targets_of (opened_on images contents) ≡ range_with_len 0 (length images)
all-targets images contents s = targets-are (bank images) (a-bank images s) ∙ ap (range_with_len 0) (length-serials images)

-- ITS VOLUME

-- the volume of a block has two slots, whose records are in the table, and an image is there for each
pub record HasSlots (images : List ImageRead) (b : Block) : Type 0 where
  pub volumes : 0 < volume_count_of b
  pub maps : 0 < map_count_of (volume_at 0 b)
  pub slots : member_count_of (map_at 0 (volume_at 0 b)) ≡ 2
  pub disks : disk_count_of b ≡ 2
  pub records : length b.disks ≡ 2
  pub below : (slot : ℕ) → slot < 2 → (member (volume_at 0 b) slot).index < 2
  pub there : (slot : ℕ) → slot < 2 → is_there images (slot_words b (member (volume_at 0 b) slot)).serial ≡ true

below-two : (P : ℕ → Type 0) (k : ℕ) → P 0 → P 1 → k < 2 → P k
below-two P zero first second below = first
below-two P (suc zero) first second below = second
below-two P (suc (suc k)) first second below = absurd (omega arith)

-- the volume of the newest block, as the readers find it
the-first : (images : List ImageRead) (s : Starts images) → volume_at 0 (block_in (block_of (bank images))) ≡ the-volume (bank images) (a-bank images s)
the-first images s = ap (λ (vs : List Volume). slice_index_or vs 0 blank_volume) (mirror (bank images) (a-bank images s)).one

bank-slots : (images : List ImageRead) → Starts images → HasSlots images (block_in (block_of (bank images)))
bank-slots images s =
    let o : Opened = bank images in
    let is : IsOpening o = a-bank images s in
    let b : Block = block_in (block_of o) in
    let v : Volume = the-volume o is in
    let m : IsMirror o v = mirror o is in
    let p : ArePair v = pair o is in
    let first : volume_at 0 b ≡ v = the-first images s in
    let whole : IsWholeBlock (block_of o) b = (found o is).whole in
    let count : length b.volumes ≡ 1 = ap (λ (vs : List Volume). length vs) m.one in
    let below : (slot : ℕ) → slot < 2 → (member (volume_at 0 b) slot).index < 2 =
    λ slot less. subst (λ (x : Volume). (member x slot).index < 2) (sym first) (below-two (λ k. (member v k).index < 2) slot p.first p.second less) in
    let all : list_all (is_there images) (map serial_of b.disks) ≡ true =
    none-left (is_there images) (is_there images) (map serial_of b.disks) (λ x. refl) (subst (λ (bytes : List ℕ). absent images (block_in bytes) ≡ []) (sym (block-is images (contents_of images) s)) (none-absent images s.started)) in
    record {
      volumes = omega (arith, count, whole.spells.parts.volume_count);
      maps = some_map (volume_at 0 b);
      slots = ap (λ (x : Volume). member_count_of (first_map x)) first ∙ two_members v m.tests.level;
      disks = is.first.two_disks;
      records = two-records o is;
      below = below;
      there = λ slot less. record-passes (is_there images) b.disks (member (volume_at 0 b) slot).index all (omega (arith, below slot less, two-records o is));
    }

pub has-slots : (images : List ImageRead) (bytes : List ℕ) → Starts images → bytes ≡ first_block images → HasSlots images (block_in bytes)
has-slots images bytes s is = subst (λ (x : List ℕ). HasSlots images (block_in x)) (block-is images (contents_of images) s ∙ sym is) (bank-slots images s)

-- the serial of a slot, as the record of its index says it
pub slot-serial : (images : List ImageRead) (b : Block) (slot index : ℕ) → HasSlots images b → slot < 2 → index ≡ (member (volume_at 0 b) slot).index
    → serial_of (disk_at index b) ≡ (slot_words b (member (volume_at 0 b) slot)).serial
slot-serial images b slot index h less is =
    let inside : (member (volume_at 0 b) slot).index < length b.disks = omega (arith, h.below slot less, h.records) in
    ap (λ (i : ℕ). serial_of (disk_at i b)) is
    ∙ sym (ap (λ (o : Option Part). option_map_or serial_of o []) (slice_get-get_or b.disks (member (volume_at 0 b) slot).index [] inside))

-- the image in a slot of the volume
abbrev pub FoundIn : List ImageRead → List ℕ → (slot p : ℕ) → Type 0
FoundIn images bytes slot p =
    position (λ (i : ImageRead). bytes_eq i.serial.0 (slot_words (block_in bytes) (member (volume_at 0 (block_in bytes)) slot)).serial) images ≡ Some p

in-its-slot : (images : List ImageRead) (contents : List (List Sector)) (bytes : List ℕ) (slot p : ℕ) → (s : Starts images) → bytes ≡ first_block images → FoundIn images bytes slot p
    → disks_in_slot (opened_on images contents) (slot_words (block_in (block_of (bank images))) (member (the-volume (bank images) (a-bank images s)) slot)) ≡ p ∷ []
in-its-slot images contents bytes slot p s is at =
    let b : Block = block_in (block_of (bank images)) in
    let same : bytes ≡ block_of (bank images) = is ∙ sym (block-is images (contents_of images) s) in
    let words : SlotWords = slot_words (block_in bytes) (member (volume_at 0 (block_in bytes)) slot) in
    let are : words ≡ slot_words b (member (the-volume (bank images) (a-bank images s)) slot) =
    ap (λ (x : List ℕ). slot_words (block_in x) (member (volume_at 0 (block_in x)) slot)) same
    ∙ ap (λ (v : Volume). slot_words b (member v slot)) (the-first images s) in
    subst (λ (w : SlotWords). disks_in_slot (opened_on images contents) w ≡ p ∷ []) are
    (in-slot images contents words p s (is-named images words.serial p at))

pub both-members : (images : List ImageRead) (contents : List (List Sector)) (bytes : List ℕ) (p q : ℕ) → Starts images → bytes ≡ first_block images → FoundIn images bytes 0 p → FoundIn images bytes 1 q
    → members_of (opened_on images contents) ≡ p ∷ q ∷ []
both-members images contents bytes p q s is first second =
    let o : Opened = bank images in
    let v : Volume = the-volume o (a-bank images s) in
    let words : ℕ → SlotWords = λ slot. slot_words (block_in (block_of o)) (member v slot) in
    ap (flat_map (disks_in_slot (opened_on images contents))) (mirror o (a-bank images s)).slots
    ∙ ap (λ (xs : List ℕ). xs ++ (disks_in_slot (opened_on images contents) (words 1) ++ [])) (in-its-slot images contents bytes 0 p s is first)
    ∙ ap (λ (xs : List ℕ). p ∷ (xs ++ [])) (in-its-slot images contents bytes 1 q s is second)

-- HOW IT LIES

pub mirror-shape : (images : List ImageRead) (contents : List (List Sector)) → Starts images → IsMirrorShape (first_shape (opened_on images contents))
mirror-shape images contents s =
    let o : Opened = bank images in
    let v : Volume = the-volume o (a-bank images s) in
    let m : IsMirror o v = mirror o (a-bank images s) in
    subst IsMirrorShape (sym m.shape) (record {
      level = m.clean.level;
      members = two_members v m.tests.level;
      rows = ap (λ (l : Option Level). rows_of l (member_count_of (first_map v)) (volume_size_of v) (strip_of (first_map v))) m.clean.level;
    })

pub pba-is : (images : List ImageRead) (contents : List (List Sector)) (bytes : List ℕ) → Starts images → bytes ≡ first_block images
    → pba_of (map_at 0 (volume_at 0 (block_in bytes))) ≡ (first_shape (opened_on images contents)).pba
pba-is images contents bytes s is =
    let o : Opened = bank images in
    ap (λ (x : List ℕ). pba_of (map_at 0 (volume_at 0 (block_in x)))) (is ∙ sym (block-is images (contents_of images) s))
    ∙ ap (λ (v : Volume). pba_of (map_at 0 v)) (the-first images s)
    ∙ sym (ap (λ (x : Shape). x.pba) (mirror o (a-bank images s)).shape)

pub size-is : (images : List ImageRead) (contents : List (List Sector)) (bytes : List ℕ) → Starts images → bytes ≡ first_block images
    → volume_size_of (volume_at 0 (block_in bytes)) ≡ (first_shape (opened_on images contents)).size
size-is images contents bytes s is =
    let o : Opened = bank images in
    ap (λ (x : List ℕ). volume_size_of (volume_at 0 (block_in x))) (is ∙ sym (block-is images (contents_of images) s))
    ∙ ap (λ (v : Volume). volume_size_of v) (the-first images s)
    ∙ sym (ap (λ (x : Shape). x.size) (mirror o (a-bank images s)).shape)

-- WHAT A STAGE ASKS

some-size : (b : Block) (v : Volume) → has_geometry b v ≡ true → 1 ≤ volume_size_of v
some-size b v e = leb-true 1 (volume_size_of v) (and_parts _ _ (and_parts _ _ (and_parts _ _ (and_parts _ _ (and_parts _ _ e).0).0).0).0).0

bank-fits : (images : List ImageRead) → Starts images → slice_index (sizes_of_all images) 0 < 2 ^ 64
    → FitsDisks (targets_of (bank images)) (members_of (bank images)) (first_shape (bank images)).pba (first_shape (bank images)).size (sizes_of_all images)
bank-fits images s small =
    let o : Opened = bank images in
    let is : IsOpening o = a-bank images s in
    let v : Volume = the-volume o is in
    let m : IsMirror o v = mirror o is in
    let count : length (sizes_of_all images) ≡ length o.serials = length-sizes images ∙ sym (length-serials images) in
    let rows : (first_shape o).size ≤ (first_shape o).rows = rows-are o is in
    let room = room-on o is 0 (omega (arith, s.some, length-serials images)) in
    let size : (first_shape o).size ≡ volume_size_of v = ap (λ (x : Shape). x.size) m.shape in
    record {
      some = omega (arith, size, some-size (block_in (block_of o)) v m.tests.geometry);
      below = omega (arith, room, rows, small);
      targets_there = λ d target.
          let below : d < length o.serials = target-below o d target in
          (omega (arith, below, count), (is.whole d below).enough);
      members_there = λ d member.
          let below : d < length o.serials = (in-volume o d member).below in
          (omega (arith, below, count), omega (arith, room-on o is d below, rows));
    }

pub fits : (images : List ImageRead) (targets members : List ℕ) (pba size : ℕ) → Starts images → slice_index (sizes_of_all images) 0 < 2 ^ 64
    → targets ≡ targets_of (bank images) → members ≡ members_of (bank images) → pba ≡ (first_shape (bank images)).pba → size ≡ (first_shape (bank images)).size
    → FitsDisks targets members pba size (sizes_of_all images)
fits images targets members pba size s small t m p z =
    let sizes : List ℕ = sizes_of_all images in
    let o : Opened = bank images in
    subst (λ (x : List ℕ). FitsDisks x members pba size sizes) (sym t) (
    subst (λ (x : List ℕ). FitsDisks (targets_of o) x pba size sizes) (sym m) (
    subst (λ (x : ℕ). FitsDisks (targets_of o) (members_of o) x size sizes) (sym p) (
    subst (λ (x : ℕ). FitsDisks (targets_of o) (members_of o) (first_shape o).pba x sizes) (sym z) (bank-fits images s small))))

pub whole-first : (images : List ImageRead) → Starts images → IsWholeBlock (first_block images) (block_in (first_block images))
whole-first images s = subst (λ (x : List ℕ). IsWholeBlock x (block_in x)) (block-is images (contents_of images) s) (found (bank images) (a-bank images s)).whole

bank-book : (images : List ImageRead) → Starts images → IsLaid (block_of (bank images)) → IsBook (block_of (bank images))
bank-book images s laid =
    let o : Opened = bank images in
    let is : IsOpening o = a-bank images s in
    let whole : IsWholeBlock (block_of o) (block_in (block_of o)) = (found o is).whole in
    let count : length (block_in (block_of o)).volumes ≡ 1 = ap (λ (vs : List Volume). length vs) (mirror o is).one in
    record {
      laid = laid;
      short = subst (λ (n : ℕ). n ≤ SECTOR_BYTES) whole.given is.first.one_sector;
      size = whole.given;
      volume = omega (arith, count, length-volumes (block_of o));
    }

pub is-book : (images : List ImageRead) (bytes : List ℕ) → Starts images → bytes ≡ first_block images → IsLaid bytes → IsBook bytes
is-book images bytes s is laid =
    let same : bytes ≡ block_of (bank images) = is ∙ sym (block-is images (contents_of images) s) in
    subst IsBook (sym same) (bank-book images s (subst IsLaid same laid))

pub block-in-anchor : (images : List ImageRead) → Starts images → bytes_of_laid (laid_at (first_anchor images)) ≡ first_block images
block-in-anchor images s = bytes-are (bank images) ∙ block-is images (contents_of images) s

pub early : (images : List ImageRead) → Starts images → block_words.generation (first_anchor images) < FIRST_GENERATION_REFUSED
early images s =
    let o : Opened = bank images in
    let is : IsOpening o = a-bank images s in
    let whole : IsWholeBlock (block_of o) (block_in (block_of o)) = (found o is).whole in
    let n : ℕ = size_in o.anchor.0 in
    let len : length (block_of o) ≡ size_of (block_in (block_of o)) = sym whole.given in
    let cut = length-take n o.anchor.0 in
    let least : 216 ≤ size_of (block_in (block_of o)) = whole.sized.least in
    let same : generation_of (block_in (block_of o)) ≡ number_at 4 44 o.anchor.0 =
    sym (generation-at (block_of o)) ∙ number_at-take 4 44 n o.anchor.0 (omega (arith, len, cut, least)) in
    subst (λ (g : ℕ). g < FIRST_GENERATION_REFUSED) same is.first.startable
