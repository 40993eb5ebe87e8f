-- The disk of an expected slot of a started volume has the sectors that the volume's rows take.
use Rattle.std.proofs.Common.{◌≡◌, ℕ, ◌+◌, ◌≤◌, ◌<◌, true, false, List, [], length, map, Option, Some, sym, ◌∙◌, ap, subst, inl, inr, arith}
use Rattle.std.specs.Prelude.{nat_le, slice_get}
use Rattle.std.specs.Option.{option_map_or, IsSomeAnd}
use Rattle.std.proofs.lemmas.Bool.{cases_lt, false≢true, leb-true}
use Rattle.std.proofs.lemmas.List.{get_or-map, length-map}
use Rattle.std.proofs.lemmas.Option.{slice_get-get_or, slice_get_within, get_or_from_slice_get}
use Rattle.units.specs.declared.bounds.TheConstants.{METADATA_SECTORS}
use Rattle.imsm_base.specs.Fields.{Part}
use Rattle.imsm_base.specs.Layout.{Block, Volume, serial_of, total_blocks_of, member_count_of}
use Rattle.imsm_base.specs.Volumes.{first_map, member, members, is_expected_at}
use Rattle.imsm_base.specs.Whole.{is_expected, own_record}
use Rattle.imsm_base.proofs.Joined.{spelled_once}
use Rattle.imsm_codec.specs.Mpb.{disk_at, volume_at, blank_volume}
use Rattle.imsm_view.proofs.Members.{length_members, member_here, blank}
use Rattle.array_model.specs.Blocks.{Laid, SlotWords}
use Rattle.array_model.specs.Placement.{Shape}
use Rattle.block_meaning.specs.Meaning.{bytes_of_laid, of_volume, shape_of, no_shape, slot_words}
use Rattle.block_meaning.specs.Reading.{parts_of}
use Rattle.array_machine.specs.Setting.{Setting}
use Rattle.array_base.specs.Premises.{IsWholeOnItsDisks, IsSlotOf}
use Rattle.array_edits.specs.Formed.{is_formed}
use Rattle.array_edits.specs.RealSettings.{IsReal}
use Rattle.array_edits.proofs.Disks.{record_at, record_past}
use Rattle.array_edits.proofs.Supports.{needed, Fits, fits, Supports, supports}
use Rattle.array_edits.proofs.Moves.{IsServed}
use Rattle.array_edits.proofs.Sound.{IsGood}
use Rattle.array_edits.proofs.Meant.{good, says}
use Rattle.array_openings.proofs.RecordWords.{Speaks, expected_speaks}

-- a word of a volume that is there
pub at_volume : {X : Type 0} (b : Block) (v : ℕ) (word : Volume → X) (none : X) → v < length b.volumes
    → of_volume b v word none ≡ word (volume_at v b)
at_volume b v word none below =
    ap (λ (o : Option Volume). option_map_or word o none) (slice_get-get_or b.volumes v blank_volume below)

-- a slot by its words
pub record IsMember (b : Block) (x : Volume) (slot : ℕ) (w : SlotWords) : Type 0 where
  pub inside : slot < member_count_of (first_map x)
  pub is : slot_words b (member x slot) ≡ w

pub member_of_words : (b : Block) (x : Volume) (slot : ℕ) (w : SlotWords)
    → slice_get (map (slot_words b) (members x)) slot ≡ Some w → IsMember b x slot w
member_of_words b x slot w there =
    let within : slot < length (map (slot_words b) (members x)) =
    slice_get_within (map (slot_words b) (members x)) slot w there in
    let many : length (map (slot_words b) (members x)) ≡ length (members x) = length-map (members x) (slot_words b) in
    let inside : slot < member_count_of (first_map x) = omega (arith, many, length_members x) in
    record {
      inside = inside;
      is = ap (slot_words b) (sym (member_here x slot blank inside))
          ∙ sym (get_or-map (slot_words b) (members x) slot blank w (omega (arith, many)))
          ∙ get_or_from_slice_get (map (slot_words b) (members x)) slot w w there;
    }

-- the record of an index that is expected is there
pub record IsExpectedRecord (b : Block) (i : ℕ) : Type 0 where
  pub below : i < length b.disks
  pub expected : is_expected (disk_at i b) ≡ true

pub expected_there : (b : Block) (i : ℕ) → is_expected_at b i ≡ true → IsExpectedRecord b i
expected_there b i expected = elim (cases_lt i (length b.disks)) [
  | inl below ↦ record { below = below; expected = sym (record_at is_expected false b i below) ∙ expected }
  | inr past ↦ absurd (false≢true (sym (record_past is_expected false b i past) ∙ expected))
]

some_fits : (o : Option Part) (d : Part) (n : ℕ) → o ≡ Some d → IsSomeAnd o (λ x. total_blocks_of x ≤ n)
    → total_blocks_of d ≤ n
some_fits o d n is fits = subst (λ (x : Option Part). IsSomeAnd x (λ x. total_blocks_of x ≤ n)) is fits

-- what a supported volume needs of a slot's disk, where the slot is expected and the block is whole on the disk
pub slot_fits : (S : Setting) (m : Laid) (v d : ℕ) (w : SlotWords) → IsReal S → is_formed S.start m ≡ true
    → IsWholeOnItsDisks S m → S.start.is_started v ≡ true → IsSlotOf S m v d w
    → needed (volume_at v (parts_of m)) ≤ S.start.disks.sectors d
slot_fits S m v d w r formed whole started seat =
    let b : Block = parts_of m in
    let x : Volume = volume_at v b in
    let g : IsGood S.start m = good S m r formed in
    let words = says S m r formed in
    let served : IsServed b v = g.sound.served v started in
    let supported : Supports b v x = supports b v x served.supported in
    let geometry : Fits b x = fits b x supported.geometry in
    let there = sym (words.slots v ∙ at_volume b v (λ y. map (slot_words b) (members y)) [] served.below) in
    let slot : ℕ = seat.slot in
    let here : IsMember b x slot w = member_of_words b x slot w
    (ap (λ (ws : List SlotWords). slice_get ws slot) there ∙ seat.is) in
    let i : ℕ = (member x slot).index in
    let record_is : IsExpectedRecord b i = expected_there b i
    (ap (λ (y : SlotWords). y.is_expected) here.is ∙ seat.expected) in
    let serial : List ℕ = S.start.disks.serial d in
    let same : serial_of (disk_at i b) ≡ serial = sym (record_at serial_of [] b i record_is.below)
    ∙ ap (λ (y : SlotWords). y.serial) here.is ∙ seat.serial in
    let speaks : Speaks b serial i = expected_speaks b serial i g.sound.apart record_is.below record_is.expected same in
    let on_disk = (r.reads.is_whole serial (S.start.disks.sectors d) m).0
    (whole d (words.expects serial ∙ speaks.expected)) in
    let once : on_disk.0 ≡ b = spelled_once (bytes_of_laid m) on_disk.0 b on_disk.1.whole.spells g.whole.spells in
    let most : total_blocks_of (disk_at i b) ≤ S.start.disks.sectors d =
    some_fits (own_record serial on_disk.0) (disk_at i b) (S.start.disks.sectors d)
    (ap (own_record serial) once ∙ speaks.own) on_disk.1.own_fits in
    let least : needed x ≤ total_blocks_of (disk_at i b) = leb-true (needed x) (total_blocks_of (disk_at i b))
    (sym (record_at (λ y. nat_le (needed x) (total_blocks_of y)) false b i record_is.below)
    ∙ geometry.sectors slot here.inside) in
    omega (arith, least, most)

pub seats : (S : Setting) (m : Laid) (v d : ℕ) (w : SlotWords) → IsReal S → is_formed S.start m ≡ true
    → IsWholeOnItsDisks S m → S.start.is_started v ≡ true → IsSlotOf S m v d w
    → (S.start.words.shape m v).pba + (S.start.words.shape m v).rows + METADATA_SECTORS ≤ S.start.disks.sectors d
seats S m v d w r formed whole started seat =
    let b : Block = parts_of m in
    let served : IsServed b v = (good S m r formed).sound.served v started in
    subst (λ (s : Shape). s.pba + s.rows + METADATA_SECTORS ≤ S.start.disks.sectors d)
    (sym ((says S m r formed).shape v ∙ at_volume b v shape_of no_shape served.below))
    (slot_fits S m v d w r formed whole started seat)
