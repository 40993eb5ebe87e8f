-- The blocks that images hold are the blocks of containers that were seen.
use Rattle.std.proofs.Common.{◌≡◌, ◌<◌, ◌==◌, ℕ, zero, suc, Bool, true, false, cond, List, [], ◌∷◌, length, inl, inr, refl, sym, ◌∙◌, ap, subst, arith}
use Rattle.std.specs.Prelude.{Contains}
use Rattle.std.proofs.lemmas.Bool.Decides.{nat_tests}
use Rattle.std.proofs.lemmas.List.Elements.{Contains-append_cases, Contains-append_left, Contains-append_right}
use Rattle.imsm_base.specs.Layout.{family_of, generation_of, volume_count_of}
use Rattle.imsm_base.specs.Parts.{block_in}
use Rattle.imsm_base.specs.Whole.{IsWholeBlock, IsWholeDisk, standing}
use Rattle.imsm_base.proofs.Joined.{block_in-spelled}
use Rattle.imsm_buffer.specs.Buffer.{Buffer, parts_of}
use Rattle.imsm_codec.proofs.Found.{volumes_counted}
use Rattle.mpb_store.specs.declared.answer.Found.TheVariants as found
use Rattle.array_model.specs.Blocks.{Laid, Words}
use Rattle.block_meaning.specs.Meaning.{ReadsBlocks, SaysBlock, bytes_of_laid}
use Rattle.container.specs.declared.seen.Seen.{Seen}
use Rattle.container.specs.declared.seen.SeenAs.{SeenAs}
use Rattle.container.specs.declared.seen.SeenAs.TheVariants.{Whole, Blank, Torn, Unread}
use Rattle.container.specs.Seen.{Container, IsContainer, container_by, containers_of}
use Rattle.assembly.specs.Seen.{bytes_of, found_of}
use Rattle.sound_images.specs.Images.{Among, Image, IsHeld, IsHeldOn, block_on}
use Rattle.sound_images.proofs.Meaning.{same_bytes}
use Rattle.verdict_law.specs.OnImages.{AreSeenOn, IsSeenOn}
use Rattle.verdict_law.proofs.Stands.{found_whole, generation_stands, whole_found}

abbrev pub bytes_on_image : Image → List ℕ
bytes_on_image i = standing i.sectors i.at

-- a container's block stands on an image
pub record HasContainer (i : Image) : Type 0 where
  pub whole : IsWholeDisk i.serial i.sectors (bytes_on_image i) (block_in (bytes_on_image i))
  pub volume : 0 < volume_count_of (block_in (bytes_on_image i))

-- SEEN

-- a disk that was seen as whole has the block that stands on its image
pub whole_seen : (i : Image) (s : Seen) → IsSeenOn i s → found_of s.holds ≡ found.Whole
    → IsWholeDisk i.serial i.sectors (bytes_on_image i) (block_in (bytes_on_image i)) × (bytes_of s.holds ≡ bytes_on_image i)
whole_seen i s on is = (whole_found i.sectors i.at (on.full _) i.serial ((on.stands.exact on.read found.Whole).0 is), on.stands.loaded is)

pub container_seen : (i : Image) (s : Seen) → IsSeenOn i s → IsContainer s.holds → HasContainer i
container_seen i s on c =
    let whole = whole_seen i s on (ap found_of c.whole) in
    record {
      whole = whole.0;
      volume = subst (λ (b : List ℕ). 0 < volume_count_of (block_in b)) (sym (ap bytes_of c.whole) ∙ whole.1) c.volume;
    }

as_whole : (holds : SeenAs) → found_of holds ≡ found.Whole → (block : Buffer) × (holds ≡ Whole block)
as_whole (Whole block) is = (block, refl)
as_whole Blank is = absurd (cc is)
as_whole (Torn fault) is = absurd (cc is)
as_whole Unread is = absurd (cc is)

pub seen_container : (i : Image) (s : Seen) → IsSeenOn i s → HasContainer i → IsContainer s.holds
seen_container i s on has =
    let is : found_of s.holds ≡ found.Whole = (on.stands.exact on.read found.Whole).1 (found_whole i.sectors i.at (on.full _) i.serial has.whole) in
    let whole = as_whole s.holds is in
    record {
      block = whole.0;
      whole = whole.1;
      volume = subst (λ (b : List ℕ). 0 < volume_count_of (block_in b)) (sym (on.stands.loaded is) ∙ ap bytes_of whole.1) has.volume;
    }

-- the block of a disk that was seen is a container's
from_block : (d : ℕ) (holds : SeenAs) (c : Container) → Contains (container_by d holds) c → IsContainer holds × (bytes_of holds ≡ c.bytes)
from_block d (Whole block) c there = at (volume_count_of (parts_of block) == 0) refl there
  where
    at : (b : Bool) → (volume_count_of (parts_of block) == 0) ≡ b → Contains (cond b [] (record { disk = d; bytes = block.bytes } ∷ [])) c → IsContainer (Whole block) × (block.bytes ≡ c.bytes)
    at true is (k, below, same) = absurd (omega (arith, below))
    at false is (zero, below, same) = (record { block = block; whole = refl; volume = grind (arith, nat_tests, is) }, ap (λ (c : Container). c.bytes) same)
    at false is (suc k, below, same) = absurd (omega (arith, below))
from_block d Blank c (k, below, same) = absurd (omega (arith, below))
from_block d (Torn fault) c (k, below, same) = absurd (omega (arith, below))
from_block d Unread c (k, below, same) = absurd (omega (arith, below))

to_block : (d : ℕ) (holds : SeenAs) → IsContainer holds → Contains (container_by d holds) (record { disk = d; bytes = bytes_of holds })
to_block d holds c = subst (λ (h : SeenAs). Contains {X = Container} (container_by d h) (record { disk = d; bytes = bytes_of h })) (sym c.whole) here
  where
    here : Contains (container_by d (Whole c.block)) (record { disk = d; bytes = c.block.bytes })
    here =
        let some : (volume_count_of (parts_of c.block) == 0) ≡ false = grind (arith, nat_tests, c.volume) in
        subst (λ (b : Bool). Contains {X = Container} (cond b [] (record { disk = d; bytes = c.block.bytes } ∷ [])) (record { disk = d; bytes = c.block.bytes })) (sym some) (0, omega arith, refl)

-- each block of a container that was seen stands on an image, and each that stands there was seen
pub record IsOnImage (present : List Image) (bytes : List ℕ) : Type 0 where
  pub image : Image
  pub among : Among image present
  pub holds : HasContainer image
  pub same : bytes_on_image image ≡ bytes

pub on_image : (present : List Image) (seen : List Seen) → AreSeenOn present seen → (c : Container) → Contains (containers_of seen) c → IsOnImage present c.bytes
on_image [] [] on c (k, below, same) = absurd (omega (arith, below))
on_image [] (s ∷ seen) on c there = absurd on
on_image (i ∷ present) [] on c there = absurd on
on_image (i ∷ present) (s ∷ seen) on c there = elim (Contains-append_cases (container_by s.disk.0 s.holds) (containers_of seen) c there) [
  | inl here ↦ let from = from_block s.disk.0 s.holds c here in
      record { image = i; among = inl refl; holds = container_seen i s on.0 from.0; same = sym (whole_seen i s on.0 (ap found_of from.0.whole)).1 ∙ from.1 }
  | inr more ↦ let rest = on_image present seen on.1 c more in
      record { image = rest.image; among = inr rest.among; holds = rest.holds; same = rest.same }
]

-- the disk that was seen on an image
pub record IsSeenAmong (i : Image) (seen : List Seen) : Type 0 where
  pub disk : Seen
  pub there : Contains seen disk
  pub on : IsSeenOn i disk

pub seen_on : (present : List Image) (seen : List Seen) → AreSeenOn present seen → (i : Image) → Among i present → IsSeenAmong i seen
seen_on [] seen on i among = absurd among
seen_on (j ∷ present) [] on i among = absurd on
seen_on (j ∷ present) (s ∷ seen) on i (inl same) = record { disk = s; there = (0, omega arith, refl); on = subst (λ (x : Image). IsSeenOn x s) (sym same) on.0 }
seen_on (j ∷ present) (s ∷ seen) on i (inr among) =
    let more = seen_on present seen on.1 i among in
    record { disk = more.disk; there = Contains-append_right (s ∷ []) seen more.disk more.there; on = more.on }

-- the image that a disk was seen on
pub image_of : (present : List Image) (seen : List Seen) → AreSeenOn present seen → (s : Seen) → Contains seen s → (i : Image) × Among i present × IsSeenOn i s
image_of present [] on s (k, below, same) = absurd (omega (arith, below))
image_of [] (t ∷ seen) on s there = absurd on
image_of (i ∷ present) (t ∷ seen) on s (zero, below, same) = (i, inl refl, subst (IsSeenOn i) same on.0)
image_of (i ∷ present) (t ∷ seen) on s (suc k, below, same) =
    let more = image_of present seen on.1 s (k, omega (arith, below), same) in
    (more.0, inr more.1, more.2)

pub contains_block : (seen : List Seen) (s : Seen) → Contains seen s → IsContainer s.holds → Contains (containers_of seen) (record { disk = s.disk.0; bytes = bytes_of s.holds })
contains_block [] s (k, below, same) c = absurd (omega (arith, below))
contains_block (t ∷ seen) s (zero, below, same) c =
    Contains-append_left (container_by t.disk.0 t.holds) (containers_of seen) _ (subst (λ (x : Seen). Contains (container_by x.disk.0 x.holds) (record { disk = s.disk.0; bytes = bytes_of s.holds })) (sym same) (to_block s.disk.0 s.holds c))
contains_block (t ∷ seen) s (suc k, below, same) c =
    Contains-append_right (container_by t.disk.0 t.holds) (containers_of seen) _ (contains_block seen s (k, omega (arith, below), same) c)

-- HELD

module _ (W : Words) (reads : ReadsBlocks W) where
  -- the words of a block whose bytes are whole
  pub says : (m : Laid) (bytes : List ℕ) → bytes_of_laid m ≡ bytes → IsWholeBlock bytes (block_in bytes) → SaysBlock W m (block_in bytes)
  says m bytes same whole = reads.says m (block_in bytes) (subst (λ (b : List ℕ). IsWholeBlock b (block_in bytes)) (sym same) whole)

  pub has_container : (images : List Image) (m : Laid) (h : IsHeld W images m) → HasContainer h.disk × (bytes_of_laid m ≡ bytes_on_image h.disk)
  has_container images m h =
      let i = h.disk in
      let same : bytes_of_laid m ≡ bytes_on_image i = ap bytes_of_laid (sym h.stands) ∙ same_bytes W i reads in
      let p = (reads.is_whole i.serial i.sectors m).0 h.whole in
      let spelled : block_in (bytes_of_laid m) ≡ p.0 = block_in-spelled (bytes_of_laid m) p.0 p.1.whole.spells in
      let disk : IsWholeDisk i.serial i.sectors (bytes_of_laid m) (block_in (bytes_of_laid m)) = subst (IsWholeDisk i.serial i.sectors (bytes_of_laid m)) (sym spelled) p.1 in
      let there : IsWholeDisk i.serial i.sectors (bytes_on_image i) (block_in (bytes_on_image i)) = subst (λ (b : List ℕ). IsWholeDisk i.serial i.sectors b (block_in b)) same disk in
      (record { whole = there; volume = some (W.volumes m) _ ((says m (bytes_on_image i) same there.whole).volumes ∙ volumes_counted (bytes_on_image i)) h.container }, same)
    where
      some : (k n : ℕ) → k ≡ n → cond (k == 0) false true ≡ true → 0 < n
      some zero n same is = absurd (cc is)
      some (suc k) n same is = omega (arith, same)

  pub held_with : (images : List Image) (i : Image) → Among i images → HasContainer i → IsHeldOn W images i.serial (block_on W i)
  held_with images i among has =
      let m = block_on W i in
      let same : bytes_of_laid m ≡ bytes_on_image i = same_bytes W i reads in
      record {
        held = record {
          disk = i;
          among = among;
          stands = refl;
          whole = (reads.is_whole i.serial i.sectors m).1 (block_in (bytes_on_image i), subst (λ (b : List ℕ). IsWholeDisk i.serial i.sectors b (block_in (bytes_on_image i))) (sym same) has.whole);
          container = some (W.volumes m) _ ((says m (bytes_on_image i) same has.whole.whole).volumes ∙ volumes_counted (bytes_on_image i)) has.volume;
        };
        same = refl;
      }
    where
      some : (k n : ℕ) → k ≡ n → 0 < n → cond (k == 0) false true ≡ true
      some k n same is = let none : (k == 0) ≡ false = grind (arith, nat_tests, same, is) in ap (λ (b : Bool). cond b false true) none

  pub held_on : (images : List Image) (i : Image) → Among i images → HasContainer i → IsHeld W images (block_on W i)
  held_on images i among has = (held_with images i among has).held

  -- what a block that stands on an image, or is held, says of its family and its generation
  pub image_family : (i : Image) → HasContainer i → W.family (block_on W i) ≡ family_of (block_in (bytes_on_image i))
  image_family i has = (says (block_on W i) (bytes_on_image i) (same_bytes W i reads) has.whole.whole).family

  pub image_generation : (i : Image) → HasContainer i → ((place : ℕ) → length (i.at place).0 ≡ 512) → W.generation (block_on W i).anchor ≡ generation_of (block_in (bytes_on_image i))
  image_generation i has full = reads.generation _ ∙ generation_stands i.sectors i.at (full _) has.whole.whole

  pub family_is : (images : List Image) (m : Laid) (h : IsHeld W images m) → W.family m ≡ family_of (block_in (bytes_on_image h.disk))
  family_is images m h = ap (λ (m : Laid). W.family m) (sym h.stands) ∙ image_family h.disk (has_container images m h).0

  pub generation_is : (images : List Image) (m : Laid) (h : IsHeld W images m) → ((place : ℕ) → length (h.disk.at place).0 ≡ 512) → W.generation m.anchor ≡ generation_of (block_in (bytes_on_image h.disk))
  generation_is images m h full = ap (λ (m : Laid). W.generation m.anchor) (sym h.stands) ∙ image_generation h.disk (has_container images m h).0 full
