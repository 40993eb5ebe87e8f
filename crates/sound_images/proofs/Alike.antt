-- Blocks of one generation that sound disks hold say alike.
use Rattle.std.proofs.Common.{◌≡◌, List, sym, subst, ◌∙◌}
use Rattle.imsm_base.specs.Layout.{Block}
use Rattle.imsm_base.specs.Whole.{IsWholeBlock}
use Rattle.array_model.specs.Blocks.{Laid, Words, SaysAlike}
use Rattle.block_meaning.specs.Meaning.{bytes_of_laid, SaysBlock, ReadsBlocks}
use Rattle.sound_images.specs.Images.{Image, IsHeld, AreOneContainer}

-- what is said of the same block
alike_on : (W : Words) (m n : Laid) (b : Block) → W.generation m.anchor ≡ W.generation n.anchor → SaysBlock W m b → SaysBlock W n b → SaysAlike W m n
alike_on W m n b generation one other = record {
  generation = generation;
  family = one.family ∙ sym other.family;
  volumes = one.volumes ∙ sym other.volumes;
  has_record = λ serial. one.has_record serial ∙ sym (other.has_record serial);
  expects = λ serial. one.expects serial ∙ sym (other.expects serial);
  is_supported = λ v. one.is_supported v ∙ sym (other.is_supported v);
  is_dirty = λ v. one.is_dirty v ∙ sym (other.is_dirty v);
  is_unfinished = λ v. one.is_unfinished v ∙ sym (other.is_unfinished v);
  can_run = λ v. one.can_run v ∙ sym (other.can_run v);
  pass = λ v. one.pass v ∙ sym (other.pass v);
  unit = λ v. one.unit v ∙ sym (other.unit v);
  pass_start = λ v. one.pass_start v ∙ sym (other.pass_start v);
  shape = λ v. one.shape v ∙ sym (other.shape v);
  slots = λ v. one.slots v ∙ sym (other.slots v);
}

-- a block that a disk holds is whole by its bytes
whole_held : (W : Words) (images : List Image) (m : Laid) → ReadsBlocks W → IsHeld W images m → (b : Block) × IsWholeBlock (bytes_of_laid m) b
whole_held W images m reads held = let is = (reads.is_whole held.disk.serial held.disk.sectors m).0 held.whole in (is.0, is.1.whole)

pub of_one_generation : (W : Words) (images : List Image) (a b : Laid) → ReadsBlocks W → AreOneContainer W bytes_of_laid images → IsHeld W images a → IsHeld W images b
    → W.generation a.anchor ≡ W.generation b.anchor → SaysAlike W a b
of_one_generation W images a b reads one first second generation =
    let whole = whole_held W images a reads first in
    let other : IsWholeBlock (bytes_of_laid b) whole.0 = subst (λ bytes. IsWholeBlock bytes whole.0) (one.same a b first second generation) whole.1 in
    alike_on W a b whole.0 generation (reads.says a whole.0 whole.1) (reads.says b whole.0 other)
