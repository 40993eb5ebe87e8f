-- The words that are read from a block's bytes are those of imsm_base.
use Rattle.std.proofs.Common.{refl, subst}
use Rattle.imsm_base.proofs.Joined.{block_in-spelled}
use Rattle.array_model.specs.Blocks.{Laid}
use Rattle.block_meaning.specs.Meaning.{bytes_of_laid, SaysBlock, ReadsBlocks}
use Rattle.block_meaning.specs.Reading.{parts_of, block_words}
use Rattle.block_meaning.proofs.Decided.{disk-decided, disk-apart}

says-parts : (m : Laid) → SaysBlock block_words m (parts_of m)
says-parts m = record {
  volumes = refl;
  family = refl;
  has_record = λ serial. refl;
  expects = λ serial. refl;
  has_room = refl;
  is_supported = λ v. refl;
  is_dirty = λ v. refl;
  is_unfinished = λ v. refl;
  can_run = λ v. refl;
  pass = λ v. refl;
  unit = λ v. refl;
  pass_start = λ v. refl;
  shape = λ v. refl;
  slots = λ v. refl;
}

pub reads_blocks : ReadsBlocks block_words
reads_blocks = record {
  extra = λ s. refl;
  generation = λ s. refl;
  is_whole = λ serial n m. (
    λ t. (parts_of m, (disk-decided serial n (bytes_of_laid m)).0 t),
    λ p. (disk-decided serial n (bytes_of_laid m)).1 (disk-apart serial n (bytes_of_laid m) p.0 p.1),
  );
  says = λ m b w. subst (SaysBlock block_words m) (block_in-spelled (bytes_of_laid m) b w.spells) (says-parts m);
}
