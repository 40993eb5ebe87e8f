-- The edit of a round on a block's bytes: the generation, the dirty bit of volume 0, and the size and the checksum that
-- fit. It is written as one sector.
-- Source: write_super_imsm of super-intel.c, which raises the generation and sums the block anew with each write.
use Rattle.std.specs.Prelude.{ℕ, Bool, List, []}
use Rattle.imsm_base.specs.Edits.{with_generation, with_dirty, sealed, first_sector}
use Rattle.array_model.specs.Blocks.{Laid}
use Rattle.block_meaning.specs.Meaning.{bytes_of_laid}

abbrev pub renewed_bytes : List ℕ → ℕ → Bool → List ℕ
renewed_bytes bytes g y = sealed (with_dirty (with_generation bytes g) 0 y)

abbrev pub renewed : Laid → ℕ → Bool → Laid
renewed m g y = record {
  anchor = record { 0 = first_sector (renewed_bytes (bytes_of_laid m) g y) };
  extended = [];
}
