-- The block that bytes begin with: as many of them as mpb_size says.
-- Source: load_imsm_mpb of super-intel.c; the bounds on the size are this project's own.
use Rattle.std.specs.Prelude.{◌≡◌, ℕ, ◌≤◌, List, length, take}
use Rattle.units.specs.declared.bounds.TheConstants.{HEADER_BYTES}
use Rattle.imsm_base.specs.Fields.{number_at}
use Rattle.imsm_base.specs.Whole.{the_signature, IsSize}

abbrev pub size_in : List ℕ → ℕ
size_in bytes = number_at 4 0x24 bytes

abbrev pub given_block : List ℕ → List ℕ
given_block bytes = take (size_in bytes) bytes

-- the bytes begin with a header that is signed; it has a size in the bounds; and the block is all there
pub record IsSigned (bytes : List ℕ) : Type 0 where
  pub long : HEADER_BYTES ≤ length bytes
  pub signed : take 24 bytes ≡ the_signature

pub record IsSized (bytes : List ℕ) : Type 0 where
  pub signed : IsSigned bytes
  pub sized : IsSize (size_in bytes)

pub record IsGiven (bytes : List ℕ) : Type 0 where
  pub sized : IsSized bytes
  pub given : size_in bytes ≤ length bytes
