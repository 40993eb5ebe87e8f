-- The record that speaks for a serial, and whether its disk has the sectors that it asks for.
-- Source: `own_record` and `IsWholeDisk` of imsm_base.
use Rattle.std.specs.Prelude.{ℕ, ◌≤◌, ◌&&◌, ◌||◌, not, Bool, List}
use Rattle.std.specs.Option.{IsSomeAnd}
use Rattle.std.specs.Str.{bytes_eq}
use Rattle.units.specs.declared.bounds.TheConstants.{METADATA_SECTORS}
use Rattle.imsm_base.specs.Fields.{Part}
use Rattle.imsm_base.specs.Layout.{Block, serial_of, total_blocks_of}
use Rattle.imsm_base.specs.Whole.{is_expected, own_record}

-- a record has the serial, and is expected if that is asked
abbrev pub is_own : Bool → List ℕ → Part → Bool
is_own only_expected own disk = (not only_expected || is_expected disk) && bytes_eq (serial_of disk) own

-- what makes a disk of so many sectors whole, where its block is
pub record FitsDisk (own : List ℕ) (n : ℕ) (b : Block) : Type 0 where
  pub enough : METADATA_SECTORS ≤ n
  pub own_fits : IsSomeAnd (own_record own b) (λ d. total_blocks_of d ≤ n)
