-- The numbers that are put into a new block's bytes last. Source: family_num, orig_family_num and check_sum of struct
-- imsm_super of super-intel.c.
use Rattle.std.specs.Prelude.{ℕ, List, Option, unwrap_or}
use Rattle.imsm_base.specs.Fields.{with_number_at}
use Rattle.imsm_base.specs.Whole.{block_sum}

-- the number of the family in both its fields
abbrev pub with_family : ℕ → List ℕ → List ℕ
with_family family bytes = with_number_at 4 0x40 family (with_number_at 4 0x28 family bytes)

abbrev pub with_sum : List ℕ → List ℕ
with_sum bytes = with_number_at 4 0x20 (block_sum bytes) bytes

-- the number of the family, given or the sum of the bytes, and then the checksum
abbrev pub numbered : Option ℕ → List ℕ → List ℕ
numbered given bytes = with_sum (with_family (unwrap_or given (block_sum bytes)) bytes)
