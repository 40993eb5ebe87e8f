-- The checksum, the counts and the disk table of a block.
-- Source: __gen_imsm_checksum and load_imsm_mpb of super-intel.c; the bounds on the counts and the rule on serials are
-- this project's own.
use Rattle.std.specs.Prelude.{◌≡◌, ℕ, ◌+◌, ◌*◌, ◌<◌, ◌≤◌, ◌&&◌, Bool, true, false, List, [], length, slice_index_or}
use Rattle.std.specs.Str.{bytes_eq}
use Rattle.imsm_base.specs.Fields.{Part, number_at}
use Rattle.imsm_base.specs.Layout.{serial_of}
use Rattle.imsm_base.specs.Whole.{block_sum, AreCounts, is_expected}

abbrev pub IsSummed : List ℕ → Type 0
IsSummed bytes = number_at 4 0x20 bytes ≡ block_sum bytes

-- the counts of disks and volumes are in their bounds, and the disk table lies inside
pub record HasTable (bytes : List ℕ) : Type 0 where
  pub counts : AreCounts (number_at 1 0x38 bytes) (number_at 1 0x39 bytes)
  pub room : 216 + 48 * number_at 1 0x38 bytes ≤ length bytes

pub record IsTabled (bytes : List ℕ) : Type 0 where
  pub summed : IsSummed bytes
  pub table : HasTable bytes

-- two records are expected and have one serial
abbrev pub are_twins : Part → Part → Bool
are_twins disk other = is_expected disk && is_expected other && bytes_eq (serial_of disk) (serial_of other)

abbrev pub are_twins_at : List Part → ℕ → ℕ → Bool
are_twins_at disks i j = are_twins (slice_index_or disks i []) (slice_index_or disks j [])

-- no two are twins
abbrev pub HasNoTwins : List Part → Type 0
HasNoTwins disks = (i j : ℕ) → i < j → j < length disks → are_twins_at disks i j ≡ false

-- the first record with a twin, and its first twin
pub record AreFirstTwins (disks : List Part) (i j : ℕ) : Type 0 where
  pub order : i < j
  pub inside : j < length disks
  pub twins : are_twins_at disks i j ≡ true
  pub rows : (k l : ℕ) → k < i → k < l → l < length disks → are_twins_at disks k l ≡ false
  pub before : (l : ℕ) → i < l → l < j → are_twins_at disks i l ≡ false
