-- What the words of a block are, on its bytes: the words of imsm_base. Source: super-intel.c (imsm_super and what it
-- holds). How a block lies on a disk is this project's own.
use Rattle.std.specs.Prelude.{◌≡◌, ℕ, ◌+◌, ◌==◌, ◌&&◌, ◌↔◌, nat_le, not, Bool, true, false, List, [], ◌++◌, length, map, take, flat_map, slice_get, None, is_none, sum_by}
use Rattle.std.specs.List.{list_any}
use Rattle.std.specs.Option.{option_map_or}
use Rattle.std.specs.Str.{bytes_eq}
use Rattle.units.specs.declared.disk.Sector.{Sector}
use Rattle.units.specs.declared.bounds.TheConstants.{MAX_BLOCK_BYTES, MAX_DISKS}
use Rattle.imsm_base.specs.Fields.{number_at}
use Rattle.imsm_base.specs.Layout.{Block, Volume, size_of, family_of, disk_count_of, serial_of, volume_size_of, unit_of, strip_of, pba_of, member_count_of}
use Rattle.imsm_base.specs.Whole.{IsWholeBlock, IsWholeDisk, expected_serials}
use Rattle.units.specs.Places.{extended_count}
use Rattle.imsm_base.specs.Volumes.{Member, members, first_map, is_expected_at, is_in_sync, is_dirty, is_unfinished, can_run, volume_level, volume_rows, pass_start, volume_fault, pass_of, second_map_bytes}
use Rattle.array_model.specs.Placement.{Shape}
use Rattle.array_model.specs.Blocks.{Laid, Words, SlotWords}

abbrev pub bytes_of_laid : Laid → List ℕ
bytes_of_laid m = take (number_at 4 0x24 m.anchor.0) (m.anchor.0 ++ flat_map (λ s. s.0) m.extended)

abbrev pub has_serial : List (List ℕ) → List ℕ → Bool
has_serial serials serial = list_any (λ s. bytes_eq s serial) serials

-- with one record more, of 48 bytes, and all second maps the block is in its bounds
abbrev pub is_small : Block → Bool
is_small b = nat_le (size_of b + 48 + sum_by second_map_bytes b.volumes) MAX_BLOCK_BYTES

abbrev pub has_index : ℕ → Volume → Bool
has_index i v = list_any (λ m. m.index == i) (members v)

-- the table has room, and no slot has the index that the next record gets
abbrev pub has_place : Block → Bool
has_place b = nat_le (disk_count_of b + 1) MAX_DISKS && not (list_any (has_index (disk_count_of b)) b.volumes)

abbrev pub slot_words : Block → Member → SlotWords
slot_words b m = record {
  index = m.index;
  serial = option_map_or serial_of (slice_get b.disks m.index) [];
  is_expected = is_expected_at b m.index;
  is_in_sync = is_in_sync b m;
}

abbrev pub shape_of : Volume → Shape
shape_of v = record {
  level = volume_level v;
  members = member_count_of (first_map v);
  size = volume_size_of v;
  strip = strip_of (first_map v);
  pba = pba_of (first_map v);
  rows = volume_rows v;
}

abbrev pub no_shape : Shape
no_shape = record { level = None; members = 0; size = 0; strip = 0; pba = 0; rows = 0 }

-- of volume v, where it is there
abbrev pub of_volume : {X : Type 0} → Block → ℕ → (Volume → X) → X → X
of_volume b v word none = option_map_or word (slice_get b.volumes v) none

-- the words of a whole block
pub record SaysBlock (W : Words) (m : Laid) (b : Block) : Type 0 where
  pub volumes : W.volumes m ≡ length b.volumes
  pub family : W.family m ≡ family_of b
  pub has_record : (serial : List ℕ) → W.has_record m serial ≡ has_serial (map serial_of b.disks) serial
  pub expects : (serial : List ℕ) → W.expects m serial ≡ has_serial (expected_serials b) serial
  pub has_room : W.has_room m ≡ (has_place b && is_small b)
  pub is_supported : (v : ℕ) → W.is_supported m v ≡ of_volume b v (λ x. is_none (volume_fault b v x)) false
  pub is_dirty : (v : ℕ) → W.is_dirty m v ≡ of_volume b v is_dirty false
  pub is_unfinished : (v : ℕ) → W.is_unfinished m v ≡ of_volume b v is_unfinished false
  pub can_run : (v : ℕ) → W.can_run m v ≡ of_volume b v (can_run b) false
  pub pass : (v : ℕ) → W.pass m v ≡ of_volume b v pass_of None
  pub unit : (v : ℕ) → W.unit m v ≡ of_volume b v unit_of 0
  pub pass_start : (v : ℕ) → W.pass_start m v ≡ of_volume b v pass_start 0
  pub shape : (v : ℕ) → W.shape m v ≡ of_volume b v shape_of no_shape
  pub slots : (v : ℕ) → W.slots m v ≡ of_volume b v (λ x. map (slot_words b) (members x)) []

-- the words are those of the bytes
pub record ReadsBlocks (W : Words) : Type 0 where
  pub extra : (s : Sector) → W.extra s ≡ extended_count (number_at 4 0x24 s.0)
  pub generation : (s : Sector) → W.generation s ≡ number_at 4 0x2c s.0
  pub is_whole : (serial : List ℕ) (n : ℕ) (m : Laid)
      → (W.is_whole serial n m ≡ true) ↔ ((b : Block) × IsWholeDisk serial n (bytes_of_laid m) b)
  pub says : (m : Laid) (b : Block) → IsWholeBlock (bytes_of_laid m) b → SaysBlock W m b
