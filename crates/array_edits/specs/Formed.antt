-- The form of blocks that edits keep: a whole block in its sectors, of which each started volume is supported, and
-- which stays in its bounds when each volume gets a second map. A unit has room for the rows of each volume. Source: this project's own.
use Rattle.std.specs.Prelude.{◌≡◌, ℕ, ◌+◌, ◌<◌, ◌^◌, ◌==◌, ◌&&◌, ◌||◌, nat_lt, nat_le, not, Bool, true, false, [], ◌∷◌, length, is_none, sum_by}
use Rattle.std.specs.List.{list_all}
use Rattle.units.specs.declared.bounds.TheConstants.{MAX_BLOCK_BYTES, MAX_VOLUMES, SECTOR_BYTES, SERIAL_BYTES}
use Rattle.units.specs.declared.disk.Sector.{Sector}
use Rattle.imsm_base.specs.Layout.{Block, size_of}
use Rattle.imsm_base.specs.Volumes.{second_map_bytes, volume_fault, volume_rows}
use Rattle.array_model.specs.Blocks.{Laid}
use Rattle.array_model.specs.Start.{Start}
use Rattle.block_meaning.specs.Meaning.{bytes_of_laid, of_volume}
use Rattle.block_meaning.specs.Reading.{parts_of, block_words}
use Rattle.block_meaning.specs.Whole.{is_whole_block}

-- with all second maps the block is in its bounds
abbrev pub has_bounds : Block → Bool
has_bounds b = nat_le (size_of b + sum_by second_map_bytes b.volumes) MAX_BLOCK_BYTES

-- a volume that is started is there and supported
abbrev pub is_served : Start → Block → ℕ → Bool
is_served start b v = not (start.is_started v) || of_volume b v (λ x. is_none (volume_fault b v x)) false

abbrev pub is_full : Sector → Bool
is_full s = length s.0 == SECTOR_BYTES

-- its sectors are full, and as many extended ones as belong to the anchor
abbrev pub is_placed : Laid → Bool
is_placed m = is_full m.anchor && list_all is_full m.extended && (block_words.extra m.anchor == length m.extended)

-- the rows of a volume have eight bytes, as the unit that a pass has come to
abbrev pub has_short_rows : Block → Bool
has_short_rows b = list_all (λ v. nat_lt (volume_rows v) (2 ^ 64)) b.volumes

abbrev pub is_formed : Start → Laid → Bool
is_formed start m =
    is_placed m && is_whole_block (bytes_of_laid m) (parts_of m) && has_bounds (parts_of m)
    && list_all (is_served start (parts_of m)) (0 ∷ 1 ∷ []) && has_short_rows (parts_of m)

-- what edits ask of a start: a volume that is started has a number that a volume may have, and serials fill their bytes
pub record IsEditable (start : Start) : Type 0 where
  pub few : (v : ℕ) → start.is_started v ≡ true → v < MAX_VOLUMES
  pub serials : (d : ℕ) → d < start.disks.count → length (start.disks.serial d) ≡ SERIAL_BYTES
