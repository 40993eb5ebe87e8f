-- What a view of a metadata block knows of its bytes. Source: this project's own.
use Rattle.std.specs.Prelude.{◌≡◌, ℕ, ◌%◌, ◌≤◌, List, length}
use Rattle.units.specs.declared.bounds.TheConstants.{MAX_BLOCK_BYTES}
use Rattle.imsm_base.specs.Layout.{size_of}
use Rattle.imsm_base.specs.Parts.{block_in, room_of}

-- the parts have room in the bytes, mpb_size is in its range, and the bytes are words of four
pub record IsLaid (bytes : List ℕ) : Type 0 where
  pub room : room_of (block_in bytes) ≤ length bytes
  pub size : size_of (block_in bytes) ≤ MAX_BLOCK_BYTES
  pub words : length bytes % 4 ≡ 0
