-- A metadata block that is owned: its bytes, and how many the memory that it has takes. Source: this project's own.
use Rattle.std.specs.Prelude.{ℕ, ◌≤◌, List, length}
use Rattle.units.specs.declared.bounds.TheConstants.{MAX_BLOCK_BYTES}
use Rattle.imsm_base.specs.Layout.{Block, bytes_of}
use Rattle.imsm_base.specs.Parts.{block_in}
use Rattle.imsm_codec.specs.Laid.{IsLaid}

pub record Buffer : Type 0 where
  pub bytes : List ℕ
  pub room : ℕ

-- the one block that the bytes spell
abbrev pub parts_of : Buffer → Block
parts_of buffer = block_in buffer.bytes

-- the same buffer with the bytes of another block
abbrev pub with_block : Buffer → Block → Buffer
with_block buffer b = record buffer { bytes = bytes_of b }

-- bytes are a block's, in a room that is taken from memory
pub record IsKept (bytes : List ℕ) (room capacity : ℕ) : Type 0 where
  pub laid : IsLaid bytes
  pub fits : length bytes ≤ room
  pub most : room ≤ MAX_BLOCK_BYTES
  pub taken : room ≤ capacity
