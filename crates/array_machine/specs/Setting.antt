-- What a run takes as given, and the edits by meaning that rounds and updates make of the book. Source: the updates of
-- super-intel.c (imsm_set_array_state, mark_failure, imsm_process_update); which of them are kept apart is this
-- project's own.
use Rattle.std.specs.Prelude.{ℕ, Bool, List, [], ◌∷◌}
use Rattle.units.specs.declared.disk.Sector.{Sector}
use Rattle.array_model.specs.Script.{Asked}
use Rattle.array_model.specs.Blocks.{Laid}
use Rattle.array_model.specs.Start.{Start}

-- what an edit asks beside the block: of each volume whether it is broken, of each serial whether its disk works
pub record Facts : Type 0 where
  pub is_broken : ℕ → Bool
  pub works : List ℕ → Bool

-- An edit of a block: it takes a generation, records that a disk failed or that it counts out, makes a volume dirty or
-- clean, records how far a pass has come, closes a pass, starts a volume, puts a spare in the place of the failed
-- record of an index, removes the record of a disk, names a volume.
pub data Edit : Type 0 where
  TakesGeneration : (generation : ℕ) → Edit
  FailsDisk : (serial : List ℕ) → Edit
  CountsOut : (serial : List ℕ) → Edit
  MakesDirty : (v : ℕ) → Edit
  MakesClean : (v : ℕ) → Edit
  RecordsUnit : (v unit : ℕ) → Edit
  ClosesPass : (v : ℕ) → Edit
  StartsVolume : (v : ℕ) → Edit
  ActivatesDisk : (serial : List ℕ) (index : ℕ) → Edit
  RemovesDisk : (serial : List ℕ) → Edit
  NamesVolume : (v : ℕ) (name : List ℕ) → Edit

-- What updates and takeovers ask of blocks beside their words: two blocks are the same up to their sizes; the table of
-- records is full, or a slot has the index of the next record; the record of an index is there and isn't expected; a
-- slot, in any map, has the record of a serial.
pub record BlockTests : Type 0 where
  pub same_block : Laid → Laid → Bool
  pub is_full : Laid → Bool
  pub is_failed : Laid → ℕ → Bool
  pub is_used : Laid → List ℕ → Bool

-- The start, the script, one edit of a block, the block that a spare gets (by the book and the disk), the parity of two
-- sectors, and what is asked of blocks.
pub record Setting : Type 0 where
  pub start : Start
  pub asked : Asked
  pub edit : Facts → Laid → Edit → Laid
  pub spare : Laid → ℕ → Laid
  pub xor : Sector → Sector → Sector
  pub tests : BlockTests

-- a block with these edits, one after the other
abbrev pub edited : Setting → Facts → Laid → List Edit → Laid
edited S f m [] = m
edited S f m (e ∷ es) = edited S f (S.edit f m e) es
