-- The edits of a block's bytes, each as imsm_edit and imsm_buffer make it.
-- Source: the updates of super-intel.c (imsm_set_array_state, mark_failure, end_migration, imsm_process_update).
use Rattle.std.specs.Prelude.{ℕ, Bool, List, ◌++◌, map, find, take, length, replicate}
use Rattle.std.specs.List.{range_with_len}
use Rattle.std.specs.Option.{option_map_or}
use Rattle.std.specs.Str.{bytes_eq}
use Rattle.units.specs.declared.bounds.TheConstants.{SERIAL_BYTES}
use Rattle.imsm_base.specs.Layout.{Block, serial_of, bytes_of}
use Rattle.imsm_base.specs.Edits.{block_with_generation, sealed}
use Rattle.imsm_base.specs.EditsOfTables.{block_with_name}
use Rattle.imsm_edit.specs.declared.facts.EditFacts.{EditFacts}
use Rattle.imsm_edit.specs.Meanings.{marked_dirty, marked_clean, marked_point}
use Rattle.imsm_edit.specs.Passes.{marked_started}
use Rattle.imsm_edit.specs.Failures.{marked_failed}
use Rattle.array_model.specs.Blocks.{Laid}
use Rattle.array_model.specs.Start.{Disks, Start}
use Rattle.block_meaning.specs.Reading.{parts_of}
use Rattle.array_machine.specs.Setting.{Facts, Edit, TakesGeneration, FailsDisk, CountsOut, MakesDirty, MakesClean, RecordsUnit, ClosesPass, StartsVolume, ActivatesDisk, RemovesDisk, NamesVolume}
use Rattle.array_edits.specs.Laying.{laid_of}
use Rattle.array_edits.specs.Records.{expected_index, activated_record, with_spare, without_serial}
use Rattle.array_edits.specs.Passes.{marked_closed, marked_out}

-- WHAT EDITS TAKE AS GIVEN

-- of each record whether its disk works, by its serial
abbrev pub working_in : Facts → Block → List Bool
working_in f b = map (λ d. f.works (serial_of d)) b.disks

-- the same facts by the numbers of the block's volumes and records
abbrev pub facts_in : Start → Facts → Block → EditFacts
facts_in start f b = record {
  started = record { items = map start.is_started (range_with_len 0 (length b.volumes)) };
  broken = record { items = map f.is_broken (range_with_len 0 (length b.volumes)) };
  working = record { items = working_in f b };
}

-- the sectors of the disk with this serial
abbrev pub sectors_of : Disks → List ℕ → ℕ
sectors_of disks serial =
    option_map_or disks.sectors (find (λ d. bytes_eq (disks.serial d) serial) (range_with_len 0 disks.count)) 0

-- a name in the bytes that are there for it
abbrev pub name_bytes : List ℕ → List ℕ
name_bytes name = take SERIAL_BYTES (name ++ replicate SERIAL_BYTES 0)

-- THE EDITS

-- of the expected record of a serial; without one there is nothing to do
abbrev pub at_expected : List ℕ → (ℕ → Block) → Block → Block
at_expected serial edit b = option_map_or edit (expected_index serial b) b

abbrev pub block_edited : Start → Facts → Block → Edit → Block
block_edited start f b (TakesGeneration g) = block_with_generation b g
block_edited start f b (FailsDisk s) = at_expected s (λ i. marked_failed b i (facts_in start f b)) b
block_edited start f b (CountsOut s) = at_expected s (λ i. marked_out b i (facts_in start f b)) b
block_edited start f b (MakesDirty v) = marked_dirty b v (f.is_broken v)
block_edited start f b (MakesClean v) = marked_clean b v (f.is_broken v)
block_edited start f b (RecordsUnit v unit) = marked_point b v (f.is_broken v) unit
block_edited start f b (ClosesPass v) = marked_closed b v (f.is_broken v) (working_in f b)
block_edited start f b (StartsVolume v) = marked_started b v (f.is_broken v)
block_edited start f b (ActivatesDisk s i) =
    with_spare start.is_started f.is_broken i (activated_record s (sectors_of start.disks s)) b
block_edited start f b (RemovesDisk s) = without_serial s b
block_edited start f b (NamesVolume v name) = block_with_name b v (name_bytes name)

-- the bytes are taken apart, edited, and laid with the size and the checksum that fit
abbrev pub real_edit : Start → Facts → Laid → Edit → Laid
real_edit start f m e = laid_of (sealed (bytes_of (block_edited start f (parts_of m) e)))
