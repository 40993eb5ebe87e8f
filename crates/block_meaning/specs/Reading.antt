-- The words of a block, read from its bytes: they are taken apart into the parts of a block, and its words are those of
-- imsm_base. Of bytes that spell no whole block they are still numbers, which say nothing.
-- Source: struct imsm_super and what it holds, of super-intel.c. How a block lies on a disk is this project's own.
use Rattle.std.specs.Prelude.{◌&&◌, false, [], length, map, None, is_none}
use Rattle.imsm_base.specs.Fields.{number_at}
use Rattle.imsm_base.specs.Layout.{Block, family_of, serial_of, unit_of}
use Rattle.imsm_base.specs.Parts.{block_in}
use Rattle.imsm_base.specs.Whole.{expected_serials}
use Rattle.units.specs.Places.{extended_count}
use Rattle.imsm_base.specs.Volumes.{members, is_dirty, is_unfinished, can_run, pass_start, volume_fault, pass_of}
use Rattle.array_model.specs.Blocks.{Laid, Words}
use Rattle.block_meaning.specs.Meaning.{bytes_of_laid, has_serial, has_place, is_small, of_volume, shape_of, no_shape, slot_words}
use Rattle.block_meaning.specs.Whole.{is_whole_disk}

abbrev pub parts_of : Laid → Block
parts_of m = block_in (bytes_of_laid m)

abbrev pub block_words : Words
block_words = record {
  extra = λ s. extended_count (number_at 4 0x24 s.0);
  generation = λ s. number_at 4 0x2c s.0;
  is_whole = λ serial n m. is_whole_disk serial n (bytes_of_laid m) (parts_of m);
  volumes = λ m. length (parts_of m).volumes;
  family = λ m. family_of (parts_of m);
  has_record = λ m serial. has_serial (map serial_of (parts_of m).disks) serial;
  expects = λ m serial. has_serial (expected_serials (parts_of m)) serial;
  has_room = λ m. has_place (parts_of m) && is_small (parts_of m);
  is_supported = λ m v. of_volume (parts_of m) v (λ x. is_none (volume_fault (parts_of m) v x)) false;
  is_dirty = λ m v. of_volume (parts_of m) v is_dirty false;
  is_unfinished = λ m v. of_volume (parts_of m) v is_unfinished false;
  can_run = λ m v. of_volume (parts_of m) v (can_run (parts_of m)) false;
  pass = λ m v. of_volume (parts_of m) v pass_of None;
  unit = λ m v. of_volume (parts_of m) v unit_of 0;
  pass_start = λ m v. of_volume (parts_of m) v pass_start 0;
  shape = λ m v. of_volume (parts_of m) v shape_of no_shape;
  slots = λ m v. of_volume (parts_of m) v (λ x. map (slot_words (parts_of m)) (members x)) [];
}
