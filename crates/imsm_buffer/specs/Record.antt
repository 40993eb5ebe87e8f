-- A record that is added to a block, as a part of it. Source: struct imsm_disk of super-intel.c.
use Rattle.std.specs.Prelude.{◌/◌, ◌%◌, ◌^◌, [], ◌∷◌, replicate}
use Rattle.byteorder.specs.Endian.{little_bytes}
use Rattle.imsm_base.specs.Fields.{Part}
use Rattle.imsm_buffer.specs.declared.record.DiskRecord.{DiskRecord}

abbrev pub part_of : DiskRecord → Part
part_of added =
    added.serial.0 ∷ little_bytes 4 (added.blocks % 2 ^ 32) ∷ little_bytes 4 added.scsi ∷ little_bytes 4 added.status
    ∷ little_bytes 4 added.owner ∷ little_bytes 4 (added.blocks / 2 ^ 32) ∷ replicate 12 0 ∷ []
