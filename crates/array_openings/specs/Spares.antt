-- The block that is written to a disk to make it a spare: one record, that of the disk, and no volume.
-- Source: init_super_imsm and write_super_imsm_spares of super-intel.c.
use Rattle.std.specs.Prelude.{ℕ, List, [], ◌∷◌}
use Rattle.imsm_base.specs.Fields.{Part}
use Rattle.imsm_base.specs.Layout.{Block, bytes_of}
use Rattle.imsm_base.specs.Edits.{sealed}
use Rattle.imsm_base.specs.EditsOfTables.{new_block}
use Rattle.imsm_buffer.specs.Record.{part_of}
use Rattle.array_model.specs.Blocks.{Laid}
use Rattle.array_edits.specs.Laying.{laid_of}

-- the record of a spare (SPARE_DISK)
abbrev pub spare_record : (serial : List ℕ) (sectors : ℕ) → Part
spare_record serial sectors =
    part_of (record { serial = record { 0 = serial }; blocks = sectors; scsi = 0; status = 1; owner = 0 })

abbrev pub spare_parts : (serial : List ℕ) (sectors : ℕ) → Block
spare_parts serial sectors = record new_block { disks = spare_record serial sectors ∷ [] }

-- of a disk with this serial and so many sectors
abbrev pub spare_block : (serial : List ℕ) (sectors : ℕ) → Laid
spare_block serial sectors = laid_of (sealed (bytes_of (spare_parts serial sectors)))
