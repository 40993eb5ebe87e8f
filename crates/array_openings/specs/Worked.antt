-- Five banks at rest, each of disks of 4,096 sectors: a mirror beside a spare; level 5 over three disks, whose block
-- has two sectors; two mirrors; a mirror that lost a disk; and level 10 with a pass over its rows to come. Source: this
-- project's own.
use Rattle.std.specs.Prelude.{List, [], ◌∷◌}
use Rattle.array_model.specs.declared.script.Ask.TheVariants.{Add}
use Rattle.array_model.specs.declared.script.OpKind.TheVariants.{Write, Read, Whole}
use Rattle.array_model.specs.Script.{Asked}
use Rattle.new_container.specs.Example.{disk_of, mirror, mirror_disks}
use Rattle.array_machine.specs.Setting.{Edit, FailsDisk, MakesDirty, StartsVolume, TakesGeneration}
use Rattle.array_edits.specs.Examples.{five, ten, two_mirrors, three_disks, four_disks, serial_of_letter, all_work}
use Rattle.array_openings.specs.Banks.{Bank}
use Rattle.array_openings.specs.NewBanks.{new_bank, edited_bank}

-- a client writes a sector of volume 0 and reads it
abbrev pub writes_and_reads : Asked
writes_and_reads = record {
  ops = record { client = 0; kind = Write (record { 0 = 0 }) 5 7 }
      ∷ record { client = 0; kind = Read (record { 0 = 0 }) 5 }
      ∷ [];
  asks = [];
}

-- a client waits until volume 0 is whole, and disk 2 is to become a spare
abbrev pub waits_for_a_spare : Asked
waits_for_a_spare = record {
  ops = record { client = 0; kind = Whole (record { 0 = 0 }) } ∷ [];
  asks = Add 2 ∷ [];
}

abbrev pub with_a_spare : Bank
with_a_spare = new_bank mirror mirror_disks (disk_of 0x43 ∷ []) (2 ∷ []) writes_and_reads

abbrev pub of_two_sectors : Bank
of_two_sectors = new_bank five three_disks [] [] writes_and_reads

abbrev pub of_two_volumes : Bank
of_two_volumes = new_bank two_mirrors mirror_disks [] [] writes_and_reads

-- disk B fails, and the third disk is blank
abbrev pub before_it_failed : Bank
before_it_failed = new_bank mirror mirror_disks (disk_of 0x43 ∷ []) [] waits_for_a_spare

abbrev pub loses_a_disk : List Edit
loses_a_disk = FailsDisk (serial_of_letter 0x42) ∷ TakesGeneration 2 ∷ []

abbrev pub without_a_disk : Bank
without_a_disk = edited_bank before_it_failed all_work loses_a_disk

-- it stopped dirty, and was started since
abbrev pub stops_dirty : List Edit
stops_dirty = MakesDirty 0 ∷ TakesGeneration 2 ∷ StartsVolume 0 ∷ TakesGeneration 3 ∷ []

abbrev pub before_it_stopped : Bank
before_it_stopped = new_bank ten four_disks [] [] writes_and_reads

abbrev pub with_a_pass : Bank
with_a_pass = edited_bank before_it_stopped all_work stops_dirty
