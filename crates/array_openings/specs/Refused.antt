-- Settings that are refused: two disks of one serial, and a run over a block that was edited since. Source: this
-- project's own.
use Rattle.std.specs.Prelude.{[], ◌∷◌}
use Rattle.new_container.specs.Example.{disk_of, mirror}
use Rattle.array_machine.specs.Setting.{Setting}
use Rattle.array_openings.specs.Banks.{Bank, setting_of_bank}
use Rattle.array_openings.specs.NewBanks.{new_bank}
use Rattle.array_openings.specs.Worked.{writes_and_reads, without_a_disk, before_it_failed}

-- a mirror over two disks of one serial
abbrev pub of_one_serial : Bank
of_one_serial = new_bank mirror (disk_of 0x41 ∷ disk_of 0x41 ∷ []) [] [] writes_and_reads

-- the bank of the mirror that lost a disk, but the newest block is said to be that of before
abbrev pub over_an_old_block : Setting
over_an_old_block =
    let S = setting_of_bank without_a_disk in
    record S { start = record S.start { newest = before_it_failed.block } }
