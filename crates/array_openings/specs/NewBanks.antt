-- Banks over which a container was made, and the same after edits of its block. Source: this project's own.
use Rattle.std.specs.Prelude.{◌≡◌, ℕ, ◌<◌, nat_lt, true, List, ◌++◌, length, map, All}
use Rattle.std.specs.List.{AllByRecursion}
use Rattle.imsm_base.specs.Whole.{AreApart}
use Rattle.array_model.specs.Script.{Asked}
use Rattle.block_meaning.specs.Reading.{block_words}
use Rattle.new_container.specs.declared.container.NewContainer.{NewContainer}
use Rattle.new_container.specs.declared.disk.NewDisk.{NewDisk}
use Rattle.new_container.specs.Created.{CanCreate, IsDisk, created_bytes, volume_count}
use Rattle.array_machine.specs.Numbers.{has}
use Rattle.array_machine.specs.Setting.{Facts, Edit, edited}
use Rattle.array_machine.specs.EditWords.{AreApt}
use Rattle.array_base.specs.Premises.{BringsRoomyDisk}
use Rattle.array_edits.specs.Laying.{laid_of}
use Rattle.array_openings.specs.Banks.{Bank, serial_in, setting_of_bank}

-- a container over disks, beside others; each of its volumes is started
abbrev pub new_bank : NewContainer → (disks others : List NewDisk) → (spares : List ℕ) → Asked → Bank
new_bank made disks others spares asked = record {
  disks = disks ++ others;
  block = laid_of (created_bytes made disks);
  started = λ v. nat_lt v (volume_count made);
  spares = spares;
  asked = asked;
}

-- the container can be made over its disks, and no two disks have one serial; spares are disks of the bank
pub record CanBeMade (made : NewContainer) (disks others : List NewDisk) (spares : List ℕ) : Type 0 where
  pub can : CanCreate made disks
  pub typed : All IsDisk disks
  pub others_typed : All IsDisk others
  pub apart : AreApart (map (λ (x : NewDisk). x.serial.0) (disks ++ others))
  pub spares_there : (d : ℕ) → has d spares ≡ true → d < length (disks ++ others)

-- the block with edits, on each disk that it then expects
abbrev pub edited_bank : Bank → Facts → List Edit → Bank
edited_bank k f es = record k { block = edited (setting_of_bank k) f k.block es }

-- the edits fit, the disks that they bring have room, and some disk is expected behind them
pub record CanBeEdited (k : Bank) (f : Facts) (es : List Edit) : Type 0 where
  pub apt : AreApt (setting_of_bank k) f k.block es
  pub roomy : AllByRecursion (BringsRoomyDisk (setting_of_bank k)) es
  pub member : ℕ
  pub expected : block_words.expects (edited_bank k f es).block (serial_in k.disks member) ≡ true
