-- What the outside of a command tells at one moment. Source: this project's own.
use Rattle.std.specs.Prelude.{ℕ, List, Option}
use Rattle.units.specs.declared.disk.Sector.{Sector}
use Rattle.units.specs.declared.disk.Serial.{Serial}
use Rattle.device_log.specs.Log.{Call}
use Rattle.member_bank.specs.declared.Bank as bank

-- A bank: the serials of its disks and their sizes in sectors; the sectors that each had when it was opened and the
-- calls since then, where these are told; and how often each disk has failed.
pub record BankTold : Type 0 where
  pub serials : List Serial
  pub sizes : List ℕ
  pub opening : Option (List (List Sector))
  pub log : Option (List Call)
  pub faults : ℕ → ℕ

abbrev pub bank_told : {B : Type 0} → bank.Ghosts B → B → BankTold
bank_told g b =
    record { serials = g.serials b; sizes = g.sizes b; opening = g.opening b; log = g.log b; faults = g.faults_of b }

-- A shelf: its bank, but while it is lent; the paths of the files that were opened, in their order, which are the disks
-- of the bank; and how often a file couldn't be opened.
pub record ShelfTold : Type 0 where
  pub bank : Option BankTold
  pub paths : List (List ℕ)
  pub faults : ℕ

-- a source: the bytes that are left, where they are told, and how often a read has failed
pub record SourceTold : Type 0 where
  pub left : Option (List ℕ)
  pub faults : ℕ

-- a sink: the bytes written so far, where they are told, and how often a write has failed
pub record SinkTold : Type 0 where
  pub written : Option (List ℕ)
  pub faults : ℕ
