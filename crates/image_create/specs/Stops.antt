-- Calls that are made in their order, up to the first that fails. Source: this project's own.
use Rattle.std.specs.Prelude.{◌≡◌, ℕ, ◌≤◌, false, List, [], ◌∷◌, ◌++◌, Option}
use Rattle.device_log.specs.Log.{Call, What, Read, Write, Sync}
use Rattle.member_bank.specs.History.{sectors_asked}
use Rattle.member_bank.specs.Told.{Keeps, LogsAll}
use Rattle.image_outside.specs.Told.{BankTold}

-- what was asked, of a write with so many sectors stored
abbrev pub what_stored : What → ℕ → What
what_stored (Read place) stored = Read place
what_stored (Write place sectors all) stored = Write place sectors stored
what_stored Sync stored = Sync

-- the same call, but that it failed
abbrev pub failed_call : Call → ℕ → Call
failed_call call stored = record { disk = call.disk; what = what_stored call.what stored; went = false }

-- a run is a front of these calls, and behind it the next of them, which failed, on this disk
pub record IsStopped (calls : List Call) (d : ℕ) (run : List Call) : Type 0 where
  pub front : List Call
  pub next : Call
  pub rest : List Call
  pub stored : ℕ
  pub calls_are : calls ≡ front ++ next ∷ rest
  pub disk : next.disk ≡ d
  pub few : stored ≤ sectors_asked next.what
  pub run_is : run ≡ front ++ failed_call next stored ∷ []

-- a log that is told has such a run at its end
pub record StopsAt (old new : Option (List Call)) (calls : List Call) (d : ℕ) : Type 0 where
  pub run : List Call
  pub stopped : IsStopped calls d run
  pub logs : LogsAll old new run

-- the disks and what is told of their opening stay, and no count of faults falls
pub record KeepsBank (old new : BankTold) : Type 0 where
  pub named : new.serials ≡ old.serials
  pub sized : new.sizes ≡ old.sizes
  pub opened : Keeps old.opening new.opening
  pub later : (k : ℕ) → old.faults k ≤ new.faults k
