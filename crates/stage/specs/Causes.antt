-- What turns keep of a bank, and the cause of a call that failed. Source: this project's own.
use Rattle.std.specs.Prelude.{◌≡◌, ℕ, ◌+◌, ◌≤◌, Bool, true, false, List, ◌++◌, length, Option, Some, None}
use Rattle.device_log.specs.Log.{Call}
use Rattle.units.specs.declared.disk.Serial.{Serial}
use Rattle.member_bank.specs.Faults.{Rose}
use Rattle.stage.specs.Stages.{Seen}

-- a disk whose call failed
abbrev pub failed_on : ℕ → Bool → Option ℕ
failed_on d true = None
failed_on d false = Some d

-- no count of faults fell, and a call failed only on a disk whose count rose
pub record Counts (before now : ℕ → ℕ) (failed : Option ℕ) : Type 0 where
  pub later : (d : ℕ) → before d ≤ now d
  pub cause : (d : ℕ) → failed ≡ Some d → Rose (before d) (now d)

-- a log that is told was told before, with as many calls fewer as were counted since
pub record Grows (told : Option (List Call)) (calls : ℕ) (now : Option (List Call)) (counted : ℕ) : Type 0 where
  pub by : (all : List Call) → now ≡ Some all → (before : List Call) × (more : List Call) × (told ≡ Some before)
      × (all ≡ before ++ more) × (counted ≡ calls + length more)

-- Turns lead from a to b: the bank has the same disks and each call in its log, no count of faults fell, and a call
-- failed only on a disk whose count rose. Where a call had failed before, all is as it was.
pub record KeepsBank {B : Type 0} (serials : B → List Serial) (sizes : B → List ℕ) (log : B → Option (List Call))
    (faults : B → ℕ → ℕ) (a b : Seen B) : Type 0 where
  pub serials_kept : serials b.bank ≡ serials a.bank
  pub sizes_kept : sizes b.bank ≡ sizes a.bank
  pub grows : Grows (log a.bank) a.calls (log b.bank) b.calls
  pub later : (d : ℕ) → faults a.bank d ≤ faults b.bank d
  pub cause : a.control.failed ≡ None → (d : ℕ) → b.control.failed ≡ Some d → Rose (faults a.bank d) (faults b.bank d)
  pub ended : (d : ℕ) → a.control.failed ≡ Some d → b ≡ a
