-- How an assembly ends. Source: this project's own.
use Rattle.std.specs.Prelude.{◌≡◌, ℕ, Bool, List, [], Option, IfSome}
use Rattle.device_log.specs.Log.{Call}
use Rattle.image_outside.specs.Told.{BankTold}
use Rattle.container.specs.declared.seen.Seen.{Seen}
use Rattle.container.specs.declared.verdict.Verdict.{Verdict}
use Rattle.container.specs.Verdicts.{IsVerdict}
use Rattle.assembly.specs.Seen.{AreSeen, LooksAtFront}
use Rattle.verdict_text.specs.Lines.{verdict_lines}
use Rattle.verdict_text.specs.Status.{verdict_status}

-- a log before which no call was made
abbrev pub IsEmpty : Option (List Call) → Type 0
IsEmpty log = IfSome log (λ calls. calls ≡ [])

-- All disks of a bank on which no call had been made were looked at, each once and in order, and nothing else was done.
-- The lines and the status are those of the verdict on what was seen of them.
pub record Assembles (run : Bool) (bank : BankTold) (lines : List ℕ) (status : ℕ) : Type 0 where
  pub before : Option (List Call)
  pub fresh : IsEmpty before
  pub seen : List Seen
  pub sees : AreSeen bank.serials bank.sizes bank.opening before bank.log (λ d. 0) bank.faults seen
  pub verdict : Verdict
  pub says : IsVerdict seen run verdict
  pub lines_are : lines ≡ verdict_lines bank.serials bank.serials verdict
  pub status_is : status ≡ verdict_status verdict

-- some first disks of such a bank were looked at, each once and in order, and nothing else was done
pub record HasLookedFirst (bank : BankTold) : Type 0 where
  pub before : Option (List Call)
  pub fresh : IsEmpty before
  pub looks : LooksAtFront bank.sizes bank.opening before bank.log
