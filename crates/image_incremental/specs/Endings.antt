-- How the arrival of the disks of a bank ends. Source: mdadm --incremental (Incremental.c) takes the disks one by one
-- and starts a container as soon as it can; the words are this project's own.
use Rattle.std.specs.Prelude.{◌≡◌, ℕ, ◌+◌, ◌-◌, ◌<◌, ◌≤◌, ◌⊎◌, Bool, true, false, List, length, take, slice_get, Option, Some}
use Rattle.device_log.specs.Log.{Call}
use Rattle.container.specs.declared.seen.Seen.{Seen}
use Rattle.container.specs.declared.verdict.Verdict.{Verdict}
use Rattle.container.specs.Verdicts.{IsVerdict}
use Rattle.assembly.specs.Seen.{IsSeen, Looks, are_unread}
use Rattle.incremental.specs.Arrivals.{is_ready}
use Rattle.image_outside.specs.Told.{BankTold}
use Rattle.image_assemble.specs.Endings.{IsEmpty}
use Rattle.image_incremental.specs.Lines.{all_lines}
use Rattle.verdict_text.specs.Status.{verdict_status}

-- some first disks of a bank were looked at, each once and in order, and seen so, and nothing else was done
pub record HasSeenFirst (bank : BankTold) (before : Option (List Call)) (seen : List Seen) : Type 0 where
  pub few : length seen ≤ length bank.serials
  pub each : (k : ℕ) (s : Seen) → slice_get seen k ≡ Some s
      → IsSeen bank.serials bank.sizes bank.opening before bank.log (λ d. 0) bank.faults k s
  pub looks : Looks bank.sizes bank.opening 0 before (are_unread seen) bank.log

-- each verdict is that on the disks that had arrived, and none but the last opens the container
pub record AreVerdicts (run : Bool) (seen : List Seen) (verdicts : List Verdict) : Type 0 where
  pub count : length verdicts ≡ length seen
  pub each : (k : ℕ) (v : Verdict) → slice_get verdicts k ≡ Some v → IsVerdict (take (k + 1) seen) run v
  pub waits : (k : ℕ) (v : Verdict) → slice_get verdicts k ≡ Some v → k + 1 < length verdicts → is_ready v ≡ false

-- The disks of a bank on which no call had been made arrived one after the other, each of which was looked at, until a
-- verdict opened the container, or all had; and nothing else was done. The lines are those of the disks and of the
-- verdicts, and of the disks that came too late, and the status is that of the last verdict.
pub record Arrives (run : Bool) (bank : BankTold) (lines : List ℕ) (status : ℕ) : Type 0 where
  pub before : Option (List Call)
  pub fresh : IsEmpty before
  pub seen : List Seen
  pub sees : HasSeenFirst bank before seen
  pub verdicts : List Verdict
  pub are : AreVerdicts run seen verdicts
  pub last : Verdict
  pub last_is : slice_get verdicts (length verdicts - 1) ≡ Some last
  pub over : (is_ready last ≡ true) ⊎ (length seen ≡ length bank.serials)
  pub lines_are : lines ≡ all_lines bank.serials verdicts
  pub status_is : status ≡ verdict_status last
