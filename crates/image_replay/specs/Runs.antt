-- What a run leaves, of a script on a bank whose disks held a container. Source: this project's own.
use Rattle.std.specs.Prelude.{◌≡◌, ℕ, ◌+◌, ◌<◌, List, ◌++◌, length, Option, Some, None, IfSome}
use Rattle.units.specs.declared.disk.Sector.{Sector}
use Rattle.device_log.specs.Log.{Call}
use Rattle.member_bank.specs.Faults.{Rose}
use Rattle.array_model.specs.declared.journal.Entry.{Entry}
use Rattle.array_model.specs.declared.script.Op.{Op}
use Rattle.array_model.specs.Script.{Asked}
use Rattle.array_model.specs.Start.{Start}
use Rattle.array_model.specs.Rests.{HasComeToRest}
use Rattle.array_model.specs.FailureLaw.{EndsAtFailure}
use Rattle.array_model.specs.Room.{BeginsWithRoom}
use Rattle.first_opening.specs.Opened.{Opened}
use Rattle.stage.specs.declared.ends.DriveEnd.{DriveEnd}
use Rattle.stage.specs.declared.ends.DriveEnd.TheVariants.{Over, Full, Member}
use Rattle.stage_law.specs.Runs.{start_of}
use Rattle.stage_law.specs.Laws.{KeepsForm, KeepsLaws, IsLeftClean}
use Rattle.image_outside.specs.Told.{BankTold}

-- The cause of a run's end. It is over where it has come to rest, with each operation answered. It is full where it has
-- not, and the journal has fewer than four entries left. Or a call on the disk failed.
abbrev pub HasEnded : Start → List Op → (limit : ℕ) → (faults : ℕ → ℕ) → List Entry → DriveEnd → Type 0
HasEnded start ops limit faults journal Over = HasComeToRest start ops journal
HasEnded start ops limit faults journal Full = (HasComeToRest start ops journal → ⊥) × (limit < length journal + 4)
HasEnded start ops limit faults journal (Member d) = Rose 0 (faults d.0)

-- the disk on which the last call of a run failed
abbrev pub failed_disk : DriveEnd → Option ℕ
failed_disk Over = None
failed_disk Full = None
failed_disk (Member d) = Some d.0

-- The calls of a run, in a log behind those made before, over disks that held these contents, where that is told. They
-- keep the laws; none failed but the last, where that ended the run; and where it is over, the volume is left clean.
pub record LeavesCalls (o : Opened) (asked : Asked) (contents : Option (List (List Sector))) (before log : List Call)
    (calls : ℕ) (journal : List Entry) (ended : DriveEnd) : Type 0 where
  pub run : List Call
  pub joined : log ≡ before ++ run
  pub counted : length run ≡ calls
  pub laws : KeepsLaws o asked contents run journal
  pub failed : EndsAtFailure run journal (failed_disk ended)
  pub clean : ended ≡ Over → IsLeftClean (start_of o) run journal

-- What a run leaves of a bank on which these calls were made before. Its journal has the form of one, each entry has
-- its cause, and each turn began with room for four. Where the bank tells its log, the run's calls stand behind those
-- before, and keep the laws.
pub record LeavesRun (o : Opened) (asked : Asked) (limit : ℕ) (before : List Call) (bank : BankTold)
    (journal : List Entry) (ended : DriveEnd) : Type 0 where
  pub calls : ℕ
  pub form : KeepsForm (start_of o) asked calls journal
  pub room : BeginsWithRoom limit journal
  pub cause : HasEnded (start_of o) asked.ops limit bank.faults journal ended
  pub told : IfSome bank.log (λ log. LeavesCalls o asked bank.opening before log calls journal ended)
