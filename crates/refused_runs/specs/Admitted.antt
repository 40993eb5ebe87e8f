-- What the promise of a run admits, over the small start and the script of the examples. Source: this project's own.
use Rattle.std.specs.Prelude.{◌≡◌, ℕ, ◌+◌, ◌<◌, ◌≤◌, List, length, Some, None}
use Rattle.device_log.specs.Log.{Call}
use Rattle.array_model.specs.declared.journal.Entry.{Entry}
use Rattle.array_model.specs.FailureLaw.{EndsAtFailure}
use Rattle.array_model.specs.AnswerLaw.{AnswerLaw}
use Rattle.array_model.specs.Rests.{HasComeToRest}
use Rattle.array_model.specs.Room.{BeginsWithRoom}
use Rattle.array_model.specs.Small.{small_start, small_renew, the_script, write_and_read}
use Rattle.stage.specs.declared.ends.DriveEnd.{DriveEnd}
use Rattle.stage.specs.declared.ends.DriveEnd.TheVariants.{Over, Full, Member}
use Rattle.stage_law.specs.Laws.{KeepsForm, KeepsLog, IsLeftClean}

-- the run has come to rest, it leaves the volume clean, and no call failed
pub record EndsAtRest (log : List Call) (journal : List Entry) : Type 0 where
  pub rests : HasComeToRest small_start write_and_read journal
  pub clean : IsLeftClean small_start log journal
  pub went : EndsAtFailure log journal None

-- the journal has fewer than four entries left, the run hasn't come to rest, and no call failed
pub record EndsForRoom (limit : ℕ) (log : List Call) (journal : List Entry) : Type 0 where
  pub spent : limit < length journal + 4
  pub works : HasComeToRest small_start write_and_read journal → ⊥
  pub went : EndsAtFailure log journal None

-- the cause of a run's end
abbrev pub HasEnded : (limit : ℕ) → List Call → List Entry → DriveEnd → Type 0
HasEnded limit log journal Over = EndsAtRest log journal
HasEnded limit log journal Full = EndsForRoom limit log journal
HasEnded limit log journal (Member d) = EndsAtFailure log journal (Some d.0)

-- the promise: a run with room for so many entries may make these calls, leave this journal and end so
pub record Admits (limit calls : ℕ) (log : List Call) (journal : List Entry) (ended : DriveEnd) : Type 0 where
  pub form : KeepsForm small_start the_script calls journal
  pub counted : length log ≡ calls
  pub kept : KeepsLog small_renew small_start the_script log journal
  pub answers : AnswerLaw small_start the_script log journal
  pub room : BeginsWithRoom limit journal
  pub ends : HasEnded limit log journal ended

-- it is not admitted with this end, whatever the room and the count of calls
abbrev pub IsRefusedAs : DriveEnd → List Call → List Entry → Type 0
IsRefusedAs ended log journal = (limit calls : ℕ) → Admits limit calls log journal ended → ⊥

-- nor with any other
abbrev pub IsRefused : List Call → List Entry → Type 0
IsRefused log journal = (ended : DriveEnd) → IsRefusedAs ended log journal

-- nor with any other log
abbrev pub IsNeverAdmitted : List Entry → Type 0
IsNeverAdmitted journal = (log : List Call) → IsRefused log journal
