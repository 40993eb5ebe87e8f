-- All causes of a journal at once. Source: this project's own; each part names its own.
use Rattle.std.specs.Prelude.{ℕ, List}
use Rattle.device_log.specs.Log.{Call}
use Rattle.array_model.specs.declared.journal.Entry.{Entry}
use Rattle.array_model.specs.Script.{Asked}
use Rattle.array_model.specs.Start.{Start}
use Rattle.array_causes.specs.Failures.{FailureCauses}
use Rattle.array_causes.specs.Unblocks.{UnblocksAreRecorded}
use Rattle.array_causes.specs.Answers.{AnswerCauses}
use Rattle.array_causes.specs.PassCauses.{PassCauses}
use Rattle.array_causes.specs.StateCauses.{StateCauses}
use Rattle.array_causes.specs.RoundCauses.{RoundCauses}
use Rattle.array_causes.specs.UpdateCauses.{UpdateCauses}

-- Each entry has its cause, where only some disks may fail on their own. No kind of entry is left out.
pub record HasCauses (start : Start) (asked : Asked) (fails : ℕ → Type 0) (log : List Call) (journal : List Entry)
    : Type 0 where
  -- faults, unblockings, kills, takeovers
  pub failures : FailureCauses start fails log journal
  pub unblocks : UnblocksAreRecorded start log journal
  -- ready, pending, active, idle, clean, and submits
  pub states : StateCauses start asked.ops journal
  pub answers : AnswerCauses start asked.ops journal
  pub rounds : RoundCauses start journal
  pub passes : PassCauses journal
  -- updates and spares
  pub updates : UpdateCauses asked.asks journal
