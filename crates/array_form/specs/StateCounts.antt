-- How often the array state of a volume is entered. Source: array_state in the kernel's md.rst and the order of
-- mdmon-design.txt (ready, write-pending, active, active-idle, clean); that idle is bounded by writes is this project's
-- own.
use Rattle.std.specs.Prelude.{ℕ, ◌+◌, ◌≤◌, ◌==◌, ◌&&◌, not, Bool, true, false, List, if◌then◌else◌}
use Rattle.std.specs.List.{list_any}
use Rattle.array_model.specs.declared.script.Op.{Op}
use Rattle.array_model.specs.declared.journal.Entry.{Entry}
use Rattle.array_model.specs.Events.{count, is_ready, is_pending, is_active, is_idle, is_clean, is_submit_in}
use Rattle.array_machine.specs.Setting.{Setting}
use Rattle.array_machine.specs.States.{State, IsReadonly, IsReadAuto, IsClean, IsPending, IsActive, IsIdle, is_readonly, is_pending as waits_now, is_idle as is_idle_now}
use Rattle.array_machine.specs.Clients.{Job, NoJob, Submitted, Busy, Client}
use Rattle.array_machine.specs.Operations.{volume_of, is_write}

abbrev pub one_if : Bool → ℕ
one_if b = if b then 1 else 0

-- THE LAW

pub record VolumeStateCounts (ops : List Op) (v : ℕ) (journal : List Entry) : Type 0 where
  pub ready : count (is_ready v) journal ≤ 1
  pub pending : count (is_pending v) journal ≤ count (is_submit_in ops v) journal
  pub active : count (is_active v) journal ≤ count (is_pending v) journal
  pub idle : count (is_idle v) journal ≤ count (is_submit_in ops v) journal
  pub clean : count (is_clean v) journal ≤ count (is_idle v) journal

-- of each volume
abbrev pub KeepsStateCounts : List Op → List Entry → Type 0
KeepsStateCounts ops journal = (v : ℕ) → VolumeStateCounts ops v journal

-- WHAT A RUN KEEPS

-- the volume is write-pending or active
abbrev pub is_taken : State → Bool
is_taken IsReadonly = false
is_taken IsReadAuto = false
is_taken IsClean = false
is_taken IsPending = true
is_taken IsActive = true
is_taken IsIdle = false

-- the job is a write to volume v that was submitted in this very turn
abbrev pub asks_for : Setting → ℕ → Job → Bool
asks_for S v NoJob = false
asks_for S v (Submitted i) = is_write S i && (volume_of S i == v)
asks_for S v (Busy i r) = false

abbrev pub is_asked_for : Setting → ℕ → List Client → Bool
is_asked_for S v clients = list_any (λ x. asks_for S v x.job) clients

-- The counts of a volume by its state, and by whether it is asked for: what the state owes, and what a write that asks
-- for it brings, is counted already.
pub record StateCounts (ops : List Op) (v : ℕ) (state : State) (asked : Bool) (journal : List Entry) : Type 0 where
  pub ready : count (is_ready v) journal + one_if (is_readonly state) ≤ 1
  pub pending : count (is_pending v) journal + one_if (asked && not (is_taken state))
      ≤ count (is_submit_in ops v) journal
  pub active : count (is_active v) journal + one_if (waits_now state) ≤ count (is_pending v) journal
  pub idle : count (is_idle v) journal + one_if (is_taken state) + one_if (asked && not (is_taken state))
      ≤ count (is_submit_in ops v) journal
  pub clean : count (is_clean v) journal + one_if (is_idle_now state) ≤ count (is_idle v) journal
