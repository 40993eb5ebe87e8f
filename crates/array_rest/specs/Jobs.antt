-- What holds of the jobs of clients wherever a turn ends: what they have still to read can be read. Source: this
-- project's own.
use Rattle.std.specs.Prelude.{◌≡◌, ℕ, Bool, true, false, List, [], slice_get, Some, ◌⊎◌, if◌then◌else◌}
use Rattle.std.specs.Option.{option_map_or}
use Rattle.array_model.specs.Script.{kind_at}
use Rattle.array_machine.specs.Setting.{Setting}
use Rattle.array_machine.specs.Numbers.{has}
use Rattle.array_machine.specs.Volumes.{Slot, slot_at, same_disk, is_usable, member_of, Volume, volume_at}
use Rattle.array_machine.specs.Operations.{volume_of}
use Rattle.array_machine.specs.Clients.{Row, Busy}
use Rattle.array_machine.specs.Control.{Control}
use Rattle.array_machine.specs.RowJobs.{unread}
use Rattle.array_machine.specs.ClientTurns.{is_shut}
use Rattle.array_paths.specs.InTurn.{job_of}
use Rattle.array_paths.specs.ClientMove.{NamesSector, fits_op}
use Rattle.array_rest.specs.Seats.{RunsOn, HasSlots}

-- a slot is in sync, on a disk without a fault
abbrev pub may_use : List ℕ → List Slot → ℕ → Bool
may_use faults slots s = is_usable (member_of faults [] (slot_at slots s))

-- a job sees the disk that a slot has now: it is the one that the slot had at the job's first call
abbrev pub sees : Row → ℕ → Slot → Bool
sees r s x = if r.begun then option_map_or (λ d. same_disk d x.disk) (slice_get r.disks s) true else true

-- A job was outrun: since its first call a slot was given another disk, which is in sync by now.
pub record IsOutrun (faults : List ℕ) (slots : List Slot) (r : Row) : Type 0 where
  pub slot : ℕ
  pub may : may_use faults slots slot ≡ true
  pub begun : r.begun ≡ true
  pub unseen : sees r slot (slot_at slots slot) ≡ false

-- what its plan has left to read can be read, unless it was outrun
abbrev pub PlanStands : List ℕ → Volume → Row → Type 0
PlanStands faults x r =
    (plan : List ℕ) → r.plan ≡ Some plan → (s : ℕ) → has s (unread plan r.got) ≡ true
    → (may_use faults x.slots s ≡ true) ⊎ IsOutrun faults x.slots r

module _ (S : Setting) where
  -- A job of client k that is set: its volume takes operations, and its plan stands, if that holds of the job before it;
  -- one that has begun reads or writes a sector.
  pub record JobGoes (c : Control) (k i : ℕ) (r : Row) : Type 0 where
    pub open_to : ((before : Row) → job_of c k ≡ Busy i before → is_shut (volume_at c.volumes (volume_of S i)) ≡ false)
        → is_shut (volume_at c.volumes (volume_of S i)) ≡ false
    pub names : r.begun ≡ true → NamesSector (kind_at S.asked.ops i)
    pub plan : RunsOn S c.round.faults (volume_of S i) (volume_at c.volumes (volume_of S i))
        → HasSlots S (volume_of S i) (volume_at c.volumes (volume_of S i))
        → ((before : Row) → job_of c k ≡ Busy i before
        → (fits_op S i ≡ true) × PlanStands c.round.faults (volume_at c.volumes (volume_of S i)) before)
        → PlanStands c.round.faults (volume_at c.volumes (volume_of S i)) r

  -- each job that goes on is on a volume that takes operations, and stands while that isn't broken
  pub record JobStands (A : Type 0) (c : Control) (k i : ℕ) (r : Row) : Type 0 where
    pub open_to : is_shut (volume_at c.volumes (volume_of S i)) ≡ false
    pub names : r.begun ≡ true → NamesSector (kind_at S.asked.ops i)
    pub plan : A → (volume_at c.volumes (volume_of S i)).started ≡ true
        → (volume_at c.volumes (volume_of S i)).broken ≡ false
        → PlanStands c.round.faults (volume_at c.volumes (volume_of S i)) r

  abbrev pub JobsStand : Type 0 → Control → Type 0
  JobsStand A c = (k i : ℕ) (r : Row) → job_of c k ≡ Busy i r → JobStands A c k i r
