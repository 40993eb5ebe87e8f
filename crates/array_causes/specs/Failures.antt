-- The causes of failures, of what follows them, and of kills and takeovers. Source: the states faulty and blocked of
-- the kernel's md.rst, and --takeover of mdmon(8); what is a cause of which entry is this project's own.
use Rattle.std.specs.Prelude.{⊤, ◌≡◌, ℕ, ◌+◌, ◌<◌, Bool, true, false, List, [], ◌∷◌, slice_get, Some, ◌⊎◌}
use Rattle.device_log.specs.Log.{Call}
use Rattle.array_model.specs.declared.journal.Entry.{Entry}
use Rattle.array_model.specs.declared.journal.Event.{Event}
use Rattle.array_model.specs.declared.journal.Event.TheVariants.{End, Unblock, Fault, Kill, Takeover}
use Rattle.array_model.specs.Events.{AtEach, has, is_unblock, is_faulty}
use Rattle.array_model.specs.Start.{Start}
use Rattle.array_machine.specs.Machine.{Actor, Fail}

-- THE MONITOR'S LIFE

-- the last of the entries kill and takeover is a kill
abbrev pub down_at : Bool → Event → Bool
down_at down Kill = true
down_at down Takeover = false
down_at down _ = down

abbrev pub down_from : Bool → List Entry → Bool
down_from down [] = down
down_from down (e ∷ es) = down_from (down_at down e.event) es

abbrev pub is_down : List Entry → Bool
is_down journal = down_from false journal

-- a round has ended since the opening or the last kill
abbrev pub settled_at : Bool → Event → Bool
settled_at settled (End g) = true
settled_at settled Kill = false
settled_at settled _ = settled

abbrev pub settled_from : Bool → List Entry → Bool
settled_from settled [] = settled
settled_from settled (e ∷ es) = settled_from (settled_at settled e.event) es

abbrev pub has_settled : List Entry → Bool
has_settled journal = settled_from false journal

-- CAUSES

-- the call that was made last at a stamp was of disk d, and failed
pub record HasLostCall (log : List Call) (stamp d : ℕ) : Type 0 where
  pub before : ℕ
  pub at : stamp ≡ before + 1
  pub call : Call
  pub is : slice_get log before ≡ Some call
  pub on : call.disk ≡ d
  pub lost : call.went ≡ false

-- The disk is there and had no fault; the last call was of it and failed, or it may fail on its own.
pub record FaultCause (start : Start) (fails : ℕ → Type 0) (log : List Call) (front : List Entry) (stamp d : ℕ)
    : Type 0 where
  pub there : d < start.disks.count
  pub once : is_faulty d front ≡ false
  pub cause : HasLostCall log stamp d ⊎ fails d

-- The disk has a fault and was never let go; a round has ended since the opening or the last kill.
pub record UnblockCause (front : List Entry) (d : ℕ) : Type 0 where
  pub faulty : is_faulty d front ≡ true
  pub once : has (is_unblock d) front ≡ false
  pub settled : has_settled front ≡ true

-- a kill comes where the monitor isn't killed, a takeover where it is
abbrev pub FailureCause : Start → (ℕ → Type 0) → List Call → List Entry → (stamp : ℕ) → Event → Type 0
FailureCause start fails log front stamp (Fault d) = FaultCause start fails log front stamp d.0
FailureCause start fails log front stamp (Unblock d) = UnblockCause front d.0
FailureCause start fails log front stamp Kill = is_down front ≡ false
FailureCause start fails log front stamp Takeover = is_down front ≡ true
FailureCause start fails log front stamp _ = ⊤

-- The law: each failure, unblocking, kill and takeover has its cause, where only some disks may fail on their own.
abbrev pub FailureCauses : Start → (ℕ → Type 0) → List Call → List Entry → Type 0
FailureCauses start fails log journal =
    AtEach (λ front e. FailureCause start fails log front e.stamp e.event) journal

-- an actor that lets a disk fail on its own lets only one of these fail
abbrev pub FailsOnlyBy : (ℕ → Type 0) → Actor → Type 0
FailsOnlyBy fails who = (d : ℕ) → who ≡ Fail d → fails d
