-- The write gate: a write leaves write-pending, and is acknowledged, only while dirty metadata is durable on all
-- working members. Source: mdmon-design.txt (an array in write-pending waits until the metadata says dirty); what is
-- durable on which members is this project's own.
use Rattle.std.specs.Prelude.{◌≡◌, ℕ, true, List, take, Option, Some, None, ⊤}
use Rattle.device_log.specs.Log.{Call}
use Rattle.array_model.specs.declared.script.Op.{Op}
use Rattle.array_model.specs.declared.journal.Entry.{Entry}
use Rattle.array_model.specs.declared.journal.Event.{Event}
use Rattle.array_model.specs.declared.journal.Event.TheVariants.{Active, Ack}
use Rattle.array_model.specs.Script.{VolumeWrite, write_at}
use Rattle.array_model.specs.Events.{AtEach, is_live, is_done}
use Rattle.array_model.specs.Moments.{Always}
use Rattle.array_model.specs.Rounds.{DurableOnWorking}
use Rattle.array_model.specs.Start.{Start}

-- the dirty bit of the volume is durable on every working member
abbrev pub IsDirty : Start → List Call → List Entry → ℕ → Type 0
IsDirty start log journal v = DurableOnWorking start log journal (λ m. start.words.is_dirty m v ≡ true)

abbrev pub ActiveOver : Start → List Call → List Entry → Event → Type 0
ActiveOver start calls front (Active v) = IsDirty start calls front v.0
ActiveOver start calls front _ = ⊤

-- of the volume's entries ready, pending, active and clean the last is active, where a write to it is done
abbrev pub IsLiveFor : Option VolumeWrite → List Entry → Type 0
IsLiveFor None front = ⊤
IsLiveFor (Some target) front = is_live target.volume front ≡ true

abbrev pub AckWhileLive : List Op → List Entry → Event → Type 0
AckWhileLive ops front (Ack i answer) = is_done answer ≡ true → IsLiveFor (write_at ops i) front
AckWhileLive ops front _ = ⊤

abbrev pub DirtyWhileLive : Start → List Call → List Entry → Type 0
DirtyWhileLive start log journal = (v : ℕ) → is_live v journal ≡ true → IsDirty start log journal v

pub record WriteGate (start : Start) (ops : List Op) (log : List Call) (journal : List Entry) : Type 0 where
  pub at_active : AtEach (λ front e. ActiveOver start (take e.stamp log) front e.event) journal
  pub at_ack : AtEach (λ front e. AckWhileLive ops front e.event) journal
  pub always : Always (DirtyWhileLive start) log journal
