-- Rounds of metadata writes, which the journal begins and ends, and the members that work. Source: this project's own.
use Rattle.std.specs.Prelude.{◌≡◌, ℕ, ◌==◌, Bool, true, false, List, [], ◌∷◌, ◌++◌, take, drop, Option, Some, None, if◌then◌else◌, ⊤}
use Rattle.std.specs.Str.{bytes_eq}
use Rattle.device_log.specs.Log.{Call}
use Rattle.array_model.specs.declared.journal.Entry.{Entry}
use Rattle.array_model.specs.declared.journal.Event.{Event}
use Rattle.array_model.specs.declared.journal.Event.TheVariants.{Begin, End, Fault}
use Rattle.array_model.specs.Blocks.{Laid, is_container}
use Rattle.array_model.specs.Start.{Start, Disks}
use Rattle.array_model.specs.Events.{AtEach, has, is_faulty}
use Rattle.array_model.specs.Candidates.{In, writes, Durable, disk_after}

-- the generation of the last round that ended
abbrev pub ended_at : Option ℕ → Event → Option ℕ
ended_at last (End g) = Some g
ended_at last _ = last

abbrev pub ended_from : Option ℕ → List Entry → Option ℕ
ended_from last [] = last
ended_from last (e ∷ es) = ended_from (ended_at last e.event) es

abbrev pub ended : List Entry → Option ℕ
ended journal = ended_from None journal

-- how many calls were made before the round of a generation began
abbrev pub begun_at : ℕ → Option ℕ → ℕ → Event → Option ℕ
begun_at g found stamp (Begin h) = if h == g then Some stamp else found
begun_at g found stamp _ = found

abbrev pub begun_from : ℕ → Option ℕ → List Entry → Option ℕ
begun_from g found [] = found
begun_from g found (e ∷ es) = begun_from g (begun_at g found e.stamp e.event) es

abbrev pub begun : ℕ → List Entry → Option ℕ
begun g journal = begun_from g None journal

-- the block of a round: the log writes it to some disk after the round began, it has the round's generation, and it is
-- a container's. So what the same log writes to a spare under that generation is never taken for it.
pub record IsRound (start : Start) (log : List Call) (stamp g : ℕ) (m : Laid) : Type 0 where
  pub disk : ℕ
  pub written : In m (writes start.words start.disks disk (drop stamp log))
  pub generation : start.words.generation m.anchor ≡ g
  pub container : is_container start.words m ≡ true

abbrev pub IsFinishedBy : Start → List Call → List Entry → Laid → Option ℕ → Type 0
IsFinishedBy start log journal m None = m ≡ start.newest
IsFinishedBy start log journal m (Some g) = (stamp : ℕ) × (begun g journal ≡ Some stamp) × IsRound start log stamp g m

-- the block of the last finished round; before the first, the newest at opening
abbrev pub IsFinished : Start → List Call → List Entry → Laid → Type 0
IsFinished start log journal m = IsFinishedBy start log journal m (ended journal)

-- there is one such block, and no other
pub record HasFinished (start : Start) (log : List Call) (journal : List Entry) : Type 0 where
  pub block : Laid
  pub is : IsFinished start log journal block
  pub one : (m : Laid) → IsFinished start log journal m → m ≡ block

-- each block that the log writes behind a begin with its generation, on whatever disk, is a container's
abbrev pub BeginsContainer : Start → List Call → ℕ → Event → Type 0
BeginsContainer start log stamp (Begin g) =
    (m : Laid) (d : ℕ) → In m (writes start.words start.disks d (drop stamp log))
    → start.words.generation m.anchor ≡ g → is_container start.words m ≡ true
BeginsContainer start log stamp _ = ⊤

-- a member works where the block of the last finished round expects it and it has no fault
pub record IsWorking (start : Start) (journal : List Entry) (m : Laid) (d : ℕ) : Type 0 where
  pub expected : start.words.expects m (start.disks.serial d) ≡ true
  pub sound : is_faulty d journal ≡ false

-- a fact of metadata is durable on every working member
abbrev pub DurableOnWorking : Start → List Call → List Entry → (Laid → Type 0) → Type 0
DurableOnWorking start log journal P =
    (m : Laid) → IsFinished start log journal m → (d : ℕ) → IsWorking start journal m d
    → Durable P (disk_after start.words start.disks log d)

-- where a round ends, its generation is durable on every working member
abbrev pub EndedOver : Start → List Call → List Entry → Event → Type 0
EndedOver start calls through (End g) = DurableOnWorking start calls through (λ m. start.words.generation m.anchor ≡ g)
EndedOver start calls through _ = ⊤

-- of each entry, with the calls made before it and the journal up to it
abbrev pub EndsOnWorking : Start → List Call → List Entry → Type 0
EndsOnWorking start log journal =
    AtEach (λ front e. EndedOver start (take e.stamp log) (front ++ e ∷ []) e.event) journal

-- a disk of this serial has a fault
abbrev pub is_fault_of : Disks → List ℕ → Event → Bool
is_fault_of disks serial (Fault d) = bytes_eq (disks.serial d.0) serial
is_fault_of disks serial _ = false

abbrev pub is_lost : Disks → List ℕ → List Entry → Bool
is_lost disks serial journal = has (is_fault_of disks serial) journal
