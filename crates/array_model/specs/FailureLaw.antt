-- Failures: no write is acknowledged past a failure that isn't recorded, no failed call is hidden, a round forgets no
-- healthy member, and a checkpoint doesn't stay behind its pass. Source: mdmon-design.txt (a write to a failed member
-- waits until the metadata records the failure and "-blocked" is written); the rest is this project's own.
use Rattle.std.specs.Prelude.{◌≡◌, ℕ, ◌+◌, ◌*◌, ◌/◌, ◌<◌, ◌≤◌, ◌==◌, ◌&&◌, nat_le, Bool, true, false, List, [], ◌∷◌, ◌++◌, length, take, slice_get, Option, Some, None, IsSome, if◌then◌else◌, ⊤, ◌⊎◌}
use Rattle.std.specs.List.{AllByRecursion, list_any}
use Rattle.std.specs.Str.{bytes_eq}
use Rattle.device_log.specs.Log.{Call, Read}
use Rattle.array_model.specs.declared.script.Op.{Op}
use Rattle.array_model.specs.declared.journal.Entry.{Entry}
use Rattle.array_model.specs.declared.journal.Event.{Event}
use Rattle.array_model.specs.declared.journal.Event.TheVariants.{Begin, Pass, Ack, Applied, Fault, Kill, Takeover}
use Rattle.array_model.specs.Script.{VolumeWrite, write_at, kind_at, names_sector}
use Rattle.array_model.specs.Events.{AtEach, is_done, is_fault, is_faulty, last_stamp}
use Rattle.array_model.specs.Moments.{IsMoment, AllBelow, EachCall}
use Rattle.array_model.specs.Placement.{Placement, placement_of}
use Rattle.array_model.specs.Blocks.{Laid, SlotWords}
use Rattle.array_model.specs.Rounds.{IsFinished, IsRound, DurableOnWorking, is_lost}
use Rattle.array_model.specs.Start.{Start}

-- ACKNOWLEDGED WRITES

-- the block has disk d in this slot of a volume
pub record HasInSlot (start : Start) (m : Laid) (v slot d : ℕ) : Type 0 where
  pub words : SlotWords
  pub there : slice_get (start.words.slots m v) slot ≡ Some words
  pub same : words.serial ≡ start.disks.serial d

-- the slots of a placement
abbrev pub InPlacement : Start → Laid → ℕ → ℕ → Option Placement → Type 0
InPlacement start m v d None = ⊥
InPlacement start m v d (Some place) = HasInSlot start m v place.main d ⊎ HasInSlot start m v place.other d

-- the block has disk d in this slot of a volume, and expects it there
pub record ExpectsInSlot (start : Start) (m : Laid) (v slot d : ℕ) : Type 0 where
  pub words : SlotWords
  pub there : slice_get (start.words.slots m v) slot ≡ Some words
  pub same : words.serial ≡ start.disks.serial d
  pub expected : words.is_expected ≡ true

abbrev pub ExpectsAt : Start → Laid → ℕ → ℕ → Option Placement → Type 0
ExpectsAt start m v d None = ⊥
ExpectsAt start m v d (Some place) =
    ExpectsInSlot start m v place.main d ⊎ ExpectsInSlot start m v place.other d

-- A write is meant for disk d, where the block of some round that finished by then (or the newest at opening) expects d
-- in a slot that the write goes to. An activation gives a slot to another disk, so that which round it is tells whose
-- slot it was. A disk that a block calls failed gets no write in its slot: it may serve in another one since, and a
-- fault there is none of this write's.
pub record WasMeant (start : Start) (log : List Call) (front : List Entry) (target : VolumeWrite) (d : ℕ) : Type 0 where
  pub calls : ℕ
  pub early : List Entry
  pub late : List Entry
  pub block : Laid
  pub moment : IsMoment log front calls early late
  pub finished : IsFinished start (take calls log) early block
  pub slot : ExpectsAt start block target.volume d (placement_of (start.words.shape block target.volume) target.sector)

-- each such disk that has a fault is durably called failed on every working member
abbrev pub IsRecorded : Start → List Call → List Entry → VolumeWrite → Type 0
IsRecorded start log front target =
    (d : ℕ) → WasMeant start log front target d → is_faulty d front ≡ true
    → DurableOnWorking start log front (λ m. start.words.expects m (start.disks.serial d) ≡ false)

abbrev pub IsRecordedFor : Start → List Call → List Entry → Option VolumeWrite → Type 0
IsRecordedFor start log front None = ⊤
IsRecordedFor start log front (Some target) = IsRecorded start log front target

abbrev pub AckOverFaults : Start → List Op → List Call → List Entry → Event → Type 0
AckOverFaults start ops calls front (Ack i answer) =
    is_done answer ≡ true → IsRecordedFor start calls front (write_at ops i)
AckOverFaults start ops calls front _ = ⊤

-- FAILED CALLS

-- the journal has a fault of the disk that isn't stamped above n
abbrev pub has_fault_by : ℕ → ℕ → List Entry → Bool
has_fault_by d n journal = list_any (λ e. is_fault d e.event && nat_le e.stamp n) journal

-- a failed call that isn't behind the journal's end: calls are numbered from 1
abbrev pub HasItsFault : List Entry → ℕ → Call → Type 0
HasItsFault journal before call =
    call.went ≡ false → before + 1 < last_stamp journal → has_fault_by call.disk (before + 1) journal ≡ true

-- the journal has a fault of the disk that is stamped n
abbrev pub has_fault_at : ℕ → ℕ → List Entry → Bool
has_fault_at d n journal = list_any (λ e. is_fault d e.event && (e.stamp == n)) journal

-- a failed call has its fault right behind it, also the last one of the log: stamped by how many calls were made by then
abbrev pub HasItsFaultAtOnce : List Entry → ℕ → Call → Type 0
HasItsFaultAtOnce journal before call = call.went ≡ false → has_fault_at call.disk (before + 1) journal ≡ true

-- Each failed call of a run that outlives failures is told so. Of a run that ends at its first failed call the law below
-- asks less, since there that call has no entry behind it.
abbrev pub TellsEachFailure : List Call → List Entry → Type 0
TellsEachFailure log journal = EachCall (λ before call. HasItsFaultAtOnce journal before call) log

-- THE END OF A RUN

abbrev pub AllWent : List Call → Type 0
AllWent log = AllByRecursion (λ call. call.went ≡ true) log

-- the last call is on disk d and failed, each call before it went through, and nothing was entered behind it
pub record FailsLast (d : ℕ) (log : List Call) (journal : List Entry) : Type 0 where
  pub before : List Call
  pub last : Call
  pub parts : log ≡ before ++ last ∷ []
  pub went : AllWent before
  pub on_disk : last.disk ≡ d
  pub fails : last.went ≡ false
  pub behind : AllBelow (length before) journal

-- A call that fails ends the run. Where no disk failed, each call of the run went through; where one did, the last call
-- is the one that failed on it, and the journal ends before it.
abbrev pub EndsAtFailure : List Call → List Entry → (failed : Option ℕ) → Type 0
EndsAtFailure log journal None = AllWent log
EndsAtFailure log journal (Some d) = FailsLast d log journal

-- WHAT A ROUND KEEPS

-- the opening's verdict counts the disk of this serial out
abbrev pub does_count_out : Start → List ℕ → Bool
does_count_out start serial = list_any (λ s. bytes_eq s serial) start.counts_out

-- What the last finished round's block (before the first, the newest at opening) says of a disk, the round's says too,
-- unless the disk has a fault. The first rounds, which stand on the newest at opening, also leave out of sync what the
-- verdict counts out.
pub record KeepsMembers (start : Start) (front : List Entry) (last m : Laid) : Type 0 where
  pub expected : (serial : List ℕ) → start.words.expects last serial ≡ true
      → (start.words.expects m serial ≡ true) ⊎ (is_lost start.disks serial front ≡ true)
  pub in_sync : (v slot : ℕ) (before : SlotWords) → start.words.is_supported last v ≡ true
      → slice_get (start.words.slots last v) slot ≡ Some before → before.is_in_sync ≡ true
      → ((after : SlotWords) × (slice_get (start.words.slots m v) slot ≡ Some after) × (after.is_in_sync ≡ true))
      ⊎ (is_lost start.disks before.serial front ≡ true)
      ⊎ ((last ≡ start.newest) × (does_count_out start before.serial ≡ true))

abbrev pub BeginKeeps : Start → List Call → List Entry → ℕ → Event → Type 0
BeginKeeps start log front stamp (Begin g) =
    (m last : Laid) → IsRound start log stamp g m → IsFinished start (take stamp log) front last
    → KeepsMembers start front last m
BeginKeeps start log front stamp _ = ⊤

-- UNITS

-- the stamp of the volume's last pass, where no update was applied and there was no fault, kill or takeover since
abbrev pub pass_at : ℕ → Option ℕ → ℕ → Event → Option ℕ
pass_at v found stamp (Pass w row) = if w.0 == v then Some stamp else found
pass_at v found stamp (Applied n) = None
pass_at v found stamp (Fault d) = None
pass_at v found stamp Kill = None
pass_at v found stamp Takeover = None
pass_at v found stamp _ = found

abbrev pub pass_from : ℕ → Option ℕ → List Entry → Option ℕ
pass_from v found [] = found
pass_from v found (e ∷ es) = pass_from v (pass_at v found e.stamp e.event) es

-- op i names no sector of the volume that lies in this row
abbrev pub IsNotAt : Option Placement → ℕ → Type 0
IsNotAt None row = ⊤
IsNotAt (Some place) row = place.row ≡ row → ⊥

abbrev pub IsElsewhere : Start → List Op → Laid → ℕ → ℕ → Type 0
IsElsewhere start ops m v row =
    (i s : ℕ) (kind : _) → kind_at ops i ≡ Some kind → names_sector v kind ≡ Some s
    → IsNotAt (placement_of (start.words.shape m v) s) row

-- a call that reads a row of the volume on one of its members
pub record ReadsRow (start : Start) (m : Laid) (v row : ℕ) (call : Call) : Type 0 where
  pub what : call.what ≡ Read ((start.words.shape m v).pba + row)
  pub below : row < (start.words.shape m v).rows
  pub slot : ℕ
  pub member : HasInSlot start m v slot call.disk

-- a round's unit has come to the last multiple of 1,024 rows up to each row that the pass has read, but for rows that
-- operations name
abbrev pub BeginCounts : Start → List Op → List Call → List Entry → ℕ → Event → Type 0
BeginCounts start ops log front stamp (Begin g) =
    (v since : ℕ) (m : Laid) → pass_from v None front ≡ Some since → IsRound start log stamp g m
    → EachCall (λ before call. since ≤ before → before < stamp → (row : ℕ) → ReadsRow start m v row call
    → IsElsewhere start ops m v row → IsSome (start.words.pass m v) → 8 * (row / 1024) ≤ start.words.unit m v) log
BeginCounts start ops log front stamp _ = ⊤

pub record FailureLaw (start : Start) (ops : List Op) (log : List Call) (journal : List Entry) : Type 0 where
  pub acks : AtEach (λ front e. AckOverFaults start ops (take e.stamp log) front e.event) journal
  pub calls : EachCall (λ before call. HasItsFault journal before call) log
  pub keeps : AtEach (λ front e. BeginKeeps start log front e.stamp e.event) journal
  pub units : AtEach (λ front e. BeginCounts start ops log front e.stamp e.event) journal
