-- The calls behind the answers of a run, and what each call of a run is made for. A write is done once its sector is
-- written and synced on the disks of its placement, and a value comes from a read of its row. No call is made that
-- neither a round nor an operation under way asks for. Source: this project's own.
use Rattle.std.specs.Prelude.{◌≡◌, ℕ, ◌+◌, ◌<◌, ◌≤◌, true, false, List, [], ◌∷◌, length, slice_get, Option, Some, None, ⊤, ◌⊎◌}
use Rattle.units.specs.declared.disk.Sector.{Sector}
use Rattle.units.specs.declared.volume.VolNo.{VolNo}
use Rattle.units.specs.Places.{anchor_place}
use Rattle.device_log.specs.Log.{Call, What, Read, Write, Sync}
use Rattle.array_model.specs.declared.script.Op.{Op}
use Rattle.array_model.specs.declared.script.OpKind.{OpKind}
use Rattle.array_model.specs.declared.script.OpKind.TheVariants.{Write as OpWrite, Read as OpRead, Whole as OpWhole}
use Rattle.array_model.specs.declared.journal.Entry.{Entry}
use Rattle.array_model.specs.declared.journal.Event.{Event}
use Rattle.array_model.specs.declared.journal.Event.TheVariants.{Ack}
use Rattle.array_model.specs.declared.journal.Answer.{Answer}
use Rattle.array_model.specs.declared.journal.Answer.TheVariants.{Done, Value, Past, Failed, NoSpare}
use Rattle.array_model.specs.Script.{VolumeWrite, kind_at, write_at}
use Rattle.array_model.specs.Events.{AtEach, has, is_submit, is_ack_of, is_faulty, is_live, up_to}
use Rattle.array_model.specs.Moments.{EachCall}
use Rattle.array_model.specs.Placement.{Placement, placement_of}
use Rattle.array_model.specs.FailureLaw.{InPlacement}
use Rattle.array_model.specs.AnswerLaw.{submitted_from}
use Rattle.array_model.specs.Causes.{GoesOn, course_of}
use Rattle.array_model.specs.Start.{Start}

-- ROWS

-- sector s of volume v lies at this place of disk d: the disk stands in a slot of the sector's placement, in the newest
-- block at opening
pub record IsRowOn (start : Start) (v s d place : ℕ) : Type 0 where
  pub lies : Placement
  pub placed : placement_of (start.words.shape start.newest v) s ≡ Some lies
  pub slot : InPlacement start start.newest v d (Some lies)
  pub at_row : place ≡ (start.words.shape start.newest v).pba + lies.row

-- call number k of the log asked this of disk d, and went through
abbrev pub WentAt : List Call → (k d : ℕ) → What → Type 0
WentAt log k d what = slice_get log k ≡ Some (record { disk = d; what = what; went = true })

-- ANSWERS

-- a call leaves what stands at a place of its disk
abbrev pub Spares : ℕ → What → Type 0
Spares place (Read at) = ⊤
Spares place (Write at sectors stored) = (place < at) ⊎ (at + length sectors ≤ place)
Spares place Sync = ⊤

-- between two stamps the sector was written at a place of disk d, the disk was synced behind that, and no call between
-- that write and the later stamp, gone through or not, wrote the place again
pub record IsWrittenOn (log : List Call) (since stamp d place : ℕ) (x : Sector) : Type 0 where
  pub write : ℕ
  pub sync : ℕ
  pub from : since ≤ write
  pub behind : write < sync
  pub until : sync < stamp
  pub written : WentAt log write d (Write place (x ∷ []) 1)
  pub synced : WentAt log sync d Sync
  pub stays : (k : ℕ) (call : Call) → write < k → k < stamp → slice_get log k ≡ Some call → call.disk ≡ d
      → Spares place call.what

-- a write was done: so it went on some disk of its placement, and on each that has no fault. Both slots of a placement
-- have the sector itself: there are placements of copies alone.
pub record IsDone (start : Start) (log : List Call) (front : List Entry) (since stamp : ℕ)
    (t : VolumeWrite) : Type 0 where
  pub disk : ℕ
  pub at : ℕ
  pub row : IsRowOn start t.volume t.sector disk at
  pub some : IsWrittenOn log since stamp disk at t.value
  pub each : (d place : ℕ) → IsRowOn start t.volume t.sector d place → is_faulty d front ≡ false
      → IsWrittenOn log since stamp d place t.value

-- between two stamps the row of a sector was read on a disk of its placement
pub record IsRead (start : Start) (log : List Call) (since stamp v s : ℕ) : Type 0 where
  pub read : ℕ
  pub disk : ℕ
  pub place : ℕ
  pub from : since ≤ read
  pub until : read < stamp
  pub row : IsRowOn start v s disk place
  pub went : WentAt log read disk (Read place)

abbrev pub DoneFrom : Start → List Call → List Entry → (since stamp : ℕ) → Option VolumeWrite → Type 0
DoneFrom start log front since stamp None = ⊤
DoneFrom start log front since stamp (Some t) = IsDone start log front since stamp t

abbrev pub ValueFrom : Start → List Call → (since stamp : ℕ) → Option OpKind → Type 0
ValueFrom start log since stamp None = ⊥
ValueFrom start log since stamp (Some (OpWrite v s value)) = ⊥
ValueFrom start log since stamp (Some (OpRead v s)) = IsRead start log since stamp v.0 s
ValueFrom start log since stamp (Some (OpWhole v)) = ⊥

abbrev pub AnswerFrom : Start → List Op → List Call → List Entry → (stamp i : ℕ) → Answer → Type 0
AnswerFrom start ops log front stamp i Done = DoneFrom start log front (submitted_from i 0 front) stamp (write_at ops i)
AnswerFrom start ops log front stamp i (Value x) = ValueFrom start log (submitted_from i 0 front) stamp (kind_at ops i)
AnswerFrom start ops log front stamp i Past = ⊤
AnswerFrom start ops log front stamp i Failed = ⊤
AnswerFrom start ops log front stamp i NoSpare = ⊤

abbrev pub AckFrom : Start → List Op → List Call → List Entry → ℕ → Event → Type 0
AckFrom start ops log front stamp (Ack i answer) = AnswerFrom start ops log front stamp i answer
AckFrom start ops log front stamp _ = ⊤

-- each answer comes from calls on rows, made since its operation was submitted
abbrev pub AnswersFromRows : Start → List Op → List Call → List Entry → Type 0
AnswersFromRows start ops log journal = AtEach (λ front e. AckFrom start ops log front e.stamp e.event) journal

-- CAUSES

-- a round goes on, and the newest block at opening expects disk d
pub record IsInRound (start : Start) (front : List Entry) (d : ℕ) : Type 0 where
  pub generation : ℕ
  pub goes_on : course_of front ≡ GoesOn generation
  pub target : start.words.expects start.newest (start.disks.serial d) ≡ true

-- the round's anchor, of a block of one sector
pub record IsAnchor (start : Start) (front : List Entry) (d place : ℕ) (sectors : List Sector) : Type 0 where
  pub round : IsInRound start front d
  pub anchor : Sector
  pub at_anchor : place ≡ anchor_place (start.disks.sectors d)
  pub brings : sectors ≡ anchor ∷ []
  pub of_round : start.words.generation anchor ≡ round.generation
  pub alone : start.words.extra anchor ≡ 0

-- an operation was submitted and isn't answered
pub record IsUnderWay (front : List Entry) (i : ℕ) : Type 0 where
  pub asked : has (is_submit i) front ≡ true
  pub unanswered : has (is_ack_of i) front ≡ false

-- a write under way on an active volume, whose row lies at this place of disk d
pub record IsWriting (start : Start) (ops : List Op) (front : List Entry) (d place : ℕ) : Type 0 where
  pub op : ℕ
  pub under_way : IsUnderWay front op
  pub target : VolumeWrite
  pub asks : write_at ops op ≡ Some target
  pub live : is_live target.volume front ≡ true
  pub row : IsRowOn start target.volume target.sector d place

-- its sector
abbrev pub IsRowWrite : Start → List Op → List Entry → (d place : ℕ) → List Sector → Type 0
IsRowWrite start ops front d place sectors =
    (writing : IsWriting start ops front d place) × (sectors ≡ writing.target.value ∷ [])

-- a read under way, whose row lies at this place of disk d
pub record IsReading (start : Start) (ops : List Op) (front : List Entry) (d place : ℕ) : Type 0 where
  pub op : ℕ
  pub under_way : IsUnderWay front op
  pub volume : VolNo
  pub sector : ℕ
  pub asks : kind_at ops op ≡ Some (OpRead volume sector)
  pub row : IsRowOn start volume.0 sector d place

-- what was asked of disk d, gone through or not, is of a round or of an operation
abbrev pub HasCause : Start → List Op → List Entry → ℕ → What → Type 0
HasCause start ops front d (Read place) = IsReading start ops front d place
HasCause start ops front d (Write place sectors stored) =
    IsAnchor start front d place sectors ⊎ IsRowWrite start ops front d place sectors
HasCause start ops front d Sync = IsInRound start front d ⊎ ((place : ℕ) × IsWriting start ops front d place)

-- each call of the log has its cause in what was entered before it
abbrev pub CallsHaveCauses : Start → List Op → List Call → List Entry → Type 0
CallsHaveCauses start ops log journal =
    EachCall (λ before call. HasCause start ops (up_to before journal) call.disk call.what) log
