-- Answers: in the order of the asks, with the value last acknowledged, read only from members in sync, and `whole` only
-- where the volume is. Source: this project's own.
use Rattle.std.specs.Prelude.{◌≡◌, ℕ, ◌+◌, ◌<◌, ◌≤◌, ◌==◌, ◌||◌, Bool, true, false, List, [], ◌∷◌, ◌++◌, length, filter, filter_map, flat_map, take, slice_get, bit_xor, Option, Some, None, if◌then◌else◌, ⊤, ◌⊎◌}
use Rattle.std.specs.List.{AllByRecursion, range_with_len}
use Rattle.units.specs.declared.disk.Sector.{Sector}
use Rattle.units.specs.declared.volume.Level.TheVariants.{Five}
use Rattle.units.specs.declared.bounds.TheConstants.{METADATA_SECTORS}
use Rattle.device_log.specs.Log.{Call, What, Read, Write, Sync}
use Rattle.array_model.specs.declared.script.Op.{Op}
use Rattle.array_model.specs.declared.script.OpKind.{OpKind}
use Rattle.array_model.specs.declared.script.OpKind.TheVariants.{Write as OpWrite, Read as OpRead, Whole as OpWhole}
use Rattle.array_model.specs.declared.journal.Entry.{Entry}
use Rattle.array_model.specs.declared.journal.Event.{Event}
use Rattle.array_model.specs.declared.journal.Event.TheVariants.{Submit, Ack, Posted}
use Rattle.array_model.specs.declared.journal.Answer.{Answer}
use Rattle.array_model.specs.declared.journal.Answer.TheVariants.{Done, Value, Past, Failed, NoSpare}
use Rattle.array_model.specs.Script.{Asked, kind_at, is_of_client}
use Rattle.array_model.specs.Events.{AtEach, has, count, is_submit, is_faulty, is_spare_of, is_settled, is_settled_as, up_to}
use Rattle.array_model.specs.Moments.{EachCall}
use Rattle.array_model.specs.Placement.{Placement, placement_of}
use Rattle.array_model.specs.Blocks.{Laid, SlotWords}
use Rattle.array_model.specs.Candidates.{disk_after}
use Rattle.array_model.specs.Rounds.{IsFinished, is_lost}
use Rattle.array_model.specs.Content.{content, is_still_unsure}
use Rattle.array_model.specs.FailureLaw.{HasInSlot}
use Rattle.array_model.specs.Broken.{IsBroken}
use Rattle.array_model.specs.Start.{Start}

-- ORDER

-- a submit or an ack of an operation
pub record OpEvent : Type 0 where
  pub is_ack : Bool
  pub op : ℕ

abbrev pub op_event_of : List Op → ℕ → Event → Option OpEvent
op_event_of ops c (Submit i) = if is_of_client ops c i then Some (record { is_ack = false; op = i }) else None
op_event_of ops c (Ack i answer) = if is_of_client ops c i then Some (record { is_ack = true; op = i }) else None
op_event_of ops c _ = None

-- what the journal has of a client, and what the script gives it to do: to submit each of its operations and have it
-- answered before the next
abbrev pub op_events_of : List Op → ℕ → List Entry → List OpEvent
op_events_of ops c journal = filter_map (λ e. op_event_of ops c e.event) journal

abbrev pub op_events_due : List Op → ℕ → List OpEvent
op_events_due ops c =
    flat_map (λ i. record { is_ack = false; op = i } ∷ record { is_ack = true; op = i } ∷ [])
    (filter (is_of_client ops c) (range_with_len 0 (length ops)))

abbrev pub IsInOrder : List Op → List Entry → ℕ → Type 0
IsInOrder ops journal c = (rest : List OpEvent) × (op_events_due ops c ≡ op_events_of ops c journal ++ rest)

-- VALUES

-- a read of a row, made from one stamp on and before another, that went through and gave this sector: what stood there
pub record IsGiven (start : Start) (log : List Call) (v row since stamp : ℕ) (y : Sector) : Type 0 where
  pub before : ℕ
  pub disk : ℕ
  pub place : ℕ
  pub from : since ≤ before
  pub until : before < stamp
  pub at_row : place ≡ (start.words.shape start.newest v).pba + row
  pub call : slice_get log before ≡ Some (record { disk = disk; what = Read place; went = true })
  pub gives : y ≡ ((disk_after start.words start.disks (take before log) disk).cells place).stood

abbrev pub xor_bytes : List ℕ → List ℕ → List ℕ
xor_bytes [] ys = []
xor_bytes (x ∷ xs) [] = []
xor_bytes (x ∷ xs) (y ∷ ys) = bit_xor x y ∷ xor_bytes xs ys

abbrev pub xor_onto : Sector → List Sector → List ℕ
xor_onto x [] = x.0
xor_onto x (y ∷ ys) = xor_bytes x.0 (xor_onto y ys)

-- a sector that a read of the row gave, or at level five the xor of such sectors
abbrev pub IsGivenOrXor : Start → List Call → ℕ → (row since stamp : ℕ) → Sector → Type 0
IsGivenOrXor start log v row since stamp x =
    IsGiven start log v row since stamp x
    ⊎ (((start.words.shape start.newest v).level ≡ Some Five)
    × (y : Sector) × (ys : List Sector) × AllByRecursion (IsGiven start log v row since stamp) (y ∷ ys)
    × (x.0 ≡ xor_onto y ys))

-- the stamp of an operation's submit
abbrev pub submitted_from : ℕ → ℕ → List Entry → ℕ
submitted_from i found [] = found
submitted_from i found (e ∷ es) = submitted_from i (if is_submit i e.event then e.stamp else found) es

abbrev pub IsGivenAt : Start → List Call → ℕ → Option Placement → (since stamp : ℕ) → Sector → Type 0
IsGivenAt start log v None since stamp x = ⊥
IsGivenAt start log v (Some place) since stamp x = IsGivenOrXor start log v place.row since stamp x

-- The value is the content. Exempt is a sector that was unsure at opening and not rewritten since: its answer is what
-- a read gave between the submit and the ack.
abbrev pub IsValue : Start → List Op → List Call → List Entry → ℕ → ℕ → ℕ → ℕ → Sector → Bool → Type 0
IsValue start ops log front stamp i v s x false = x ≡ content start ops front v s
IsValue start ops log front stamp i v s x true =
    IsGivenAt start log v (placement_of (start.words.shape start.newest v) s) (submitted_from i 0 front) stamp x

abbrev pub ValueOf : Start → List Op → List Call → List Entry → ℕ → ℕ → Sector → Option OpKind → Type 0
ValueOf start ops log front stamp i x None = ⊥
ValueOf start ops log front stamp i x (Some (OpWrite v s value)) = ⊥
ValueOf start ops log front stamp i x (Some (OpRead v s)) =
    IsValue start ops log front stamp i v.0 s x (is_still_unsure start ops front v.0 s)
ValueOf start ops log front stamp i x (Some (OpWhole v)) = ⊥

-- READS

-- a sector of a member that holds a row of a started volume
pub record HasRowAt (start : Start) (v place : ℕ) : Type 0 where
  pub started : start.is_started v ≡ true
  pub from : (start.words.shape start.newest v).pba ≤ place
  pub until : place < (start.words.shape start.newest v).pba + (start.words.shape start.newest v).rows

-- disk d stands in a slot that is in sync, of a started volume with a row there
pub record IsSyncAt (start : Start) (m : Laid) (d place : ℕ) : Type 0 where
  pub volume : ℕ
  pub row : HasRowAt start volume place
  pub slot : ℕ
  pub member : HasInSlot start m volume slot d
  pub in_sync : member.words.is_in_sync ≡ true

-- a read of a row, after so many calls
pub record MayRead (start : Start) (log : List Call) (journal : List Entry) (before d place : ℕ) : Type 0 where
  pub sound : is_faulty d (up_to before journal) ≡ false
  pub in_sync : (m : Laid) → IsFinished start (take before log) (up_to before journal) m → IsSyncAt start m d place

abbrev pub ReadsInSync : Start → List Call → List Entry → ℕ → ℕ → What → Type 0
ReadsInSync start log journal before d (Read place) =
    (v : ℕ) → HasRowAt start v place → place + METADATA_SECTORS < start.disks.sectors d
    → MayRead start log journal before d place
ReadsInSync start log journal before d (Write place sectors stored) = ⊤
ReadsInSync start log journal before d Sync = ⊤

-- WHOLE

-- each slot is in sync on a disk without a fault, and no pass is open
pub record IsVolumeWhole (start : Start) (front : List Entry) (m : Laid) (v : ℕ) : Type 0 where
  pub slots : AllByRecursion (λ s. (s.is_in_sync ≡ true) × (is_lost start.disks s.serial front ≡ false))
      (start.words.slots m v)
  pub idle : start.words.pass m v ≡ None

-- a slot of the volume, whose disk's record has this index, on a disk that isn't expected
pub record HasFailed (start : Start) (m : Laid) (v index : ℕ) : Type 0 where
  pub slot : ℕ
  pub words : SlotWords
  pub there : slice_get (start.words.slots m v) slot ≡ Some words
  pub same : words.index ≡ index
  pub failed : words.is_expected ≡ false

-- started, and not broken by failures
pub record IsUsable (start : Start) (log : List Call) (front : List Entry) (v : ℕ) : Type 0 where
  pub started : start.is_started v ≡ true
  pub sound : IsBroken start log front v → ⊥

-- the least index that failed in a usable volume, and a disk with the sectors that each such volume asks of a member
pub record FitsLeast (start : Start) (log : List Call) (front : List Entry) (m : Laid) (d : ℕ) : Type 0 where
  pub index : ℕ
  pub volume : ℕ
  pub usable : IsUsable start log front volume
  pub failed : HasFailed start m volume index
  pub least : (v i : ℕ) → IsUsable start log front v → HasFailed start m v i → index ≤ i
  pub fits : (v : ℕ) → IsUsable start log front v → HasFailed start m v index
      → (start.words.shape m v).pba + (start.words.shape m v).rows + METADATA_SECTORS ≤ start.disks.sectors d

-- a disk that could take the place of a failed one
pub record Serves (start : Start) (log : List Call) (front : List Entry) (m : Laid) (d : ℕ) : Type 0 where
  pub there : d < start.disks.count
  pub sound : is_faulty d front ≡ false
  pub spare : (start.is_spare d || has (is_spare_of d) front) ≡ true
  pub unknown : start.words.has_record m (start.disks.serial d) ≡ false
  pub large : FitsLeast start log front m d
  pub room : start.words.has_room m ≡ true

abbrev pub is_posted_as : ℕ → Event → Bool
is_posted_as n (Posted k) = k == n
is_posted_as n _ = false

-- a disk of the volume failed, and nothing is on its way to take its place
pub record IsWithoutSpare (start : Start) (asked : Asked) (log : List Call) (front : List Entry) (m : Laid)
    (v : ℕ) : Type 0 where
  pub index : ℕ
  pub failed : HasFailed start m v index
  pub idle : start.words.pass m v ≡ None
  pub settled : (n : ℕ) → has (is_posted_as n) front ≡ true → has (is_settled_as n) front ≡ true
  pub asks : length asked.asks ≤ count is_settled front
  pub none : (d : ℕ) → Serves start log front m d → ⊥

abbrev pub WholeBy : Start → Asked → List Call → List Entry → Laid → ℕ → Answer → Type 0
WholeBy start asked log front m v Done = IsVolumeWhole start front m v
WholeBy start asked log front m v NoSpare = IsWithoutSpare start asked log front m v
WholeBy start asked log front m v (Value x) = ⊤
WholeBy start asked log front m v Past = ⊤
WholeBy start asked log front m v Failed = ⊤

abbrev pub WholeFor : Start → Asked → List Call → List Entry → Answer → Option OpKind → Type 0
WholeFor start asked log front answer None = ⊤
WholeFor start asked log front answer (Some (OpWrite v s value)) = ⊤
WholeFor start asked log front answer (Some (OpRead v s)) = ⊤
WholeFor start asked log front answer (Some (OpWhole v)) =
    (m : Laid) → IsFinished start log front m → WholeBy start asked log front m v.0 answer

-- THE LAW

abbrev pub ValueAt : Start → List Op → List Call → List Entry → ℕ → Event → Type 0
ValueAt start ops log front stamp (Ack i (Value x)) = ValueOf start ops log front stamp i x (kind_at ops i)
ValueAt start ops log front stamp _ = ⊤

abbrev pub WholeAt : Start → Asked → List Call → List Entry → Event → Type 0
WholeAt start asked calls front (Ack i answer) = WholeFor start asked calls front answer (kind_at asked.ops i)
WholeAt start asked calls front _ = ⊤

pub record AnswerLaw (start : Start) (asked : Asked) (log : List Call) (journal : List Entry) : Type 0 where
  pub order : (c : ℕ) → IsInOrder asked.ops journal c
  pub values : AtEach (λ front e. ValueAt start asked.ops log front e.stamp e.event) journal
  pub reads : EachCall (λ before call. ReadsInSync start log journal before call.disk call.what) log
  pub whole : AtEach (λ front e. WholeAt start asked (take e.stamp log) front e.event) journal
