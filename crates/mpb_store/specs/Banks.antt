-- What a bank tells of a disk that is read. Source: this project's own.
use Rattle.std.specs.Prelude.{◌≡◌, ◌≢◌, ◌↔◌, ℕ, ◌-◌, ◌/◌, ◌%◌, ◌<◌, Bool, true, false, not, nat_lt, if◌then◌else◌, List, [], ◌∷◌, ◌++◌, map, take, length, replicate, slice_index_or, Option, Some}
use Rattle.std.specs.List.{AllByRecursion, list_any}
use Rattle.units.specs.declared.bounds.TheConstants.{SECTOR_BYTES, METADATA_SECTORS}
use Rattle.units.specs.declared.disk.Sector.{Sector}
use Rattle.imsm_base.specs.Whole.{standing}
use Rattle.units.specs.Places.{anchor_place}
use Rattle.device_log.specs.Log.{Call, Read, IsReadCall}
use Rattle.device_log.specs.Cells.{resting, cell_after}
use Rattle.mpb_store.specs.declared.answer.Found.{Found}
use Rattle.mpb_store.specs.declared.answer.Found.TheVariants.{Whole, Unread}
use Rattle.mpb_store.specs.Answers.{IsFound, bytes_on}
use Rattle.mpb_store.specs.Reading.{Reading, places_of, bytes_at}

-- the sector that stands at a place of a disk after a log; a place that isn't there is blank
abbrev pub blank_sector : Sector
blank_sector = record { 0 = replicate SECTOR_BYTES 0 }

abbrev pub sector_after : List (List Sector) → List Call → ℕ → ℕ → Sector
sector_after opening log d p =
    (cell_after d p (resting (slice_index_or (slice_index_or opening d []) p blank_sector)) log).stood

-- a call is a read of this disk
pub record IsReadOf (d : ℕ) (call : Call) : Type 0 where
  pub disk : call.disk ≡ d
  pub read : IsReadCall call.what

-- some call didn't go through
abbrev pub has_failed : List Call → Bool
has_failed calls = list_any (λ (c : Call). not c.went) calls

-- what a log that is told has at its end are reads of this disk, of which one failed or none; and it was told before
-- them
abbrev pub LogsReads : Option (List Call) → Option (List Call) → ℕ → Bool → Type 0
LogsReads old new d failed =
    (now : List Call) → new ≡ Some now
    → (before reads : List Call) × (old ≡ Some before) × (now ≡ before ++ reads) × AllByRecursion (IsReadOf d) reads
    × (has_failed reads ≡ failed)

-- a read of a place of a disk
abbrev pub read_of : ℕ → Bool → ℕ → Call
read_of d went place = record { disk = d; what = Read place; went = went }

-- the first k of these places are read in order, and the read of the next one fails
pub record StopsBehind (d k : ℕ) (places : List ℕ) (calls : List Call) : Type 0 where
  pub there : k < length places
  pub reads : calls ≡ map (read_of d true) (take k places) ++ read_of d false (slice_index_or places k 0) ∷ []

-- these places of a disk are read in order: each read goes through, or all do up to one that fails
abbrev pub AreRead : ℕ → List ℕ → Bool → List Call → Type 0
AreRead d places false calls = calls ≡ map (read_of d true) places
AreRead d places true calls = (k : ℕ) × StopsBehind d k places calls

-- where a disk of n sectors is read, by its anchor's bytes: nowhere without room for metadata
abbrev pub places_read : ℕ → List ℕ → List ℕ
places_read n anchor = if nat_lt n METADATA_SECTORS then [] else places_of n anchor

-- What a log that is told has at its end are the reads of one look at a disk of n sectors, by an anchor's bytes: those
-- that stand there, where the opening is told too.
abbrev pub LogsLook : ℕ → ℕ → Option (List (List Sector)) → Option (List Call) → Option (List Call) → Bool → Type 0
LogsLook n d opening old new failed =
    (now : List Call) → new ≡ Some now
    → (before calls : List Call) × (anchor : List ℕ) × (old ≡ Some before) × (now ≡ before ++ calls)
    × AreRead d (places_read n anchor) failed calls
    × ((o : List (List Sector)) → opening ≡ Some o → anchor ≡ (sector_after o now d (anchor_place n)).0)

abbrev pub is_unread : Found → Bool
is_unread Unread = true
is_unread _ = false

-- the bytes that were read are those that stand at the first places of a block
pub record StandsSo (n : ℕ) (at : ℕ → Sector) (bytes : List ℕ) : Type 0 where
  pub anchor : 0 < length bytes → take SECTOR_BYTES bytes ≡ (at (anchor_place n)).0
  pub sectors : bytes ≡ bytes_at at (take (length bytes / SECTOR_BYTES) (places_of n bytes))

-- a reading is of a disk of n sectors, and of what stands there where that is told
pub record IsReadFrom (n d : ℕ) (opening : Option (List (List Sector))) (log : Option (List Call))
    (r : Reading) : Type 0 where
  pub sized : r.sectors ≡ n
  pub whole : length r.bytes % SECTOR_BYTES ≡ 0
  pub small : n < METADATA_SECTORS → (r.failed ≡ false) × (r.bytes ≡ [])
  pub told : (o : List (List Sector)) (l : List Call) → opening ≡ Some o → log ≡ Some l
      → StandsSo n (sector_after o l d) r.bytes

-- An answer, and the block that was put where it is asked for, are those of a disk of n sectors with this serial, where
-- `at` gives the sector at each place. Where a read failed nothing is said.
pub record IsAnswerOn (own : List ℕ) (n : ℕ) (at : ℕ → Sector) (answer : Found) (block : List ℕ) : Type 0 where
  pub exact : answer ≢ Unread → (found : Found) → (answer ≡ found) ↔ IsFound own n (bytes_on n at) found
  pub loaded : answer ≡ Whole → block ≡ standing n at

-- what a reading of a disk has read so far: so many of the places, and one more where that read failed
abbrev pub IsSoFar : ℕ → List ℕ → ℕ → Bool → List Call → Type 0
IsSoFar d places k false calls = calls ≡ map (read_of d true) (take k places)
IsSoFar d places k true calls = StopsBehind d k places calls

-- the reads of a reading are what a log that is told has at its end
abbrev pub LogsReading : ℕ → Option (List Call) → Option (List Call) → Reading → Type 0
LogsReading d old new r =
    (now : List Call) → new ≡ Some now
    → (before calls : List Call) × (old ≡ Some before) × (now ≡ before ++ calls)
    × IsSoFar d (places_of r.sectors r.bytes) (length r.bytes / SECTOR_BYTES) r.failed calls

-- how many bytes may still be read
abbrev pub bytes_left : Reading → ℕ
bytes_left r = if r.failed then 0 else 8193 - length r.bytes
