-- What stood on the disks of a bank that tells it, and which block of a container was the newest. Source: this
-- project's own.
use Rattle.std.specs.Prelude.{◌≡◌, ◌≢◌, ℕ, ◌<◌, ◌≤◌, true, false, List, [], Contains, slice_get, slice_index, Some}
use Rattle.units.specs.declared.disk.Sector.{Sector}
use Rattle.units.specs.declared.disk.Serial.{Serial}
use Rattle.units.specs.Places.{anchor_place}
use Rattle.imsm_base.specs.Fields.{Part}
use Rattle.imsm_base.specs.Layout.{generation_of, serial_of, total_blocks_of, volume_count_of}
use Rattle.imsm_base.specs.Parts.{block_in}
use Rattle.imsm_base.specs.Whole.{is_expected, standing}
use Rattle.device_log.specs.Log.{Call}
use Rattle.mpb_store.specs.declared.answer.Found.{Found}
use Rattle.mpb_store.specs.declared.answer.Found.TheVariants.{Whole}
use Rattle.mpb_store.specs.Answers.{IsFound, bytes_on}
use Rattle.mpb_store.specs.Banks.{places_read, sector_after}
use Rattle.image_outside.specs.Told.{BankTold}
use Rattle.verdict_lines_law.specs.Same.{HaveNames}

-- a bank of which no two disks have one name tells what stood on them when it was opened, and its log
pub record Tells (opening : List (List Sector)) (log : List Call) (bank : BankTold) : Type 0 where
  pub stood : bank.opening ≡ Some opening
  pub logged : bank.log ≡ Some log
  pub own : HaveNames bank.serials

-- what stood at each place of a disk when it was opened
abbrev pub stood_on : List (List Sector) → ℕ → ℕ → Sector
stood_on opening k = sector_after opening [] k

-- the places of the block that stood at the end of a disk, by its anchor; none where the disk has no room for one
abbrev pub block_places : List (List Sector) → List ℕ → ℕ → List ℕ
block_places opening sizes k =
    places_read (slice_index sizes k) (stood_on opening k (anchor_place (slice_index sizes k))).0

-- disk k has this serial, and so many sectors, and by what stood on it this is found
pub record Holds (opening : List (List Sector)) (bank : BankTold) (k : ℕ) (s : Serial) (found : Found) : Type 0 where
  pub named : slice_get bank.serials k ≡ Some s
  pub is : IsFound s.0 (slice_index bank.sizes k) (bytes_on (slice_index bank.sizes k) (stood_on opening k)) found

-- a whole block of a container stood on disk k
pub record HoldsContainer (opening : List (List Sector)) (bank : BankTold) (k : ℕ) (s : Serial)
    (bytes : List ℕ) : Type 0 where
  pub whole : Holds opening bank k s Whole
  pub block : bytes ≡ standing (slice_index bank.sizes k) (stood_on opening k)
  pub volume : 0 < volume_count_of (block_in bytes)

-- a whole block of a spare did
pub record HoldsSpare (opening : List (List Sector)) (bank : BankTold) (k : ℕ) (s : Serial) : Type 0 where
  pub whole : Holds opening bank k s Whole
  pub none : volume_count_of (block_in (standing (slice_index bank.sizes k) (stood_on opening k))) ≡ 0

-- the block of a container that stood on some disk, of which no read failed, and none on any disk is newer
pub record HoldsNewest (opening : List (List Sector)) (bank : BankTold) (bytes : List ℕ) : Type 0 where
  pub disk : ℕ
  pub own : Serial
  pub holds : HoldsContainer opening bank disk own bytes
  pub read : bank.faults disk ≡ 0
  pub highest : (k : ℕ) (s : Serial) (other : List ℕ) → HoldsContainer opening bank k s other
      → generation_of (block_in other) ≤ generation_of (block_in bytes)

-- a record of the block's table expects a disk
pub record Expects (bytes : List ℕ) (entry : Part) : Type 0 where
  pub place : ℕ
  pub there : slice_get (block_in bytes).disks place ≡ Some entry
  pub expected : is_expected entry ≡ true

-- no disk has this serial
abbrev pub IsAbsent : BankTold → List ℕ → Type 0
IsAbsent bank serial = (k : ℕ) (s : Serial) → slice_get bank.serials k ≡ Some s → s.0 ≢ serial

-- The disk of a record is of no use: it isn't there; no whole block stood on it, or only a spare's; a call on it
-- failed; or it has fewer sectors than the record names.
pub data IsOfNoUse (opening : List (List Sector)) (log : List Call) (bank : BankTold) (entry : Part) : Type 0 where
  Absent : IsAbsent bank (serial_of entry) → IsOfNoUse opening log bank entry
  Unwhole : (k : ℕ) → (s : Serial) → (found : Found) → s.0 ≡ serial_of entry → Holds opening bank k s found
      → found ≢ Whole → IsOfNoUse opening log bank entry
  Spare : (k : ℕ) → (s : Serial) → s.0 ≡ serial_of entry → HoldsSpare opening bank k s
      → IsOfNoUse opening log bank entry
  Unread : (k : ℕ) → (s : Serial) → (call : Call) → s.0 ≡ serial_of entry → slice_get bank.serials k ≡ Some s
      → Contains log call → call.disk ≡ k → call.went ≡ false → IsOfNoUse opening log bank entry
  Small : (k : ℕ) → (s : Serial) → s.0 ≡ serial_of entry → slice_get bank.serials k ≡ Some s
      → slice_index bank.sizes k < total_blocks_of entry → IsOfNoUse opening log bank entry

-- each disk of a bank is one of another: with its serial, its sectors, and what stood on it
abbrev pub AreDisksOf : (opening others : List (List Sector)) → (bank other : BankTold) → Type 0
AreDisksOf opening others bank other =
    (k : ℕ) (s : Serial) → slice_get bank.serials k ≡ Some s
    → (j : ℕ) × (slice_get other.serials j ≡ Some s) × (slice_index other.sizes j ≡ slice_index bank.sizes k)
    × (stood_on others j ≡ stood_on opening k)

-- two banks have the same disks, in whatever order, and no call on them failed
pub record HaveSameDisks (opening others : List (List Sector)) (bank other : BankTold) : Type 0 where
  pub forth : AreDisksOf opening others bank other
  pub back : AreDisksOf others opening other bank
  pub read : (k : ℕ) → bank.faults k ≡ 0
  pub other_read : (k : ℕ) → other.faults k ≡ 0
