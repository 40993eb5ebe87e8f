-- What is seen of the disks of a bank when each is looked at once, one after the other. Source: this project's own.
use Rattle.std.specs.Prelude.{◌≡◌, ℕ, ◌+◌, ◌<◌, ◌≤◌, Bool, List, [], ◌∷◌, ◌++◌, map, length, slice_get, slice_index, Option, Some}
use Rattle.units.specs.declared.bounds.TheConstants.{METADATA_SECTORS}
use Rattle.units.specs.declared.disk.Sector.{Sector}
use Rattle.units.specs.declared.disk.Serial.{Serial}
use Rattle.imsm_base.specs.Parts.{block_in}
use Rattle.imsm_base.specs.Whole.{IsWholeDisk}
use Rattle.device_log.specs.Log.{Call}
use Rattle.member_bank.specs.Faults.{Rose}
use Rattle.member_bank.specs.Told.{Keeps}
use Rattle.member_bank.specs.declared.Bank as bank
use Rattle.mpb_store.specs.declared.answer.Found.{Found}
use Rattle.mpb_store.specs.declared.answer.Found.TheVariants as found
use Rattle.mpb_store.specs.Answers.{IsPastFront}
use Rattle.mpb_store.specs.Banks.{IsAnswerOn, LogsLook, is_unread, sector_after}
use Rattle.container.specs.declared.seen.Seen.{Seen}
use Rattle.container.specs.declared.seen.SeenAs.{SeenAs}
use Rattle.container.specs.declared.seen.SeenAs.TheVariants.{Whole, Blank, Torn, Unread}

-- what was found on a disk that is seen so, and the block
abbrev pub found_of : SeenAs → Found
found_of (Whole block) = found.Whole
found_of Blank = found.Blank
found_of (Torn fault) = found.Torn fault
found_of Unread = found.Unread

abbrev pub bytes_of : SeenAs → List ℕ
bytes_of (Whole block) = block.bytes
bytes_of Blank = []
bytes_of (Torn fault) = []
bytes_of Unread = []

-- Disk k of a bank was seen so. Whatever the bank tells, a block that counts as whole is whole, with a record of that
-- disk and no more sectors than it has; no fault is told that a disk can't have; a disk without room for metadata is
-- blank; and a read failed only where the disk's count of faults rose or stands at its last value. Where the bank tells
-- its opening contents and its log, it is what stood on the disk after the calls before and some first ones of those
-- since.
pub record IsSeen (serials : List Serial) (sizes : List ℕ) (opening : Option (List (List Sector)))
    (old log : Option (List Call)) (before now : ℕ → ℕ) (k : ℕ) (s : Seen) : Type 0 where
  pub disk : s.disk.0 ≡ k
  pub serial : slice_get serials k ≡ Some s.serial
  pub sectors : s.sectors ≡ slice_index sizes k
  pub whole : found_of s.holds ≡ found.Whole
      → IsWholeDisk s.serial.0 s.sectors (bytes_of s.holds) (block_in (bytes_of s.holds))
  pub possible : IsPastFront (found_of s.holds)
  pub small : s.sectors < METADATA_SECTORS → s.holds ≡ Blank
  pub unread : s.holds ≡ Unread → Rose (before k) (now k)
  pub told : (o : List (List Sector)) (all : List Call) → opening ≡ Some o → log ≡ Some all
      → (first since rest : List Call) × (old ≡ Some first) × (all ≡ (first ++ since) ++ rest)
      × IsAnswerOn s.serial.0 s.sectors (sector_after o (first ++ since) k) (found_of s.holds) (bytes_of s.holds)

-- The calls that a log has at its end, where it is told: one look at each of some disks from disk k on, in order, of
-- which this says whether a read failed.
abbrev pub Looks : (sizes : List ℕ) → (opening : Option (List (List Sector))) → (k : ℕ)
    → (old : Option (List Call)) → (failed : List Bool) → (new : Option (List Call)) → Type 0
Looks sizes opening k old [] new = Keeps old new
Looks sizes opening k old (failed ∷ more) new =
    (between : Option (List Call)) × LogsLook (slice_index sizes k) k opening old between failed
    × Looks sizes opening (k + 1) between more new

-- some first disks were looked at, and nothing else was done
pub record LooksAtFront (sizes : List ℕ) (opening : Option (List (List Sector)))
    (old new : Option (List Call)) : Type 0 where
  pub failed : List Bool
  pub few : length failed ≤ length sizes
  pub looks : Looks sizes opening 0 old failed new

abbrev pub are_unread : List Seen → List Bool
are_unread seen = map (λ (s : Seen). is_unread (found_of s.holds)) seen

-- All disks of a bank were looked at, in the order of their numbers, and seen so. A disk is unread exactly where a read
-- of its look failed.
pub record AreSeen (serials : List Serial) (sizes : List ℕ) (opening : Option (List (List Sector)))
    (old new : Option (List Call)) (before now : ℕ → ℕ) (seen : List Seen) : Type 0 where
  pub count : length seen ≡ length serials
  pub each : (k : ℕ) (s : Seen) → slice_get seen k ≡ Some s → IsSeen serials sizes opening old new before now k s
  pub looks : Looks sizes opening 0 old (are_unread seen) new

-- a bank at the end of a look is such that disk k, or each disk, was seen so since its beginning
abbrev pub SeesDisk : {B : Type 0} → bank.Ghosts B → (old new : B) → (k : ℕ) → Seen → Type 0
SeesDisk g old new k s =
    IsSeen (g.serials old) (g.sizes old) (g.opening new) (g.log old) (g.log new) (g.faults_of old) (g.faults_of new) k s
    × LogsLook (slice_index (g.sizes old) k) k (g.opening new) (g.log old) (g.log new) (is_unread (found_of s.holds))

abbrev pub SeesAll : {B : Type 0} → bank.Ghosts B → (old new : B) → List Seen → Type 0
SeesAll g old new seen =
    AreSeen (g.serials old) (g.sizes old) (g.opening new) (g.log old) (g.log new) (g.faults_of old) (g.faults_of new)
    seen

abbrev pub SeesFront : {B : Type 0} → bank.Ghosts B → (old new : B) → Type 0
SeesFront g old new = LooksAtFront (g.sizes old) (g.opening new) (g.log old) (g.log new)
