-- What is found on a disk, by the bytes of the sectors that its anchor speaks of, the anchor's first.
-- Source: load_and_parse_mpb and load_imsm_disk of super-intel.c; the order of the answers is this project's own.
use Rattle.std.specs.Prelude.{◌≡◌, ◌≢◌, ℕ, ◌<◌, ◌≤◌, ◌⊎◌, true, false, List, take, Option, None, ⊤}
use Rattle.std.specs.Option.{IsSomeAnd}
use Rattle.units.specs.declared.bounds.TheConstants.{METADATA_SECTORS}
use Rattle.units.specs.declared.disk.Sector.{Sector}
use Rattle.imsm_base.specs.Fields.{Part}
use Rattle.imsm_base.specs.Layout.{total_blocks_of}
use Rattle.imsm_base.specs.Parts.{block_in}
use Rattle.imsm_base.specs.Whole.{the_signature, own_record, IsWhole, IsWholeDisk}
use Rattle.units.specs.Places.{anchor_place}
use Rattle.imsm_codec.specs.Given.{given_block}
use Rattle.imsm_codec.specs.Faults.{HasFault}
use Rattle.imsm_codec.specs.declared.fault.MpbFault.{MpbFault}
use Rattle.imsm_codec.specs.declared.fault.MpbFault.TheVariants.{Short, Signature, Cut}
use Rattle.mpb_store.specs.declared.answer.Found.{Found}
use Rattle.mpb_store.specs.declared.answer.Found.TheVariants.{Whole, Blank, Torn, Unread}
use Rattle.mpb_store.specs.declared.answer.StoreFault.TheVariants.{Mpb, NoOwn, Small}
use Rattle.mpb_store.specs.Reading.{Reading, places_of, bytes_at}

-- the disk has room for metadata, and its anchor is signed
pub record IsMarked (n : ℕ) (bytes : List ℕ) : Type 0 where
  pub room : METADATA_SECTORS ≤ n
  pub signed : take 24 bytes ≡ the_signature

-- the disk has room for metadata, and a whole block stands there
pub record HasBlock (n : ℕ) (bytes : List ℕ) : Type 0 where
  pub room : METADATA_SECTORS ≤ n
  pub whole : IsWhole (given_block bytes)

-- the record that speaks for a serial in the block that the bytes begin with
abbrev pub own_in : List ℕ → List ℕ → Option Part
own_in own bytes = own_record own (block_in (given_block bytes))

-- what is found on a disk of n sectors with this serial
abbrev pub IsFound : List ℕ → ℕ → List ℕ → Found → Type 0
IsFound own n bytes Whole = IsWholeDisk own n (given_block bytes) (block_in (given_block bytes))
IsFound own n bytes Blank = (n < METADATA_SECTORS) ⊎ (take 24 bytes ≢ the_signature)
IsFound own n bytes (Torn (Mpb fault)) = IsMarked n bytes × HasFault bytes fault
IsFound own n bytes (Torn NoOwn) = HasBlock n bytes × (own_in own bytes ≡ None)
IsFound own n bytes (Torn (Small named has)) =
    HasBlock n bytes × IsSomeAnd (own_in own bytes) (λ d. total_blocks_of d ≡ named) × (has ≡ n) × (n < named)
IsFound own n bytes Unread = ⊥

-- the same of a reading, where a read may have failed
abbrev pub IsAnswer : List ℕ → Reading → Found → Type 0
IsAnswer own r Unread = r.failed ≡ true
IsAnswer own r found = (r.failed ≡ false) × IsFound own r.sectors r.bytes found

-- what is found where what was read has this fault
abbrev pub found_by : MpbFault → Found
found_by (Short given) = Blank
found_by Signature = Blank
found_by fault = Torn (Mpb fault)

-- the bytes of a disk of n sectors that an answer is by, where `at` gives the sector at each place
abbrev pub bytes_on : ℕ → (ℕ → Sector) → List ℕ
bytes_on n at = bytes_at at (places_of n (at (anchor_place n)).0)

-- no fault of a block that is too short, unsigned or cut: the anchor is signed, and all that it speaks of was read
abbrev pub IsPastFront : Found → Type 0
IsPastFront (Torn (Mpb (Short given))) = ⊥
IsPastFront (Torn (Mpb Signature)) = ⊥
IsPastFront (Torn (Mpb (Cut n given))) = ⊥
IsPastFront _ = ⊤
