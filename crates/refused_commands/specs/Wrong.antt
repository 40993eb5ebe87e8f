-- What a careless or a lazy command would leave. Source: this project's own.
use Rattle.std.specs.Prelude.{◌≡◌, ℕ, ◌+◌, ◌-◌, ◌^◌, ◌<◌, ◌≤◌, ◌==◌, ◌&&◌, nat_le, nat_lt, Bool, true, false, List, [], ◌∷◌, ◌++◌, length, Some, None}
use Rattle.std.specs.List.{list_any}
use Rattle.units.specs.declared.bounds.TheConstants.{METADATA_SECTORS}
use Rattle.units.specs.declared.disk.Serial.{Serial}
use Rattle.member_bank.specs.Faults.{Rose}
use Rattle.units.specs.Places.{anchor_place}
use Rattle.device_log.specs.Log.{Call, What, Read, Write, Sync, IsReadCall}
use Rattle.image_outside.specs.Told.{BankTold, ShelfTold}
use Rattle.image_words.specs.Words.{ImageWord, serials_named}
use Rattle.image_run.specs.Requests.{Request, NotWords, TooManyImages, Assemble, Incremental, Examine, Create, Replay}

-- a count of faults stands where it stood, below its last value
pub record StandsStill (before after : ℕ) : Type 0 where
  pub same : after ≡ before
  pub below : before < 2 ^ 64 - 1

-- the bank tells its log, and in it a call that isn't a read
pub record TellsChange (bank : BankTold) : Type 0 where
  pub front : List Call
  pub change : Call
  pub rest : List Call
  pub told : bank.log ≡ Some (front ++ change ∷ rest)
  pub changes : IsReadCall change.what → ⊥

-- the images that a request names
abbrev pub images_of : Request → List ImageWord
images_of NotWords = []
images_of TooManyImages = []
images_of (Assemble run images) = images
images_of (Incremental run images) = images
images_of (Examine images) = images
images_of (Create made images) = images
images_of (Replay limit images) = images

-- the files of two images were opened, the first one's first, and the bank of these two disks is held
pub record HoldsPair (a b : ImageWord) (before after : ShelfTold) (bank : BankTold) : Type 0 where
  pub paths : after.paths ≡ before.paths ++ a.file ∷ b.file ∷ []
  pub held : after.bank ≡ Some bank
  pub named : bank.serials ≡ serials_named (a ∷ b ∷ [])

-- a bank of one disk of n sectors, which has room for metadata, tells this log
pub record TellsOfOne (n : ℕ) (log : List Call) (bank : BankTold) : Type 0 where
  pub sized : bank.sizes ≡ n ∷ []
  pub large : METADATA_SECTORS ≤ n
  pub told : bank.log ≡ Some log

-- a place of disk 0 is read
abbrev pub read_of : ℕ → Call
read_of place = record { disk = 0; what = Read place; went = true }

-- a bank of the one disk of this serial, whose anchor couldn't be read, tells that one call, and not what the disk held
pub record FailsAnchor (own : Serial) (n : ℕ) (bank : BankTold) : Type 0 where
  pub named : bank.serials ≡ own ∷ []
  pub untold : bank.opening ≡ None
  pub tells : TellsOfOne n (record { disk = 0; what = Read (anchor_place n); went = false } ∷ []) bank
  pub cause : Rose 0 (bank.faults 0)

-- a bank whose first disk has n sectors tells this log
pub record TellsOfFirst (n : ℕ) (log : List Call) (bank : BankTold) : Type 0 where
  pub others : List ℕ
  pub sized : bank.sizes ≡ n ∷ others
  pub told : bank.log ≡ Some log

-- a call writes place p of disk d, or would have written it
abbrev pub covers : ℕ → What → Bool
covers p (Read place) = false
covers p (Write place sectors stored) = nat_le place p && nat_lt p (place + length sectors)
covers p Sync = false

abbrev pub writes_at : (d p : ℕ) → Call → Bool
writes_at d p call = (call.disk == d) && covers p call.what

-- no call writes the place of the anchor of disk 0, of n sectors
abbrev pub LeavesAnchor : ℕ → List Call → Type 0
LeavesAnchor n log = list_any (writes_at 0 (anchor_place n)) log ≡ false
