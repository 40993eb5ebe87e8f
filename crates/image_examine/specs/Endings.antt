-- How an examination ends. Source: this project's own.
use Rattle.std.specs.Prelude.{◌≡◌, ℕ, ◌⊎◌, Bool, List, [], ◌∷◌, Option, IfSome}
use Rattle.units.specs.declared.disk.Sector.{Sector}
use Rattle.units.specs.declared.disk.Serial.{Serial}
use Rattle.imsm_base.specs.Parts.{block_in}
use Rattle.imsm_base.specs.Whole.{IsWholeDisk}
use Rattle.units.specs.Places.{anchor_place}
use Rattle.device_log.specs.Log.{Call}
use Rattle.member_bank.specs.Faults.{Rose}
use Rattle.mpb_store.specs.declared.answer.Found.{Found}
use Rattle.mpb_store.specs.declared.answer.Found.TheVariants.{Whole, Unread}
use Rattle.mpb_store.specs.Answers.{IsPastFront}
use Rattle.mpb_store.specs.Banks.{AreRead, IsAnswerOn, has_failed, is_unread, places_read, sector_after}
use Rattle.image_outside.specs.Shelves.{IsUncalled}
use Rattle.image_outside.specs.Told.{BankTold}
use Rattle.image_examine.specs.Text.{found_status, found_text}

-- The calls are the reads of disk 0, of n sectors, in their order: of the anchor's place, and then of the extended
-- sectors that the anchor speaks of, up to the first that fails. Where the bank tells what it held, it is the anchor
-- that stands there.
pub record IsLook (n : ℕ) (opening : Option (List (List Sector))) (failed : Bool) (calls : List Call) : Type 0 where
  pub anchor : List ℕ
  pub reads : AreRead 0 (places_read n anchor) failed calls
  pub stands : IfSome opening (λ o. anchor ≡ (sector_after o calls 0 (anchor_place n)).0)

-- What was found on the one disk of a bank is printed as text, and the status is that of it. Where the bank tells its
-- opening contents and its log, it is what stands there. Whatever it tells, a block that is printed as whole is whole,
-- and the disk by it; no fault comes of bytes that aren't signed or that were cut; and a read failed exactly where that
-- is said.
pub record Examines (bank : BankTold) (lines : List ℕ) (status : ℕ) : Type 0 where
  pub own : Serial
  pub named : bank.serials ≡ own ∷ []
  pub sectors : ℕ
  pub sized : bank.sizes ≡ sectors ∷ []
  pub found : Found
  pub block : List ℕ
  pub told : IfSome bank.opening (λ o. IfSome bank.log (λ l. IsAnswerOn own.0 sectors (sector_after o l 0) found block))
  pub whole : found ≡ Whole → IsWholeDisk own.0 sectors block (block_in block)
  pub behind : IsPastFront found
  pub reads : IfSome bank.log (IsLook sectors bank.opening (is_unread found))
  pub failed : IfSome bank.log (λ l. has_failed l ≡ is_unread found)
  pub unread : found ≡ Unread → Rose 0 (bank.faults 0)
  pub status_is : status ≡ found_status found
  pub lines_are : lines ≡ found_text found block

-- the one disk of a bank was looked at, and nothing else was done, where it tells its log
pub record HasLooked (bank : BankTold) : Type 0 where
  pub sectors : ℕ
  pub sized : bank.sizes ≡ sectors ∷ []
  pub failed : Bool
  pub reads : IfSome bank.log (IsLook sectors bank.opening failed)

-- or no call was made yet
abbrev pub HasLookedOrNot : BankTold → Type 0
HasLookedOrNot bank = IsUncalled bank ⊎ HasLooked bank
