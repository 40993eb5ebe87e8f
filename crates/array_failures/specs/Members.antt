-- What a block keeps of the last finished round's: which disks it expects, which volumes it supports, and their slots.
-- Source: this project's own, over mark_failure and imsm_process_update of super-intel.c.
use Rattle.std.specs.Prelude.{◌≡◌, ℕ, ◌<◌, ◌≤◌, true, false, List, ◌⊎◌}
use Rattle.std.specs.List.{AllZip}
use Rattle.array_model.specs.Blocks.{Laid, SlotWords}
use Rattle.array_model.specs.Candidates.{Disk}
use Rattle.array_disks.specs.Changes.{EachKnown}
use Rattle.array_machine.specs.Setting.{Setting}
use Rattle.array_machine.specs.Numbers.{has, has_serial}
use Rattle.array_machine.specs.Control.{Control}
use Rattle.array_base.specs.Premises.{generation_of, IsContainer}

module _ (S : Setting) where
  -- LOST DISKS

  -- a disk of the bank with this serial has failed
  pub record IsLost (faults : List ℕ) (serial : List ℕ) : Type 0 where
    pub disk : ℕ
    pub is : serial ≡ S.start.disks.serial disk
    pub below : disk < S.start.disks.count
    pub failed : has disk faults ≡ true

  -- and the block says so
  pub record IsCalledFailed (faults : List ℕ) (m : Laid) (serial : List ℕ) : Type 0 where
    pub lost : IsLost faults serial
    pub unexpected : S.start.words.expects m serial ≡ false

  -- before the first round has finished, the opening's verdict counts it out
  pub record IsCountedOut (last : Laid) (serial : List ℕ) : Type 0 where
    pub newest : last ≡ S.start.newest
    pub listed : has_serial serial S.start.counts_out ≡ true

  -- WHAT STAYS

  -- A slot whose disk was expected has that disk still, expected, or the block calls the disk failed. A slot that was
  -- in sync is so still, unless its disk failed or counts out.
  pub record StaysInSlot (faults : List ℕ) (last m : Laid) (w x : SlotWords) : Type 0 where
    pub expected : w.is_expected ≡ true
        → ((x.serial ≡ w.serial) × (x.is_expected ≡ true)) ⊎ IsCalledFailed faults m w.serial
    pub in_sync : w.is_in_sync ≡ true
        → (x.is_in_sync ≡ true) ⊎ IsLost faults w.serial ⊎ IsCountedOut last w.serial

  -- A disk that was expected is so still, unless it failed; a volume stays supported, and its slots stay so.
  pub record LeadsTo (faults : List ℕ) (last m : Laid) : Type 0 where
    pub expected : (serial : List ℕ) → S.start.words.expects last serial ≡ true
        → (S.start.words.expects m serial ≡ true) ⊎ IsLost faults serial
    pub supported : (v : ℕ) → S.start.words.is_supported last v ≡ true → S.start.words.is_supported m v ≡ true
    pub slots : (v : ℕ) → S.start.words.is_supported last v ≡ true
        → AllZip (StaysInSlot faults last m) (S.start.words.slots last v) (S.start.words.slots m v)

  -- BLOCKS THAT MAY COUNT

  -- it holds of the book, and of each container's block that is known and no older than the last finished round's
  pub record OfEachCurrent (Q : Laid → Type 0) (ks : ℕ → Disk) (book last : Laid) : Type 0 where
    pub of_book : Q book
    pub of_known : EachKnown (λ e a. IsContainer S a → generation_of S last ≤ generation_of S a → Q a) ks

  -- the last finished round's block leads to each of them
  abbrev pub LastLeads : (ℕ → Disk) → Control → Type 0
  LastLeads ks c =
      OfEachCurrent (λ m. LeadsTo c.round.faults c.round.last m) ks c.round.book c.round.last
