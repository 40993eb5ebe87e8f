-- How the slots that a volume has stand to what blocks say of them, at every moment of a run. Source: this project's
-- own, over dev-*/state of the kernel's md.rst and get_imsm_ord_tbl_ent of super-intel.c.
use Rattle.std.specs.Prelude.{◌≡◌, ℕ, ◌≤◌, ◌&&◌, not, Bool, true, false, List, map, Some, None, ◌⊎◌}
use Rattle.std.specs.List.{AllByRecursion, AllZip}
use Rattle.array_model.specs.Blocks.{Laid, SlotWords}
use Rattle.array_machine.specs.Setting.{Setting}
use Rattle.array_machine.specs.Numbers.{has, has_serial}
use Rattle.array_machine.specs.Volumes.{Slot, Volume, volume_at}
use Rattle.array_machine.specs.Rounds.{Step, OfRound, Going}
use Rattle.array_machine.specs.RoundEnds.{seat_of}
use Rattle.array_machine.specs.Control.{Control}
use Rattle.array_paths.specs.InTurn.{InTurn}
use Rattle.array_base.specs.Premises.{generation_of}
use Rattle.array_base.specs.Opening.{counts_out}

-- of each volume that was started, and its slots
abbrev pub EachStarted : (ℕ → List Slot → Type 0) → List Volume → Type 0
EachStarted Q volumes = (v : ℕ) → (volume_at volumes v).started ≡ true → Q v (volume_at volumes v).slots

module _ (S : Setting) where
  -- ONE SLOT

  -- the words of a slot are those of disk d, which they call expected, and say in sync where the slot is
  pub record TellsOf (w : SlotWords) (s : Slot) (d : ℕ) : Type 0 where
    pub serial : w.serial ≡ S.start.disks.serial d
    pub expected : w.is_expected ≡ true
    pub in_sync : s.in_sync ≡ true → w.is_in_sync ≡ true

  -- so they are, while its disk has no fault
  abbrev pub BacksSlot : List ℕ → SlotWords → Slot → Type 0
  BacksSlot faults w s = (d : ℕ) → s.disk ≡ Some d → has d faults ≡ false → TellsOf w s d

  -- a slot is in sync that is of an expected disk without a fault
  abbrev pub IsFilled : List ℕ → SlotWords → Type 0
  IsFilled faults w =
      (d : ℕ) → w.serial ≡ S.start.disks.serial d → w.is_expected ≡ true → has d faults ≡ false → w.is_in_sync ≡ true

  -- a slot in sync is of no disk that counts out
  abbrev pub CountsIn : Slot → Type 0
  CountsIn s = (d : ℕ) → s.disk ≡ Some d → s.in_sync ≡ true → counts_out S d ≡ false

  -- the slot that words tell of: before the first round has finished what counts out isn't in sync
  abbrev pub slot_said : (first : Bool) → SlotWords → Slot
  slot_said first w = record {
    disk = seat_of S w;
    in_sync = w.is_in_sync && not (first && has_serial w.serial S.start.counts_out);
  }

  -- A VOLUME'S

  abbrev pub words_at : Laid → ℕ → List SlotWords
  words_at m v = S.start.words.slots m v

  -- slot by slot
  abbrev pub Backs : List ℕ → List SlotWords → List Slot → Type 0
  Backs faults ws slots = AllZip (BacksSlot faults) ws slots

  abbrev pub AreFilled : List ℕ → List SlotWords → Type 0
  AreFilled faults ws = AllByRecursion (IsFilled faults) ws

  -- A block that the book is or may come to: it backs the slots that volume v has, and those that the last finished
  -- round's block tells of; and where it closed a pass that one has open, its slots are filled.
  pub record IsAhead (first : Bool) (faults : List ℕ) (last : Laid) (v : ℕ) (slots : List Slot) (m : Laid) : Type 0
    where
      pub has : Backs faults (words_at m v) slots
      pub said : Backs faults (words_at m v) (map (slot_said first) (words_at last v))
      pub closed : (kind : ℕ) → S.start.words.pass last v ≡ Some kind → S.start.words.pass m v ≡ None
          → AreFilled faults (words_at m v)

  -- So are the book, the last finished round's block, and those that disks were given no lower than it. Before the
  -- first round has finished no slot in sync counts out.
  pub record SlotsHold (first : Bool) (faults : List ℕ) (last book : Laid) (given : ℕ → Laid) (v : ℕ)
      (slots : List Slot) : Type 0 where
    pub of_book : IsAhead first faults last v slots book
    pub of_last : IsAhead first faults last v slots last
    pub of_given : (d : ℕ) → generation_of S last ≤ generation_of S (given d)
        → IsAhead first faults last v slots (given d)
    pub counted : first ≡ true → AllByRecursion CountsIn slots

  abbrev pub AllSlotsHold : Control → Type 0
  AllSlotsHold c =
      EachStarted (SlotsHold c.round.first c.round.faults c.round.last c.round.book c.round.given) c.volumes

  -- Within a turn: so it was when the turn began, and is now; faults grew, volumes stay started, and where another
  -- block is the last finished round's by now, the first round has finished. A round that went on when the turn began
  -- was of the book.
  pub record SlotsInTurn (t : InTurn) (c : Control) : Type 0 where
    pub before : AllSlotsHold t.before
    pub now : AllSlotsHold c
    pub faults : (d : ℕ) → has d c.round.faults ≡ false → has d t.before.round.faults ≡ false
    pub started : (v : ℕ) → (volume_at c.volumes v).started ≡ true → (volume_at t.before.volumes v).started ≡ true
    pub ended : (c.round.last ≡ t.before.round.last) ⊎ (c.round.first ≡ false)
    pub round : (m : Laid) (step : Step) (left late : List ℕ) (done : Bool)
        → t.before.round.phase ≡ Going OfRound m step left late done → t.before.round.book ≡ m
