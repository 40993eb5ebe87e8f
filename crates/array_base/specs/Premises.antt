-- What laws over runs take as given of words, edits, spares' blocks and disks: nothing that real blocks and banks can't
-- meet. A block is whole only at the end of a disk with room for it, and edits keep it whole. Source: this project's
-- own, over load_imsm_mpb, store_imsm_mpb and imsm_process_update of super-intel.c.
use Rattle.std.specs.Prelude.{◌≡◌, ℕ, ◌+◌, ◌<◌, ◌≤◌, Bool, true, false, List, [], length, slice_get, Some, ⊤}
use Rattle.std.specs.List.{AllByRecursion}
use Rattle.units.specs.declared.bounds.TheConstants.{METADATA_SECTORS}
use Rattle.array_model.specs.Blocks.{Laid, SlotWords, is_container}
use Rattle.array_disks.specs.Held.{IsWholeOn}
use Rattle.array_disks.specs.Calls.{FitsEnd}
use Rattle.array_machine.specs.Setting.{Setting, Facts, Edit, ActivatesDisk}
use Rattle.array_machine.specs.EditWords.{IsApt, EditsMean}
use Rattle.array_machine.specs.Rounds.{expects}
use Rattle.array_paths.specs.Ready.{RowsInside}

module _ (S : Setting) where
  abbrev pub generation_of : Laid → ℕ
  generation_of m = S.start.words.generation m.anchor

  -- a container's block; any other is a spare's
  abbrev pub IsContainer : Laid → Type 0
  IsContainer m = is_container S.start.words m ≡ true

  -- WHOLE BLOCKS

  -- whole at the end of disk d
  abbrev pub IsWholeAt : (d : ℕ) → Laid → Type 0
  IsWholeAt d m = IsWholeOn S.start.words S.start.disks d m

  -- whole on each disk that it expects
  abbrev pub IsWholeOnItsDisks : Laid → Type 0
  IsWholeOnItsDisks m = (d : ℕ) → expects S m d ≡ true → IsWholeAt d m

  -- it has as many extended sectors as its anchor says, and is whole on some disk
  pub record IsBlock (m : Laid) : Type 0 where
    pub extra : S.start.words.extra m.anchor ≡ length m.extended
    pub serial : List ℕ
    pub sectors : ℕ
    pub whole : S.start.words.is_whole serial sectors m ≡ true

  -- A block that may be the book: of a form that edits keep, a container's, with the shapes that the newest block gives
  -- to volumes, and whole on each disk that it expects.
  pub record MayBeBook (formed : Laid → Bool) (m : Laid) : Type 0 where
    pub form : formed m ≡ true
    pub container : IsContainer m
    pub shape : (v : ℕ) → S.start.words.shape m v ≡ S.start.words.shape S.start.newest v
    pub whole : IsWholeOnItsDisks m

  -- what is written to disk d to make it a spare: whole there, one sector, and no container's
  pub record IsSpareBlock (d : ℕ) (m : Laid) : Type 0 where
    pub whole : IsWholeAt d m
    pub extra : S.start.words.extra m.anchor ≡ 0
    pub alone : m.extended ≡ []
    pub spare : is_container S.start.words m ≡ false

  -- EDITS

  -- the disk of this serial is one of the bank, with room for metadata
  pub record HasRoomyDisk (serial : List ℕ) : Type 0 where
    pub disk : ℕ
    pub is : serial ≡ S.start.disks.serial disk
    pub below : disk < S.start.disks.count
    pub room : METADATA_SECTORS ≤ S.start.disks.sectors disk

  -- a disk that an edit brings has room
  abbrev pub BringsRoomyDisk : Edit → Type 0
  BringsRoomyDisk (ActivatesDisk serial index) = HasRoomyDisk serial
  BringsRoomyDisk _ = ⊤

  -- SLOTS

  -- a slot of volume v, of which the record is expected and is that of disk d
  pub record IsSlotOf (m : Laid) (v d : ℕ) (w : SlotWords) : Type 0 where
    pub slot : ℕ
    pub is : slice_get (S.start.words.slots m v) slot ≡ Some w
    pub expected : w.is_expected ≡ true
    pub serial : w.serial ≡ S.start.disks.serial d

  -- a slot in sync is of an expected record, and the block expects the disk of such a record
  pub record IsToldOf (m : Laid) (w : SlotWords) : Type 0 where
    pub in_sync : w.is_in_sync ≡ true → w.is_expected ≡ true
    pub expected : w.is_expected ≡ true → S.start.words.expects m w.serial ≡ true

  -- ALL THAT IS GIVEN

  -- Edits mean what their names say. A block of the form that they keep fits the end of a disk and expects disks of the
  -- bank alone. Its slots are in sync only where it expects their disks, and those of started volumes stand only on disks
  -- that are large enough for the rows. An edit that fits keeps it whole. A block is whole only where there is room, and
  -- one with the anchor of a block of the form is a container's where that one is; a block of the form expects no disk
  -- without a record. A spare's block is one. Disks have serials of their own, and operations name rows of their volumes.
  pub record Premises : Type 0 where
    pub edits : EditsMean S
    pub fits : (m : Laid) → edits.formed m ≡ true → FitsEnd S.start.words m
    pub named : (m : Laid) (d : ℕ) → edits.formed m ≡ true → expects S m d ≡ true → d < S.start.disks.count
    pub told : (m : Laid) (v : ℕ) → edits.formed m ≡ true → S.start.words.is_supported m v ≡ true
        → AllByRecursion (IsToldOf m) (S.start.words.slots m v)
    pub seats : (m : Laid) (v d : ℕ) (w : SlotWords) → edits.formed m ≡ true → IsWholeOnItsDisks m
        → S.start.is_started v ≡ true → IsSlotOf m v d w
        → (S.start.words.shape m v).pba + (S.start.words.shape m v).rows + METADATA_SECTORS ≤ S.start.disks.sectors d
    pub stays_whole : (f : Facts) (m : Laid) (e : Edit) → IsApt S m e → BringsRoomyDisk e → edits.formed m ≡ true
        → IsWholeOnItsDisks m → IsWholeOnItsDisks (S.edit f m e)
    pub room : (serial : List ℕ) (n : ℕ) (m : Laid) → S.start.words.is_whole serial n m ≡ true → METADATA_SECTORS ≤ n
    pub by_anchor : (a m : Laid) → IsBlock a → edits.formed m ≡ true → a.anchor ≡ m.anchor
        → is_container S.start.words a ≡ is_container S.start.words m
    pub recorded : (m : Laid) (serial : List ℕ) → edits.formed m ≡ true
        → S.start.words.has_record m serial ≡ false → S.start.words.expects m serial ≡ false
    pub spare : (book : Laid) (d : ℕ) → edits.formed book ≡ true → d < S.start.disks.count
        → METADATA_SECTORS ≤ S.start.disks.sectors d → IsSpareBlock d (S.spare book d)
    pub serials : (d e : ℕ) → d < S.start.disks.count → e < S.start.disks.count
        → S.start.disks.serial d ≡ S.start.disks.serial e → d ≡ e
    pub rows : RowsInside S
