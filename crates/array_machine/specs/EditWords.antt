-- What an edit makes of the words of a block: one function a word, which the edits of real blocks are shown to meet.
-- Source: the updates of super-intel.c; what an edit leaves alone is this project's own.
use Rattle.std.specs.Prelude.{◌≡◌, ℕ, ◌<◌, ◌==◌, ◌||◌, ◌&&◌, not, nat_lt, Bool, true, false, List, [], ◌∷◌, Option, None, ⊤, ◌⊎◌}
use Rattle.std.specs.List.{AllByRecursion, AllZip}
use Rattle.std.specs.Str.{bytes_eq}
use Rattle.array_model.specs.Blocks.{Laid, SlotWords}
use Rattle.array_model.specs.Renewal.{FitsGeneration}
use Rattle.array_machine.specs.Setting.{Facts, Edit, TakesGeneration, FailsDisk, CountsOut, MakesDirty, MakesClean, RecordsUnit, ClosesPass, StartsVolume, ActivatesDisk, RemovesDisk, NamesVolume, Setting}

-- ONE FUNCTION A WORD

abbrev pub generation_after : Edit → ℕ → ℕ
generation_after (TakesGeneration g) n = g
generation_after _ n = n

-- of volume v; a volume that starts unfinished is clean, since its pass says from then on that its rows may differ
abbrev pub dirty_after : Edit → ℕ → (unfinished dirty : Bool) → Bool
dirty_after (MakesDirty w) v unfinished y = (w == v) || y
dirty_after (MakesClean w) v unfinished y = not (w == v) && y
dirty_after (StartsVolume w) v unfinished y = not ((w == v) && unfinished) && y
dirty_after _ v unfinished y = y

abbrev pub expects_after : Edit → List ℕ → Bool → Bool
expects_after (FailsDisk s) serial y = not (bytes_eq s serial) && y
expects_after (ActivatesDisk s i) serial y = bytes_eq s serial || y
expects_after _ serial y = y

-- SLOTS

-- a slot keeps its disk, and whether that is expected and in sync
pub record KeepsSlot (w x : SlotWords) : Type 0 where
  pub serial : x.serial ≡ w.serial
  pub expected : x.is_expected ≡ w.is_expected
  pub in_sync : x.is_in_sync ≡ w.is_in_sync

-- a disk that fails isn't expected any more, and is out of sync
pub record LosesSlot (s : List ℕ) (w x : SlotWords) : Type 0 where
  pub serial : x.serial ≡ w.serial
  pub expected : x.is_expected ≡ (not (bytes_eq s w.serial) && w.is_expected)
  pub in_sync : x.is_in_sync ≡ (not (bytes_eq s w.serial) && w.is_in_sync)

-- a disk that counts out is out of sync
pub record OutOfSlot (s : List ℕ) (w x : SlotWords) : Type 0 where
  pub serial : x.serial ≡ w.serial
  pub expected : x.is_expected ≡ w.is_expected
  pub in_sync : x.is_in_sync ≡ (not (bytes_eq s w.serial) && w.is_in_sync)

-- behind a pass that closes each slot of a disk that works is in sync, where its record is expected
pub record FillsSlot (f : Facts) (w x : SlotWords) : Type 0 where
  pub serial : x.serial ≡ w.serial
  pub expected : x.is_expected ≡ w.is_expected
  pub in_sync : x.is_in_sync ≡ ((f.works w.serial && w.is_expected) || w.is_in_sync)

-- a slot of a failed index is given to a spare, which isn't in sync
pub record TakesSlot (s : List ℕ) (i : ℕ) (w x : SlotWords) : Type 0 where
  pub index : w.index ≡ i
  pub failed : w.is_expected ≡ false
  pub serial : x.serial ≡ s
  pub expected : x.is_expected ≡ true
  pub in_sync : x.is_in_sync ≡ false

abbrev pub FillsIf : Bool → Facts → SlotWords → SlotWords → Type 0
FillsIf true f w x = FillsSlot f w x
FillsIf false f w x = KeepsSlot w x

-- of volume v
abbrev pub SlotAfter : Facts → Edit → ℕ → SlotWords → SlotWords → Type 0
SlotAfter f (FailsDisk s) v w x = LosesSlot s w x
SlotAfter f (CountsOut s) v w x = OutOfSlot s w x
SlotAfter f (ClosesPass u) v w x = FillsIf (u == v) f w x
SlotAfter f (ActivatesDisk s i) v w x = KeepsSlot w x ⊎ TakesSlot s i w x
SlotAfter f _ v w x = KeepsSlot w x

-- slot by slot
abbrev pub SlotsAfter : Facts → Edit → ℕ → List SlotWords → List SlotWords → Type 0
SlotsAfter f e v [] [] = ⊤
SlotsAfter f e v [] (x ∷ xs) = ⊥
SlotsAfter f e v (w ∷ ws) [] = ⊥
SlotsAfter f e v (w ∷ ws) (x ∷ xs) = SlotAfter f e v w x × SlotsAfter f e v ws xs

-- PASSES

-- a slot has nothing to rebuild: it is in sync, or its record isn't expected
abbrev pub NeedsNoRebuild : SlotWords → Type 0
NeedsNoRebuild x = (x.is_in_sync ≡ true) ⊎ (x.is_expected ≡ false)

-- Why volume v has no pass open behind an edit, by the pass before it and by its slots before and behind it: it had
-- none, or the edit closed it. A failure and a start close a pass only where it has nothing to rebuild; a spare takes a
-- slot of a volume only with a pass.
abbrev pub HasNoPass : Edit → ℕ → (was : Option ℕ) → (ws xs : List SlotWords) → Type 0
HasNoPass (FailsDisk s) v was ws xs = (was ≡ None) ⊎ AllByRecursion NeedsNoRebuild xs
HasNoPass (ClosesPass u) v was ws xs = (was ≡ None) ⊎ ((u == v) ≡ true)
HasNoPass (StartsVolume u) v was ws xs = ((was ≡ None) × ((u == v) ≡ false)) ⊎ AllByRecursion NeedsNoRebuild xs
HasNoPass (ActivatesDisk s i) v was ws xs = (was ≡ None) × AllZip KeepsSlot ws xs
HasNoPass _ v was ws xs = was ≡ None

-- WHAT AN EDIT NEEDS

-- a disk of the bank has the serial
pub record IsOfDisk (S : Setting) (serial : List ℕ) : Type 0 where
  pub disk : ℕ
  pub is : serial ≡ S.start.disks.serial disk
  pub below : disk < S.start.disks.count

-- The edit fits the block: a generation that has its place, a volume that was started or is there, room for the record
-- of a disk of the bank that has none, a record that isn't expected.
abbrev pub IsApt : Setting → Laid → Edit → Type 0
IsApt S m (TakesGeneration g) = FitsGeneration g
IsApt S m (FailsDisk s) = ⊤
IsApt S m (CountsOut s) = ⊤
IsApt S m (MakesDirty v) = S.start.is_started v ≡ true
IsApt S m (MakesClean v) = S.start.is_started v ≡ true
IsApt S m (RecordsUnit v u) = S.start.is_started v ≡ true
IsApt S m (ClosesPass v) = S.start.is_started v ≡ true
IsApt S m (StartsVolume v) = S.start.is_started v ≡ true
IsApt S m (ActivatesDisk s i) =
    (S.start.words.has_room m ≡ true) × (S.start.words.has_record m s ≡ false) × IsOfDisk S s
IsApt S m (RemovesDisk s) = (S.start.words.has_record m s ≡ true) × (S.start.words.expects m s ≡ false)
IsApt S m (NamesVolume v name) = nat_lt v (S.start.words.volumes m) ≡ true

-- each of these edits fits the block that those before it made
abbrev pub AreApt : Setting → Facts → Laid → List Edit → Type 0
AreApt S f m [] = ⊤
AreApt S f m (e ∷ es) = IsApt S m e × AreApt S f (S.edit f m e) es

-- WHAT EDITS MEAN

-- On blocks of a form that edits keep, each edit that fits does what its name says, and no more; of such a block each
-- started volume is supported, and stays so.
pub record EditsMean (S : Setting) : Type 0 where
  pub formed : Laid → Bool
  pub served : (m : Laid) (v : ℕ) → formed m ≡ true → S.start.is_started v ≡ true
      → S.start.words.is_supported m v ≡ true
  pub keeps : (f : Facts) (m : Laid) (e : Edit) → IsApt S m e → formed m ≡ true → formed (S.edit f m e) ≡ true
  pub generation : (f : Facts) (m : Laid) (e : Edit) → IsApt S m e → formed m ≡ true
      → S.start.words.generation (S.edit f m e).anchor ≡ generation_after e (S.start.words.generation m.anchor)
  pub volumes : (f : Facts) (m : Laid) (e : Edit) → IsApt S m e → formed m ≡ true
      → S.start.words.volumes (S.edit f m e) ≡ S.start.words.volumes m
  pub shape : (f : Facts) (m : Laid) (e : Edit) (v : ℕ) → IsApt S m e → formed m ≡ true
      → S.start.words.shape (S.edit f m e) v ≡ S.start.words.shape m v
  pub dirty : (f : Facts) (m : Laid) (e : Edit) (v : ℕ) → IsApt S m e → formed m ≡ true
      → S.start.words.is_dirty (S.edit f m e) v
      ≡ dirty_after e v (S.start.words.is_unfinished m v) (S.start.words.is_dirty m v)
  pub expects : (f : Facts) (m : Laid) (e : Edit) (serial : List ℕ) → IsApt S m e → formed m ≡ true
      → S.start.words.expects (S.edit f m e) serial ≡ expects_after e serial (S.start.words.expects m serial)
  pub supported : (f : Facts) (m : Laid) (e : Edit) (v : ℕ) → IsApt S m e → formed m ≡ true
      → S.start.words.is_supported m v ≡ true → S.start.words.is_supported (S.edit f m e) v ≡ true
  pub slots : (f : Facts) (m : Laid) (e : Edit) (v : ℕ) → IsApt S m e → formed m ≡ true
      → S.start.words.is_supported m v ≡ true
      → SlotsAfter f e v (S.start.words.slots m v) (S.start.words.slots (S.edit f m e) v)
  pub pass : (f : Facts) (m : Laid) (e : Edit) (v : ℕ) → IsApt S m e → formed m ≡ true → S.start.is_started v ≡ true
      → S.start.words.pass (S.edit f m e) v ≡ None
      → HasNoPass e v (S.start.words.pass m v) (S.start.words.slots m v) (S.start.words.slots (S.edit f m e) v)
