-- What the block of a round that begins says, by the meaning of each edit: it may be the book, has the next generation,
-- and expects each disk on which the book rests.
use Rattle.std.proofs.Common.{◌≡◌, ℕ, ◌+◌, ◌<◌, ◌≤◌, ◌==◌, ◌||◌, ◌&&◌, not, max, Bool, true, false, List, [], ◌∷◌, ◌++◌, refl, ap, sym, ◌∙◌, subst, arith, eqb-true, if◌then◌else◌}
use Rattle.std.specs.List.{AllByRecursion}
use Rattle.std.specs.Str.{bytes_eq}
use Rattle.std.proofs.lemmas.Slice.Eq.{bytes_eq-Decides}
use Rattle.units.specs.declared.bounds.TheConstants.{METADATA_SECTORS}
use Rattle.array_model.specs.Blocks.{Laid}
use Rattle.array_model.proofs.Journals.{all-append, all_map}
use Rattle.array_machine.specs.Setting.{Setting, Facts, Edit, TakesGeneration, FailsDisk, CountsOut, MakesDirty, MakesClean, RecordsUnit, ClosesPass, StartsVolume, ActivatesDisk, RemovesDisk, NamesVolume, edited}
use Rattle.array_machine.specs.Numbers.{has}
use Rattle.array_machine.specs.EditWords.{IsApt, AreApt, expects_after, dirty_after}
use Rattle.array_machine.specs.States.{is_resting}
use Rattle.array_machine.specs.Volumes.{Volume}
use Rattle.array_machine.specs.EditFacts.{facts_of}
use Rattle.array_machine.specs.Rounds.{expects}
use Rattle.array_machine.specs.Control.{Control}
use Rattle.array_machine.specs.Updates.{need_in, need_for}
use Rattle.array_paths.specs.InTurn.{InTurn, state_of}
use Rattle.array_paths.specs.MayEdit.{MayEdit, IsNext}
use Rattle.array_base.specs.Premises.{generation_of, MayBeBook, BringsRoomyDisk, Premises}

-- A DISK FOR AN INDEX

-- a disk that takes the place of an index has room for metadata at least
pub need_least : (S : Setting) (book : Laid) (i v : ℕ) (xs : List Volume) → METADATA_SECTORS ≤ need_for S book i v xs
need_least S book i v [] = omega arith
need_least S book i v (x ∷ xs) =
    let rest = need_least S book i (v + 1) xs in
    at (need_in S book i v x) (need_for S book i (v + 1) xs) rest
  where
    at : (a b : ℕ) → METADATA_SECTORS ≤ b → METADATA_SECTORS ≤ max a b
    at a b le = grind (arith, le)

module _ (S : Setting) (P : Premises S) where
  -- EDITS ONE AFTER THE OTHER

  book_edit : (f : Facts) (m : Laid) (e : Edit) → IsApt S m e → BringsRoomyDisk S e → MayBeBook S P.edits.formed m
      → MayBeBook S P.edits.formed (S.edit f m e)
  book_edit f m e apt room book = record {
    form = P.edits.keeps f m e apt book.form;
    container = ap (λ n. if n == 0 then false else true) (P.edits.volumes f m e apt book.form) ∙ book.container;
    shape = λ v. P.edits.shape f m e v apt book.form ∙ book.shape v;
    whole = P.stays_whole f m e apt room book.form book.whole;
  }

  pub book_edited : (f : Facts) (m : Laid) (es : List Edit) → AreApt S f m es → AllByRecursion (BringsRoomyDisk S) es
      → MayBeBook S P.edits.formed m → MayBeBook S P.edits.formed (edited S f m es)
  book_edited f m [] apt room book = book
  book_edited f m (e ∷ es) apt room book =
      book_edited f (S.edit f m e) es apt.1 room.1 (book_edit f m e apt.0 room.0 book)

  generation_edited : (f : Facts) (m : Laid) (es : List Edit) (g : ℕ) → AreApt S f m (es ++ TakesGeneration g ∷ [])
      → P.edits.formed m ≡ true → generation_of S (edited S f m (es ++ TakesGeneration g ∷ [])) ≡ g
  generation_edited f m [] g apt form = P.edits.generation f m (TakesGeneration g) apt.0 form
  generation_edited f m (e ∷ es) g apt form =
      generation_edited f (S.edit f m e) es g apt.1 (P.edits.keeps f m e apt.0 form)

  abbrev KeepsExpected : List ℕ → Edit → Type 0
  KeepsExpected serial e = expects_after e serial true ≡ true

  expects_edited : (f : Facts) (m : Laid) (es : List Edit) (serial : List ℕ) → AreApt S f m es
      → P.edits.formed m ≡ true → AllByRecursion (KeepsExpected serial) es → S.start.words.expects m serial ≡ true
      → S.start.words.expects (edited S f m es) serial ≡ true
  expects_edited f m [] serial apt form keeps is = is
  expects_edited f m (e ∷ es) serial apt form keeps is =
      expects_edited f (S.edit f m e) es serial apt.1 (P.edits.keeps f m e apt.0 form) keeps.1
      (P.edits.expects f m e serial apt.0 form ∙ ap (expects_after e serial) is ∙ keeps.0)

  -- of a volume, whether it is unfinished or not
  abbrev KeepsDirty : ℕ → Edit → Type 0
  KeepsDirty v e = (unfinished : Bool) → dirty_after e v unfinished true ≡ true

  dirty_edited : (f : Facts) (m : Laid) (es : List Edit) (v : ℕ) → AreApt S f m es → P.edits.formed m ≡ true
      → AllByRecursion (KeepsDirty v) es → S.start.words.is_dirty m v ≡ true
      → S.start.words.is_dirty (edited S f m es) v ≡ true
  dirty_edited f m [] v apt form keeps is = is
  dirty_edited f m (e ∷ es) v apt form keeps is =
      let unfinished = S.start.words.is_unfinished m v in
      dirty_edited f (S.edit f m e) es v apt.1 (P.edits.keeps f m e apt.0 form) keeps.1
      (P.edits.dirty f m e v apt.0 form ∙ ap (dirty_after e v unfinished) is ∙ keeps.0 unfinished)

  module _ (t : InTurn) (c : Control) where
    -- WHAT EDITS OF A ROUND KEEP

    room_for : (e : Edit) → MayEdit S c e → BringsRoomyDisk S e
    room_for (TakesGeneration g) may = tt
    room_for (FailsDisk s) may = tt
    room_for (CountsOut s) may = tt
    room_for (MakesDirty v) may = tt
    room_for (MakesClean v) may = tt
    room_for (RecordsUnit v u) may = tt
    room_for (ClosesPass v) may = tt
    room_for (StartsVolume v) may = tt
    room_for (ActivatesDisk s i) may =
        let least = need_least S c.round.book i 0 c.volumes in
        record { disk = may.disk; is = may.is; below = may.below; room = omega (arith, least, may.large) }
    room_for (RemovesDisk s) may = tt
    room_for (NamesVolume v name) may = tt

    -- a disk of the bank without a fault stays expected
    keeps_expected : (d : ℕ) → d < S.start.disks.count → has d c.round.faults ≡ false → (e : Edit) → MayEdit S c e
        → KeepsExpected (S.start.disks.serial d) e
    keeps_expected d below sound (FailsDisk s) may = at (bytes_eq s (S.start.disks.serial d)) refl
      where
        at : (b : Bool) → bytes_eq s (S.start.disks.serial d) ≡ b → (not b && true) ≡ true
        at false is = refl
        at true is =
            let serial = (bytes_eq-Decides s (S.start.disks.serial d)).0 is in
            let here = P.serials may.disk d may.below below (sym may.is ∙ serial) in
            absurd (let bad = subst (λ z. has z c.round.faults ≡ true) here may.failed in cc (bad, sound))
    keeps_expected d below sound (ActivatesDisk s i) may = at (bytes_eq s (S.start.disks.serial d))
      where
        at : (b : Bool) → (b || true) ≡ true
        at true = refl
        at false = refl
    keeps_expected d below sound (TakesGeneration g) may = refl
    keeps_expected d below sound (CountsOut s) may = refl
    keeps_expected d below sound (MakesDirty v) may = refl
    keeps_expected d below sound (MakesClean v) may = refl
    keeps_expected d below sound (RecordsUnit v u) may = refl
    keeps_expected d below sound (ClosesPass v) may = refl
    keeps_expected d below sound (StartsVolume v) may = refl
    keeps_expected d below sound (RemovesDisk s) may = refl
    keeps_expected d below sound (NamesVolume v name) may = refl

    -- behind the first round a volume stays dirty unless it rests
    keeps_dirty : (v : ℕ) → c.round.first ≡ false → is_resting (state_of c v) ≡ false → (e : Edit) → MayEdit S c e
        → KeepsDirty v e
    keeps_dirty v later awake (MakesDirty w) may u = at (w == v)
      where
        at : (b : Bool) → (b || true) ≡ true
        at true = refl
        at false = refl
    keeps_dirty v later awake (MakesClean w) may u = at (w == v) refl
      where
        at : (b : Bool) → (w == v) ≡ b → (not b && true) ≡ true
        at false is = refl
        at true is =
            let here = eqb-true w v is in
            absurd (let bad = subst (λ z. is_resting (state_of c z) ≡ true) here may.1 in cc (bad, awake))
    keeps_dirty v later awake (StartsVolume w) may u = absurd (let first = may.0 in cc (first, later))
    keeps_dirty v later awake (TakesGeneration g) may u = refl
    keeps_dirty v later awake (FailsDisk s) may u = refl
    keeps_dirty v later awake (CountsOut s) may u = refl
    keeps_dirty v later awake (RecordsUnit w k) may u = refl
    keeps_dirty v later awake (ClosesPass w) may u = refl
    keeps_dirty v later awake (ActivatesDisk s i) may u = refl
    keeps_dirty v later awake (RemovesDisk s) may u = refl
    keeps_dirty v later awake (NamesVolume w name) may u = refl

    -- THE NEXT BLOCK

    module _ (m : Laid) (next : IsNext S t c m) (book : MayBeBook S P.edits.formed c.round.book) where
      abbrev number : List Edit
      number = TakesGeneration (c.round.note + 1) ∷ []

      pub next_generation : generation_of S m ≡ c.round.note + 1
      next_generation =
          ap (generation_of S) next.is
          ∙ generation_edited (facts_of S c) c.round.book next.edits (c.round.note + 1) next.apt book.form

      pub next_is_book : MayBeBook S P.edits.formed m
      next_is_book =
          let rooms = all-append (BringsRoomyDisk S) next.edits number
          (all_map (MayEdit S c) (BringsRoomyDisk S) room_for next.edits next.may) (tt, tt) in
          subst (MayBeBook S P.edits.formed) (sym next.is)
          (book_edited (facts_of S c) c.round.book (next.edits ++ number) next.apt rooms book)

      pub next_expects : (d : ℕ) → has d c.round.faults ≡ false → expects S c.round.book d ≡ true
          → expects S m d ≡ true
      next_expects d sound is =
          let serial = S.start.disks.serial d in
          let below = P.named c.round.book d book.form is in
          let keeps = all-append (KeepsExpected serial) next.edits number
          (all_map (MayEdit S c) (KeepsExpected serial) (keeps_expected d below sound) next.edits next.may)
          (refl, tt) in
          ap (λ x. expects S x d) next.is
          ∙ expects_edited (facts_of S c) c.round.book (next.edits ++ number) serial next.apt book.form keeps is

      pub next_dirty : (v : ℕ) → c.round.first ≡ false → is_resting (state_of c v) ≡ false
          → S.start.words.is_dirty c.round.book v ≡ true → S.start.words.is_dirty m v ≡ true
      next_dirty v later awake is =
          let keeps = all-append (KeepsDirty v) next.edits number
          (all_map (MayEdit S c) (KeepsDirty v) (keeps_dirty v later awake) next.edits next.may) ((λ u. refl), tt) in
          ap (λ x. S.start.words.is_dirty x v) next.is
          ∙ dirty_edited (facts_of S c) c.round.book (next.edits ++ number) v next.apt book.form keeps is
