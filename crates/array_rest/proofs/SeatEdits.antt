-- Edits keep each slot of a disk without a fault, and a block gives that disk to the slot.
use Rattle.std.proofs.Common.{◌≡◌, ℕ, zero, suc, ◌+◌, ◌<◌, ◌==◌, ◌&&◌, not, Bool, true, false, List, [], ◌∷◌, ◌++◌, refl, ap, sym, ◌∙◌, subst, arith, Option, Some, None, inl, inr, cond}
use Rattle.std.specs.Prelude.{filter, slice_get}
use Rattle.std.specs.List.{AllByRecursion}
use Rattle.std.specs.Str.{bytes_eq}
use Rattle.std.proofs.lemmas.Slice.Eq.{bytes_eq-Decides}
use Rattle.array_model.specs.Blocks.{Laid, SlotWords}
use Rattle.array_machine.specs.Setting.{Setting, Facts, Edit, TakesGeneration, FailsDisk, CountsOut, MakesDirty, MakesClean, RecordsUnit, ClosesPass, StartsVolume, ActivatesDisk, RemovesDisk, NamesVolume, edited}
use Rattle.array_machine.specs.Numbers.{has, first_of}
use Rattle.array_machine.specs.EditWords.{IsApt, AreApt, SlotAfter, SlotsAfter, FillsIf}
use Rattle.array_machine.specs.EditFacts.{facts_of}
use Rattle.array_machine.specs.Rounds.{all_disks}
use Rattle.array_machine.specs.Control.{Control}
use Rattle.array_machine.specs.RoundEnds.{disk_by, seat_of}
use Rattle.array_paths.specs.InTurn.{InTurn}
use Rattle.array_paths.specs.MayEdit.{MayEdit, IsNext}
use Rattle.array_base.specs.Premises.{IsToldOf, Premises}
use Rattle.array_base.proofs.Targets.{passes_has}
use Rattle.array_base.proofs.Seats.{first_passes}
use Rattle.array_rest.specs.Seats.{HasSeat}
use Rattle.array_rest.proofs.RoundEnd.{first_below}

-- the words of a slot behind an edit
record WordsAfter (f : Facts) (e : Edit) (v : ℕ) (w : SlotWords) (xs : List SlotWords) (s : ℕ) : Type 0 where
  words : SlotWords
  there : slice_get xs s ≡ Some words
  after : SlotAfter f e v w words

words_after : (f : Facts) (e : Edit) (v : ℕ) (ws xs : List SlotWords) (s : ℕ) (w : SlotWords) → SlotsAfter f e v ws xs
    → slice_get ws s ≡ Some w → WordsAfter f e v w xs s
words_after f e v [] xs s w after is = absurd cc
words_after f e v (y ∷ ys) [] s w after is = absurd after
words_after f e v (y ∷ ys) (x ∷ xs) zero w after is =
    let same : y ≡ w = cc is in
    record { words = x; there = refl; after = subst (λ u. SlotAfter f e v u x) same after.0 }
words_after f e v (y ∷ ys) (x ∷ xs) (suc s) w after is =
    let more = words_after f e v ys xs s w after.1 is in
    record { words = more.words; there = more.there; after = more.after }

-- what holds of each item holds of one
pub all_at : (Q : SlotWords → Type 0) (ws : List SlotWords) (s : ℕ) (w : SlotWords) → AllByRecursion Q ws
    → slice_get ws s ≡ Some w → Q w
all_at Q [] s w all is = absurd cc
all_at Q (y ∷ ys) zero w all is = let same : y ≡ w = cc is in subst Q same all.0
all_at Q (y ∷ ys) (suc s) w all is = all_at Q ys s w all.1 is

module _ (S : Setting) (P : Premises S) where
  -- a disk in such a slot is one of the bank
  pub seat_below : (m : Laid) (v s d : ℕ) → P.edits.formed m ≡ true → S.start.is_started v ≡ true → HasSeat S m v s d
      → d < S.start.disks.count
  seat_below m v s d form started seat =
      let told = all_at (IsToldOf S m) (S.start.words.slots m v) s seat.words
      (P.told m v form (P.edits.served m v form started)) seat.there in
      P.named m d form
      (subst (λ serial. S.start.words.expects m serial ≡ true) seat.serial (told.expected seat.expected))

  pub seat_expects : (m : Laid) (v s d : ℕ) → P.edits.formed m ≡ true → S.start.is_started v ≡ true
      → HasSeat S m v s d → S.start.words.expects m (S.start.disks.serial d) ≡ true
  seat_expects m v s d form started seat =
      let told = all_at (IsToldOf S m) (S.start.words.slots m v) s seat.words
      (P.told m v form (P.edits.served m v form started)) seat.there in
      subst (λ serial. S.start.words.expects m serial ≡ true) seat.serial (told.expected seat.expected)

  -- THE DISK OF A SERIAL

  own_disk : (d : ℕ) → d < S.start.disks.count → disk_by S (S.start.disks.serial d) ≡ Some d
  own_disk d below = at (disk_by S (S.start.disks.serial d)) refl
    where
      test : ℕ → Bool
      test e = bytes_eq (S.start.disks.serial e) (S.start.disks.serial d)

      there : has d (filter test (all_disks S)) ≡ true
      there =
          passes_has test 0 S.start.disks.count d (omega arith) (omega (arith, below))
          ((bytes_eq-Decides (S.start.disks.serial d) (S.start.disks.serial d)).1 refl)

      empty : (ds : List ℕ) → first_of ds ≡ None → has d ds ≡ true → ⊥
      empty [] none is = cc is
      empty (e ∷ es) none is = cc none

      at : (found : Option ℕ) → disk_by S (S.start.disks.serial d) ≡ found → found ≡ Some d
      at None none = absurd (empty (filter test (all_disks S)) none there)
      at (Some e) is =
          let same = (bytes_eq-Decides (S.start.disks.serial e) (S.start.disks.serial d)).0
          (first_passes test (all_disks S) e is) in
          let lt = first_below test 0 S.start.disks.count e is in
          ap Some (P.serials e d (omega (arith, lt)) below same)

  -- the block gives the disk to its slot
  pub seat_given : (m : Laid) (v s d : ℕ) → P.edits.formed m ≡ true → S.start.is_started v ≡ true
      → (seat : HasSeat S m v s d) → seat_of S seat.words ≡ Some d
  seat_given m v s d form started seat =
      let expected = seat.expected in
      let found = ap (disk_by S) seat.serial ∙ own_disk d (seat_below m v s d form started seat) in
      ap (λ b. cond b (disk_by S seat.words.serial) None) expected ∙ found

  -- EDITS

  module _ (c : Control) (v s d : ℕ) (started : S.start.is_started v ≡ true) (sound : has d c.round.faults ≡ false) where
    seat_edit : (f : Facts) (m : Laid) (e : Edit) → MayEdit S c e → IsApt S m e → P.edits.formed m ≡ true
        → HasSeat S m v s d → HasSeat S (S.edit f m e) v s d
    seat_edit f m e may apt form seat =
        let after = words_after f e v (S.start.words.slots m v) (S.start.words.slots (S.edit f m e) v) s seat.words
        (P.edits.slots f m e v apt form (P.edits.served m v form started)) seat.there in
        at e may after.words after.there after.after
      where
        stays : (x : SlotWords) → slice_get (S.start.words.slots (S.edit f m e) v) s ≡ Some x
            → x.serial ≡ seat.words.serial → x.is_expected ≡ seat.words.is_expected → HasSeat S (S.edit f m e) v s d
        stays x there serial expected = record {
          words = x;
          there = there;
          expected = expected ∙ seat.expected;
          serial = serial ∙ seat.serial;
        }

        filled : (b : Bool) (x : SlotWords) → slice_get (S.start.words.slots (S.edit f m e) v) s ≡ Some x
            → FillsIf b f seat.words x → HasSeat S (S.edit f m e) v s d
        filled true x there after = stays x there after.serial after.expected
        filled false x there after = stays x there after.serial after.expected

        at : (e' : Edit) → MayEdit S c e' → (x : SlotWords)
            → slice_get (S.start.words.slots (S.edit f m e) v) s ≡ Some x → SlotAfter f e' v seat.words x
            → HasSeat S (S.edit f m e) v s d
        at (TakesGeneration g) may x there after = stays x there after.serial after.expected
        at (FailsDisk serial) may x there after = failed (bytes_eq serial seat.words.serial) refl
          where
            failed : (b : Bool) → bytes_eq serial seat.words.serial ≡ b → HasSeat S (S.edit f m e) v s d
            failed true is =
                let same = (bytes_eq-Decides serial seat.words.serial).0 is in
                let here = P.serials may.disk d may.below (seat_below m v s d form started seat)
                (sym may.is ∙ same ∙ seat.serial) in
                absurd (let bad = subst (λ z. has z c.round.faults ≡ true) here may.failed in cc (bad, sound))
            failed false is = stays x there after.serial (after.expected ∙ ap (λ b. not b && seat.words.is_expected) is)
        at (CountsOut serial) may x there after = stays x there after.serial after.expected
        at (MakesDirty w) may x there after = stays x there after.serial after.expected
        at (MakesClean w) may x there after = stays x there after.serial after.expected
        at (RecordsUnit w unit) may x there after = stays x there after.serial after.expected
        at (ClosesPass w) may x there after = filled (w == v) x there after
        at (StartsVolume w) may x there after = stays x there after.serial after.expected
        at (ActivatesDisk serial index) may x there (inl keeps) = stays x there keeps.serial keeps.expected
        at (ActivatesDisk serial index) may x there (inr takes) =
            absurd (let never = takes.failed in let is = seat.expected in cc (never, is))
        at (RemovesDisk serial) may x there after = stays x there after.serial after.expected
        at (NamesVolume w name) may x there after = stays x there after.serial after.expected

    seat_edits : (f : Facts) (m : Laid) (es : List Edit) (g : ℕ) → AllByRecursion (MayEdit S c) es
        → AreApt S f m (es ++ TakesGeneration g ∷ []) → P.edits.formed m ≡ true → HasSeat S m v s d
        → HasSeat S (edited S f m (es ++ TakesGeneration g ∷ [])) v s d
    seat_edits f m [] g may apt form seat = numbered
      where
        after : WordsAfter f (TakesGeneration g) v seat.words (S.start.words.slots (S.edit f m (TakesGeneration g)) v) s
        after = words_after f (TakesGeneration g) v (S.start.words.slots m v)
            (S.start.words.slots (S.edit f m (TakesGeneration g)) v) s seat.words
            (P.edits.slots f m (TakesGeneration g) v apt.0 form (P.edits.served m v form started)) seat.there

        numbered : HasSeat S (S.edit f m (TakesGeneration g)) v s d
        numbered = record {
          words = after.words;
          there = after.there;
          expected = after.after.expected ∙ seat.expected;
          serial = after.after.serial ∙ seat.serial;
        }
    seat_edits f m (e ∷ es) g may apt form seat =
        seat_edits f (S.edit f m e) es g may.1 apt.1 (P.edits.keeps f m e apt.0 form)
        (seat_edit f m e may.0 apt.0 form seat)

    pub next_seat : (t : InTurn) (m : Laid) → IsNext S t c m → P.edits.formed c.round.book ≡ true
        → HasSeat S c.round.book v s d → HasSeat S m v s d
    next_seat t m next form seat =
        subst (λ x. HasSeat S x v s d) (sym next.is)
        (seat_edits (facts_of S c) c.round.book next.edits (c.round.note + 1) next.may next.apt form seat)
