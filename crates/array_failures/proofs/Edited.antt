-- What the last finished round's block leads to it leads to over each edit of a round or an update: disks, volumes and
-- slots.
use Rattle.std.proofs.Common.{◌≡◌, ℕ, ◌+◌, ◌==◌, ◌&&◌, not, Bool, true, false, List, [], ◌∷◌, ◌++◌, refl, ap, sym, ◌∙◌, subst, ◌⊎◌, inl, inr}
use Rattle.std.specs.Prelude.{⊤}
use Rattle.std.specs.List.{AllByRecursion, AllZip}
use Rattle.std.specs.Str.{bytes_eq}
use Rattle.std.proofs.lemmas.Slice.Eq.{bytes_eq-Decides}
use Rattle.array_model.specs.Blocks.{Laid, SlotWords}
use Rattle.array_model.proofs.Journals.{all-append, all_map}
use Rattle.array_machine.specs.Setting.{Setting, Facts, Edit, TakesGeneration, FailsDisk, CountsOut, MakesDirty, MakesClean, RecordsUnit, ClosesPass, StartsVolume, ActivatesDisk, RemovesDisk, NamesVolume, edited}
use Rattle.array_machine.specs.Numbers.{has, has_serial}
use Rattle.array_machine.specs.EditWords.{expects_after, KeepsSlot, LosesSlot, OutOfSlot, FillsIf, TakesSlot, SlotAfter, SlotsAfter, IsApt, AreApt}
use Rattle.array_machine.specs.EditFacts.{facts_of}
use Rattle.array_machine.specs.Control.{Control}
use Rattle.array_machine.specs.Turns.{may_call}
use Rattle.array_paths.specs.InTurn.{InTurn}
use Rattle.array_paths.specs.MayEdit.{MayEdit, IsNext}
use Rattle.array_base.specs.Premises.{MayBeBook, IsToldOf, Premises}
use Rattle.array_base.proofs.Targets.{or_second, and_not}
use Rattle.array_failures.specs.Members.{IsLost, IsCalledFailed, IsCountedOut, StaysInSlot, LeadsTo}

first_of_and : (a b : Bool) → (a && b) ≡ true → a ≡ true
first_of_and true b h = refl
first_of_and false b h = absurd cc

-- an edit that a round or an update may make, or the generation that comes last
abbrev pub MayComeIn : Setting → Control → Edit → Type 0
MayComeIn S c (TakesGeneration g) = ⊤
MayComeIn S c e = MayEdit S c e

-- so each that a round may make
pub may_come : (S : Setting) (c : Control) (e : Edit) → MayEdit S c e → MayComeIn S c e
may_come S c (TakesGeneration g) may = tt
may_come S c (FailsDisk s) may = may
may_come S c (CountsOut s) may = may
may_come S c (MakesDirty v) may = may
may_come S c (MakesClean v) may = may
may_come S c (RecordsUnit v unit) may = may
may_come S c (ClosesPass v) may = may
may_come S c (StartsVolume v) may = may
may_come S c (ActivatesDisk s i) may = may
may_come S c (RemovesDisk s) may = may
may_come S c (NamesVolume v name) may = may

module _ (S : Setting) (P : Premises S) (c : Control) where
  -- DISKS

  abbrev Lost : List ℕ → Type 0
  Lost serial = IsLost S c.round.faults serial

  -- a free spare isn't lost
  free_sound : (s serial : List ℕ) (i : ℕ) → MayEdit S c (ActivatesDisk s i) → Lost serial → bytes_eq s serial ≡ false
  free_sound s serial i may lost = at (bytes_eq s serial) refl
    where
      at : (b : Bool) → bytes_eq s serial ≡ b → bytes_eq s serial ≡ false
      at false is = is
      at true is =
          let same : s ≡ serial = (bytes_eq-Decides s serial).0 is in
          let here = P.serials may.disk lost.disk may.below lost.below (sym may.is ∙ same ∙ lost.is) in
          let call : may_call S c.round may.disk ≡ true = first_of_and _ _ (first_of_and _ _ may.free) in
          let sound = (and_not _ _ call).1 in
          absurd (let failed = subst (λ d. has d c.round.faults ≡ true) (sym here) lost.failed in cc (failed, sound))

  module _ (serial : List ℕ) where
    -- an expected disk stays so, or it has failed
    pub expected_stays : (e : Edit) → MayComeIn S c e → (expects_after e serial true ≡ true) ⊎ Lost serial
    expected_stays (FailsDisk s) may = at (bytes_eq s serial) refl
      where
        at : (b : Bool) → bytes_eq s serial ≡ b → ((not b && true) ≡ true) ⊎ Lost serial
        at false is = inl refl
        at true is = inr (record {
          disk = may.disk;
          is = sym ((bytes_eq-Decides s serial).0 is) ∙ may.is;
          below = may.below;
          failed = may.failed;
        })
    expected_stays (ActivatesDisk s i) may = inl (or_second (bytes_eq s serial) true refl)
    expected_stays (TakesGeneration g) may = inl refl
    expected_stays (CountsOut s) may = inl refl
    expected_stays (MakesDirty v) may = inl refl
    expected_stays (MakesClean v) may = inl refl
    expected_stays (RecordsUnit v unit) may = inl refl
    expected_stays (ClosesPass v) may = inl refl
    expected_stays (StartsVolume v) may = inl refl
    expected_stays (RemovesDisk s) may = inl refl
    expected_stays (NamesVolume v name) may = inl refl

    -- a disk that failed and isn't expected isn't from then on
    pub failed_stays : (e : Edit) → MayComeIn S c e → Lost serial → expects_after e serial false ≡ false
    failed_stays (FailsDisk s) may lost = at (bytes_eq s serial)
      where
        at : (b : Bool) → (not b && false) ≡ false
        at true = refl
        at false = refl
    failed_stays (ActivatesDisk s i) may lost = rw (free_sound s serial i may lost) refl
    failed_stays (TakesGeneration g) may lost = refl
    failed_stays (CountsOut s) may lost = refl
    failed_stays (MakesDirty v) may lost = refl
    failed_stays (MakesClean v) may lost = refl
    failed_stays (RecordsUnit v unit) may lost = refl
    failed_stays (ClosesPass v) may lost = refl
    failed_stays (StartsVolume v) may lost = refl
    failed_stays (RemovesDisk s) may lost = refl
    failed_stays (NamesVolume v name) may lost = refl

  -- ONE EDIT

  module _ (f : Facts) (last m : Laid) (e : Edit) (may : MayComeIn S c e) (apt : IsApt S m e)
      (form : P.edits.formed m ≡ true) where
    abbrev next : Laid
    next = S.edit f m e

    called_failed : (serial : List ℕ) → IsCalledFailed S c.round.faults m serial
        → IsCalledFailed S c.round.faults next serial
    called_failed serial is = record {
      lost = is.lost;
      unexpected = P.edits.expects f m e serial apt form ∙ ap (expects_after e serial) is.unexpected
          ∙ failed_stays serial e may is.lost;
    }

    -- SLOTS

    abbrev Stays : SlotWords → SlotWords → Type 0
    Stays w x = StaysInSlot S c.round.faults last m w x

    abbrev StaysBehind : SlotWords → SlotWords → Type 0
    StaysBehind w x = StaysInSlot S c.round.faults last next w x

    module _ (w x y : SlotWords) (stays : Stays w x) where
      -- a slot that the edit leaves
      kept : KeepsSlot x y → StaysBehind w y
      kept keeps = record {
        expected = λ is. elim (stays.expected is) [
          | inl same ↦ inl (keeps.serial ∙ same.0, keeps.expected ∙ same.1)
          | inr failed ↦ inr (called_failed w.serial failed)
        ];
        in_sync = λ is. elim (stays.in_sync is) [
          | inl sync ↦ inl (keeps.in_sync ∙ sync)
          | inr why ↦ inr why
        ];
      }

      -- the disk of a failure is called failed
      loses : (s : List ℕ) → e ≡ FailsDisk s → (w.is_in_sync ≡ true → w.is_expected ≡ true) → LosesSlot s x y
          → StaysBehind w y
      loses s is told change = at (bytes_eq s x.serial) refl
        where
          lost_by : x.serial ≡ w.serial → bytes_eq s x.serial ≡ true → Lost w.serial
          lost_by same serial =
              let failed = subst (MayComeIn S c) is may in
              record {
                disk = failed.disk;
                is = sym same ∙ sym ((bytes_eq-Decides s x.serial).0 serial) ∙ failed.is;
                below = failed.below;
                failed = failed.failed;
              }

          unexpected : x.serial ≡ w.serial → bytes_eq s x.serial ≡ true
              → S.start.words.expects next w.serial ≡ false
          unexpected same serial =
              let here : bytes_eq s w.serial ≡ true = ap (bytes_eq s) (sym same) ∙ serial in
              P.edits.expects f m e w.serial apt form
              ∙ ap (λ z. expects_after z w.serial (S.start.words.expects m w.serial)) is ∙ rw here refl

          at : (b : Bool) → bytes_eq s x.serial ≡ b → StaysBehind w y
          at false serial = record {
            expected = λ exp. elim (stays.expected exp) [
              | inl same ↦ inl (change.serial ∙ same.0, change.expected ∙ rw (serial, same.1) refl)
              | inr failed ↦ inr (called_failed w.serial failed)
            ];
            in_sync = λ sync. elim (stays.in_sync sync) [
              | inl on ↦ inl (change.in_sync ∙ rw (serial, on) refl)
              | inr why ↦ inr why
            ];
          }
          at true serial = record {
            expected = λ exp. elim (stays.expected exp) [
              | inl same ↦
                  inr (record { lost = lost_by same.0 serial; unexpected = unexpected same.0 serial })
              | inr failed ↦ inr (called_failed w.serial failed)
            ];
            in_sync = λ sync. elim (stays.expected (told sync)) [
              | inl same ↦ inr (inl (lost_by same.0 serial))
              | inr failed ↦ inr (inl failed.lost)
            ];
          }

      -- a disk that counts out is out of sync
      counts_out : (s : List ℕ) → e ≡ CountsOut s → (c.round.first ≡ true → last ≡ S.start.newest)
          → (w.is_in_sync ≡ true → w.is_expected ≡ true) → OutOfSlot s x y → StaysBehind w y
      counts_out s is newest told change = record {
        expected = λ exp. elim (stays.expected exp) [
          | inl same ↦ inl (change.serial ∙ same.0, change.expected ∙ same.1)
          | inr failed ↦ inr (called_failed w.serial failed)
        ];
        in_sync = λ sync. at (bytes_eq s x.serial) refl sync;
      }
        where
          at : (b : Bool) → bytes_eq s x.serial ≡ b → w.is_in_sync ≡ true
              → (y.is_in_sync ≡ true) ⊎ Lost w.serial ⊎ IsCountedOut S last w.serial
          at false serial sync = elim (stays.in_sync sync) [
            | inl on ↦ inl (change.in_sync ∙ rw (serial, on) refl)
            | inr why ↦ inr why
          ]
          at true serial sync = elim (stays.expected (told sync)) [
            | inl same ↦
                let listed = subst (MayComeIn S c) is may in
                let here : s ≡ w.serial = (bytes_eq-Decides s x.serial).0 serial ∙ same.0 in
                inr (inr (record {
                  newest = newest listed.0;
                  listed = subst (λ z. has_serial z S.start.counts_out ≡ true) here listed.1;
                }))
            | inr failed ↦ inr (inl failed.lost)
          ]

      -- behind a pass that closes more is in sync
      fills : (b : Bool) → FillsIf b f x y → StaysBehind w y
      fills false keeps = kept keeps
      fills true change = record {
        expected = λ exp. elim (stays.expected exp) [
          | inl same ↦ inl (change.serial ∙ same.0, change.expected ∙ same.1)
          | inr failed ↦ inr (called_failed w.serial failed)
        ];
        in_sync = λ sync. elim (stays.in_sync sync) [
          | inl on ↦ inl (change.in_sync ∙ or_second _ _ on)
          | inr why ↦ inr why
        ];
      }

      -- a spare takes a slot only where its disk isn't expected
      takes : (s : List ℕ) (i : ℕ) → (w.is_in_sync ≡ true → w.is_expected ≡ true) → TakesSlot s i x y
          → StaysBehind w y
      takes s i told change = record {
        expected = λ exp. elim (stays.expected exp) [
          | inl same ↦ absurd (let there = same.1 in let none = change.failed in cc (there, none))
          | inr failed ↦ inr (called_failed w.serial failed)
        ];
        in_sync = λ sync. elim (stays.expected (told sync)) [
          | inl same ↦ absurd (let there = same.1 in let none = change.failed in cc (there, none))
          | inr failed ↦ inr (inl failed.lost)
        ];
      }

    slot_behind : (v : ℕ) → (c.round.first ≡ true → last ≡ S.start.newest) → (w x y : SlotWords) → IsToldOf S last w
        → Stays w x → (g : Edit) → e ≡ g → SlotAfter f g v x y → StaysBehind w y
    slot_behind v newest w x y told stays (FailsDisk s) is change = loses w x y stays s is told.in_sync change
    slot_behind v newest w x y told stays (CountsOut s) is change =
        counts_out w x y stays s is newest told.in_sync change
    slot_behind v newest w x y told stays (ClosesPass u) is change = fills w x y stays (u == v) change
    slot_behind v newest w x y told stays (ActivatesDisk s i) is (inl keeps) = kept w x y stays keeps
    slot_behind v newest w x y told stays (ActivatesDisk s i) is (inr change) =
        takes w x y stays s i told.in_sync change
    slot_behind v newest w x y told stays (TakesGeneration g) is keeps = kept w x y stays keeps
    slot_behind v newest w x y told stays (MakesDirty u) is keeps = kept w x y stays keeps
    slot_behind v newest w x y told stays (MakesClean u) is keeps = kept w x y stays keeps
    slot_behind v newest w x y told stays (RecordsUnit u unit) is keeps = kept w x y stays keeps
    slot_behind v newest w x y told stays (StartsVolume u) is keeps = kept w x y stays keeps
    slot_behind v newest w x y told stays (RemovesDisk s) is keeps = kept w x y stays keeps
    slot_behind v newest w x y told stays (NamesVolume u name) is keeps = kept w x y stays keeps

    slots_behind : (v : ℕ) → (c.round.first ≡ true → last ≡ S.start.newest) → (ws xs ys : List SlotWords)
        → AllByRecursion (IsToldOf S last) ws → AllZip Stays ws xs → SlotsAfter f e v xs ys → AllZip StaysBehind ws ys
    slots_behind v newest [] [] [] told stays after = tt
    slots_behind v newest [] [] (y ∷ ys) told stays after = absurd after
    slots_behind v newest [] (x ∷ xs) ys told stays after = absurd stays
    slots_behind v newest (w ∷ ws) [] ys told stays after = absurd stays
    slots_behind v newest (w ∷ ws) (x ∷ xs) [] told stays after = absurd after
    slots_behind v newest (w ∷ ws) (x ∷ xs) (y ∷ ys) told stays after = (
      slot_behind v newest w x y told.0 stays.0 e refl after.0,
      slots_behind v newest ws xs ys told.1 stays.1 after.1,
    )

    -- BLOCKS

    leads_edit : P.edits.formed last ≡ true → (c.round.first ≡ true → last ≡ S.start.newest)
        → LeadsTo S c.round.faults last m → LeadsTo S c.round.faults last next
    leads_edit last_form newest leads = record {
      expected = λ serial is. elim (leads.expected serial is) [
        | inl there ↦ elim (expected_stays serial e may) [
          | inl stays ↦
              inl (P.edits.expects f m e serial apt form ∙ ap (expects_after e serial) there ∙ stays)
          | inr lost ↦ inr lost
        ]
        | inr lost ↦ inr lost
      ];
      supported = λ v is. P.edits.supported f m e v apt form (leads.supported v is);
      slots = λ v is.
          slots_behind v newest (S.start.words.slots last v) (S.start.words.slots m v) (S.start.words.slots next v)
          (P.told last v last_form is) (leads.slots v is) (P.edits.slots f m e v apt form (leads.supported v is));
    }

  -- EDITS ONE AFTER THE OTHER

  -- the last finished round leads on
  pub leads_edited : (f : Facts) (last m : Laid) (es : List Edit) → AllByRecursion (MayComeIn S c) es
      → AreApt S f m es → P.edits.formed m ≡ true → P.edits.formed last ≡ true
      → (c.round.first ≡ true → last ≡ S.start.newest) → LeadsTo S c.round.faults last m
      → LeadsTo S c.round.faults last (edited S f m es)
  leads_edited f last m [] may apt form last_form newest leads = leads
  leads_edited f last m (e ∷ es) may apt form last_form newest leads =
      leads_edited f last (S.edit f m e) es may.1 apt.1 (P.edits.keeps f m e apt.0 form) last_form newest
      (leads_edit f last m e may.0 apt.0 form last_form newest leads)

  -- what fails stays unexpected
  pub unexpected_edited : (f : Facts) (m : Laid) (es : List Edit) (serial : List ℕ) → AllByRecursion (MayComeIn S c) es
      → AreApt S f m es → P.edits.formed m ≡ true → Lost serial → S.start.words.expects m serial ≡ false
      → S.start.words.expects (edited S f m es) serial ≡ false
  unexpected_edited f m [] serial may apt form lost none = none
  unexpected_edited f m (e ∷ es) serial may apt form lost none =
      unexpected_edited f (S.edit f m e) es serial may.1 apt.1 (P.edits.keeps f m e apt.0 form) lost
      (P.edits.expects f m e serial apt.0 form ∙ ap (expects_after e serial) none
      ∙ failed_stays serial e may.0 lost)

  -- THE NEXT BLOCK

  module _ (t : InTurn) (m : Laid) (next : IsNext S t c m) (book : MayBeBook S P.edits.formed c.round.book) where
    abbrev all_edits : List Edit
    all_edits = next.edits ++ TakesGeneration (c.round.note + 1) ∷ []

    -- with the generation at the end
    pub all_may : AllByRecursion (MayComeIn S c) all_edits
    all_may =
        all-append (MayComeIn S c) next.edits (TakesGeneration (c.round.note + 1) ∷ [])
        (all_map (MayEdit S c) (MayComeIn S c) (may_come S c) next.edits next.may) (tt, tt)

    -- the last finished round leads to the block of a round that begins
    pub leads_next : MayBeBook S P.edits.formed c.round.last → (c.round.first ≡ true → c.round.last ≡ S.start.newest)
        → LeadsTo S c.round.faults c.round.last c.round.book → LeadsTo S c.round.faults c.round.last m
    leads_next last newest leads =
        subst (LeadsTo S c.round.faults c.round.last) (sym next.is)
        (leads_edited (facts_of S c) c.round.last c.round.book all_edits all_may next.apt book.form last.form newest
        leads)

    -- a disk that failed, and that the book doesn't expect
    pub unexpected_next : (serial : List ℕ) → Lost serial → S.start.words.expects c.round.book serial ≡ false
        → S.start.words.expects m serial ≡ false
    unexpected_next serial lost none =
        ap (λ z. S.start.words.expects z serial) next.is
        ∙ unexpected_edited (facts_of S c) c.round.book all_edits serial all_may next.apt book.form lost none
