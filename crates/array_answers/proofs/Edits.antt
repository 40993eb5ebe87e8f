-- What one edit of a round or an update leaves of the slots that a block backs, and of those that are filled.
use Rattle.std.proofs.Common.{◌≡◌, ℕ, zero, suc, ◌+◌, ◌<◌, ◌≤◌, ◌||◌, ◌&&◌, not, ◌==◌, Bool, true, false, List, [], ◌∷◌, refl, ap, sym, ◌∙◌, subst, ◌⊎◌, inl, inr, arith, eqb-true}
use Rattle.std.specs.Prelude.{⊤}
use Rattle.std.specs.Str.{bytes_eq}
use Rattle.std.specs.List.{AllByRecursion, AllZip, list_any, range_with_len}
use Rattle.std.proofs.lemmas.Bool.Decides.{nat_tests}
use Rattle.std.proofs.lemmas.Slice.Eq.{bytes_eq-Decides}
use Rattle.array_model.specs.Blocks.{Laid, SlotWords}
use Rattle.array_machine.specs.Setting.{Setting, Edit, TakesGeneration, FailsDisk, CountsOut, MakesDirty, MakesClean, RecordsUnit, ClosesPass, StartsVolume, ActivatesDisk, RemovesDisk, NamesVolume}
use Rattle.array_machine.specs.Numbers.{has, has_serial}
use Rattle.array_machine.specs.EditWords.{KeepsSlot, FillsIf, SlotAfter, SlotsAfter, NeedsNoRebuild}
use Rattle.array_machine.specs.EditFacts.{facts_of}
use Rattle.array_machine.specs.Volumes.{Slot}
use Rattle.array_machine.specs.Control.{Control}
use Rattle.array_paths.specs.MayEdit.{MayEdit, IsFailed}
use Rattle.array_base.specs.Premises.{IsToldOf, Premises}
use Rattle.array_base.proofs.Targets.{or_second}
use Rattle.array_answers.specs.Slots.{BacksSlot, IsFilled, CountsIn, Backs, AreFilled}

-- another serial
pub differs : (s t : List ℕ) → (s ≡ t → ⊥) → bytes_eq s t ≡ false
differs s t no_way = at (bytes_eq s t) refl
  where
    at : (b : Bool) → bytes_eq s t ≡ b → b ≡ false
    at true is = absurd (no_way ((bytes_eq-Decides s t).0 is))
    at false is = refl

-- a number of a range passes a test
any_in : (test : ℕ → Bool) (from count d : ℕ) → from ≤ d → d < from + count → test d ≡ true
    → list_any test (range_with_len from count) ≡ true
any_in test from zero d low high is = absurd (omega (arith, low, high))
any_in test from (suc n) d low high is =
    at (test from) refl (from == d) refl (λ low. any_in test (from + 1) n d low (omega (arith, high)) is)
  where
    at : (b : Bool) → test from ≡ b → (same : Bool) → (from == d) ≡ same
        → (from + 1 ≤ d → list_any test (range_with_len (from + 1) n) ≡ true)
        → (b || list_any test (range_with_len (from + 1) n)) ≡ true
    at true here same e more = refl
    at false none true e more = absurd (let bad = subst (λ k. test k ≡ false) (eqb-true from d e) none in cc (bad, is))
    at false none false e more = more (let apart = e in grind (arith, nat_tests, low, apart))

-- all edits but those that bring slots out of sync whose disks work
abbrev pub IsSteady : Edit → Type 0
IsSteady (CountsOut t) = ⊥
IsSteady (ActivatesDisk t i) = ⊥
IsSteady _ = ⊤

module _ (S : Setting) (P : Premises S) where
  abbrev disk_serial : ℕ → List ℕ
  disk_serial d = S.start.disks.serial d

  -- the disk of a slot that is expected is one of the bank
  pub told_below : (b : Laid) (w : SlotWords) (d : ℕ) → P.edits.formed b ≡ true → IsToldOf S b w
      → w.is_expected ≡ true → w.serial ≡ disk_serial d → d < S.start.disks.count
  told_below b w d form told expected serial =
      P.named b d form (ap (S.start.words.expects b) (sym serial) ∙ told.expected expected)

  module _ (c : Control) where
    -- a disk that failed has another serial than one without a fault
    fails_other : (s : List ℕ) (d : ℕ) → IsFailed S c s → d < S.start.disks.count → has d c.round.faults ≡ false
        → (t : List ℕ) → t ≡ disk_serial d → bytes_eq s t ≡ false
    fails_other s d may below sound t is =
        differs s t (λ same.
        let here = P.serials may.disk d may.below below (sym may.is ∙ same ∙ is) in
        let bad = subst (λ e. has e c.round.faults ≡ true) here may.failed in
        cc (bad, sound))

    -- BACKED SLOTS

    -- before the first round has finished, slots in sync count in
    abbrev pub CountsFirst : Slot → Type 0
    CountsFirst s = c.round.first ≡ true → CountsIn S s

    pub keeps_backed : (w x : SlotWords) (s : Slot) → KeepsSlot w x → BacksSlot S c.round.faults w s
        → BacksSlot S c.round.faults x s
    keeps_backed w x s keeps backs d on sound =
        let tells = backs d on sound in
        record {
          serial = keeps.serial ∙ tells.serial;
          expected = keeps.expected ∙ tells.expected;
          in_sync = λ is. keeps.in_sync ∙ tells.in_sync is;
        }

    -- the generation moves no slot
    pub renewed_backed : (g v : ℕ) (ws xs : List SlotWords) (ss : List Slot)
        → SlotsAfter (facts_of S c) (TakesGeneration g) v ws xs → Backs S c.round.faults ws ss
        → Backs S c.round.faults xs ss
    renewed_backed g v [] [] ss after backs = backs
    renewed_backed g v [] (x ∷ xs) ss after backs = absurd after
    renewed_backed g v (w ∷ ws) [] ss after backs = absurd after
    renewed_backed g v (w ∷ ws) (x ∷ xs) [] after backs = absurd backs
    renewed_backed g v (w ∷ ws) (x ∷ xs) (s ∷ ss) after backs =
        (keeps_backed w x s after.0 backs.0, renewed_backed g v ws xs ss after.1 backs.1)

    module _ (b : Laid) (form : P.edits.formed b ≡ true) where
      slot_backed : (e : Edit) (v : ℕ) (w x : SlotWords) (s : Slot) → MayEdit S c e → IsToldOf S b w
          → SlotAfter (facts_of S c) e v w x → CountsFirst s → BacksSlot S c.round.faults w s
          → BacksSlot S c.round.faults x s
      slot_backed (FailsDisk t) v w x s may told loses counts backs = λ d on sound.
          let tells = backs d on sound in
          let below = told_below b w d form told tells.expected tells.serial in
          let other = fails_other t d may below sound w.serial tells.serial in
          record {
            serial = loses.serial ∙ tells.serial;
            expected = loses.expected ∙ ap (λ o. not o && w.is_expected) other ∙ tells.expected;
            in_sync = λ is. loses.in_sync ∙ ap (λ o. not o && w.is_in_sync) other ∙ tells.in_sync is;
          }
      slot_backed (CountsOut t) v w x s may told out counts backs = λ d on sound.
          let tells = backs d on sound in
          record {
            serial = out.serial ∙ tells.serial;
            expected = out.expected ∙ tells.expected;
            in_sync = λ is.
                let other = differs t w.serial (λ same.
                let bad = subst (λ z. has_serial z S.start.counts_out ≡ true) (same ∙ tells.serial) may.1 in
                let none = counts may.0 d on is in
                cc (bad, none)) in
                out.in_sync ∙ ap (λ o. not o && w.is_in_sync) other ∙ tells.in_sync is;
          }
      slot_backed (ClosesPass u) v w x s may told fills counts backs = at (u == v) fills
        where
          at : (h : Bool) → FillsIf h (facts_of S c) w x → BacksSlot S c.round.faults x s
          at false keeps = keeps_backed w x s keeps backs
          at true fill = λ d on sound.
              let tells = backs d on sound in
              record {
                serial = fill.serial ∙ tells.serial;
                expected = fill.expected ∙ tells.expected;
                in_sync = λ is. fill.in_sync
                    ∙ or_second ((facts_of S c).works w.serial && w.is_expected) w.is_in_sync (tells.in_sync is);
              }
      slot_backed (ActivatesDisk t i) v w x s may told after counts backs = elim after [
        | inl keeps ↦ keeps_backed w x s keeps backs
        | inr takes ↦ λ d on sound.
            let bad = (backs d on sound).expected in let failed = takes.failed in absurd (cc (bad, failed))
      ]
      slot_backed (TakesGeneration g) v w x s may told keeps counts backs = keeps_backed w x s keeps backs
      slot_backed (MakesDirty u) v w x s may told keeps counts backs = keeps_backed w x s keeps backs
      slot_backed (MakesClean u) v w x s may told keeps counts backs = keeps_backed w x s keeps backs
      slot_backed (RecordsUnit u n) v w x s may told keeps counts backs = keeps_backed w x s keeps backs
      slot_backed (StartsVolume u) v w x s may told keeps counts backs = keeps_backed w x s keeps backs
      slot_backed (RemovesDisk t) v w x s may told keeps counts backs = keeps_backed w x s keeps backs
      slot_backed (NamesVolume u name) v w x s may told keeps counts backs = keeps_backed w x s keeps backs

      pub slots_backed : (e : Edit) (v : ℕ) (ws xs : List SlotWords) (ss : List Slot) → MayEdit S c e
          → AllByRecursion (IsToldOf S b) ws → SlotsAfter (facts_of S c) e v ws xs
          → AllByRecursion CountsFirst ss → Backs S c.round.faults ws ss → Backs S c.round.faults xs ss
      slots_backed e v [] [] ss may told after counts backs = backs
      slots_backed e v [] (x ∷ xs) ss may told after counts backs = absurd after
      slots_backed e v (w ∷ ws) [] ss may told after counts backs = absurd after
      slots_backed e v (w ∷ ws) (x ∷ xs) [] may told after counts backs = absurd backs
      slots_backed e v (w ∷ ws) (x ∷ xs) (s ∷ ss) may told after counts backs = (
        slot_backed e v w x s may told.0 after.0 counts.0 backs.0,
        slots_backed e v ws xs ss may told.1 after.1
            counts.1 backs.1,
      )

      -- FILLED SLOTS

      keeps_filled : (w x : SlotWords) → KeepsSlot w x → IsFilled S c.round.faults w → IsFilled S c.round.faults x
      keeps_filled w x keeps filled d serial expected sound =
          keeps.in_sync ∙ filled d (sym keeps.serial ∙ serial) (sym keeps.expected ∙ expected) sound

      slot_filled : (e : Edit) (v : ℕ) (w x : SlotWords) → IsSteady e → SlotAfter (facts_of S c) e v w x
          → IsFilled S c.round.faults w → IsFilled S c.round.faults x
      slot_filled (FailsDisk t) v w x steady loses filled = λ d serial expected sound.
          at d serial sound (bytes_eq t w.serial) refl (sym loses.expected ∙ expected)
        where
          at : (d : ℕ) → x.serial ≡ disk_serial d → has d c.round.faults ≡ false → (o : Bool)
              → bytes_eq t w.serial ≡ o → (not o && w.is_expected) ≡ true → x.is_in_sync ≡ true
          at d serial sound true is h = absurd cc
          at d serial sound false is h =
              loses.in_sync ∙ ap (λ o. not o && w.is_in_sync) is ∙ filled d (sym loses.serial ∙ serial) h sound
      slot_filled (CountsOut t) v w x steady out filled = absurd steady
      slot_filled (ClosesPass u) v w x steady fills filled = at (u == v) fills
        where
          at : (h : Bool) → FillsIf h (facts_of S c) w x → IsFilled S c.round.faults x
          at false keeps = keeps_filled w x keeps filled
          at true fill = λ d serial expected sound.
              fill.in_sync
              ∙ or_second ((facts_of S c).works w.serial && w.is_expected) w.is_in_sync
              (filled d (sym fill.serial ∙ serial) (sym fill.expected ∙ expected) sound)
      slot_filled (ActivatesDisk t i) v w x steady after filled = absurd steady
      slot_filled (TakesGeneration g) v w x steady keeps filled = keeps_filled w x keeps filled
      slot_filled (MakesDirty u) v w x steady keeps filled = keeps_filled w x keeps filled
      slot_filled (MakesClean u) v w x steady keeps filled = keeps_filled w x keeps filled
      slot_filled (RecordsUnit u n) v w x steady keeps filled = keeps_filled w x keeps filled
      slot_filled (StartsVolume u) v w x steady keeps filled = keeps_filled w x keeps filled
      slot_filled (RemovesDisk t) v w x steady keeps filled = keeps_filled w x keeps filled
      slot_filled (NamesVolume u name) v w x steady keeps filled = keeps_filled w x keeps filled

      pub slots_filled : (e : Edit) (v : ℕ) (ws xs : List SlotWords) → IsSteady e → SlotsAfter (facts_of S c) e v ws xs
          → AreFilled S c.round.faults ws → AreFilled S c.round.faults xs
      slots_filled e v [] [] steady after filled = tt
      slots_filled e v [] (x ∷ xs) steady after filled = absurd after
      slots_filled e v (w ∷ ws) [] steady after filled = absurd after
      slots_filled e v (w ∷ ws) (x ∷ xs) steady after filled =
          (slot_filled e v w x steady after.0 filled.0, slots_filled e v ws xs steady after.1 filled.1)

      pub kept_filled : (ws xs : List SlotWords) → AllZip KeepsSlot ws xs → AreFilled S c.round.faults ws
          → AreFilled S c.round.faults xs
      kept_filled [] [] keeps filled = tt
      kept_filled [] (x ∷ xs) keeps filled = absurd keeps
      kept_filled (w ∷ ws) [] keeps filled = absurd keeps
      kept_filled (w ∷ ws) (x ∷ xs) keeps filled =
          (keeps_filled w x keeps.0 filled.0, kept_filled ws xs keeps.1 filled.1)

      pub no_rebuild_filled : (xs : List SlotWords) → AllByRecursion NeedsNoRebuild xs → AreFilled S c.round.faults xs
      no_rebuild_filled [] none = tt
      no_rebuild_filled (x ∷ xs) none = (one none.0, no_rebuild_filled xs none.1)
        where
          one : (x.is_in_sync ≡ true) ⊎ (x.is_expected ≡ false) → IsFilled S c.round.faults x
          one (inl is) d serial expected sound = is
          one (inr no_one) d serial expected sound = absurd (cc (expected, no_one))

      -- a pass that is closed fills each slot whose disk the book expects
      module _ (listed : (t : List ℕ) → S.start.words.expects b t ≡ true
          → S.start.words.expects c.round.book t ≡ true) where
        healthy : (d : ℕ) (t : List ℕ) → t ≡ disk_serial d → d < S.start.disks.count → has d c.round.faults ≡ false
            → S.start.words.expects c.round.book t ≡ true → (facts_of S c).works t ≡ true
        healthy d t serial below sound is =
            let own = (bytes_eq-Decides (disk_serial d) t).1 (sym serial) in
            let here : (bytes_eq (disk_serial d) t && not (has d c.round.faults)) ≡ true = rw (own, sound) refl in
            rw is (any_in (λ e. bytes_eq (disk_serial e) t && not (has e c.round.faults)) 0 S.start.disks.count d
            (omega arith) (omega (arith, below)) here)

        slot_closed : (w x : SlotWords) → IsToldOf S b w → FillsIf true (facts_of S c) w x → IsFilled S c.round.faults x
        slot_closed w x told fill d serial expected sound =
            let was = sym fill.expected ∙ expected in
            let own = sym fill.serial ∙ serial in
            let below = told_below b w d form told was own in
            let works = healthy d w.serial own below sound (listed w.serial (told.expected was)) in
            fill.in_sync ∙ rw (works, was) refl

        pub slots_closed : (ws xs : List SlotWords) (v : ℕ) (u : ℕ) → (u == v) ≡ true → AllByRecursion (IsToldOf S b) ws
            → SlotsAfter (facts_of S c) (ClosesPass u) v ws xs → AreFilled S c.round.faults xs
        slots_closed [] [] v u same told after = tt
        slots_closed [] (x ∷ xs) v u same told after = absurd after
        slots_closed (w ∷ ws) [] v u same told after = absurd after
        slots_closed (w ∷ ws) (x ∷ xs) v u same told after = (
          slot_closed w x told.0 (subst (λ h. FillsIf h (facts_of S c) w x) same after.0),
          slots_closed ws xs v u
              same told.1 after.1,
        )
