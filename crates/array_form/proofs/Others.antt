-- Which blocks give a slot to another disk: an edit but an activation's doesn't make one that does, nor does a pass
-- that closes; the slots that a block gave are its own.
use Rattle.std.proofs.Common.{◌≡◌, ℕ, ◌==◌, ◌||◌, ◌&&◌, not, nat_lt, Bool, true, false, if◌then◌else◌, cond, List, [], ◌∷◌, ◌++◌, filter, map, flat_map, length, refl, ap, sym, subst, Option, Some, None}
use Rattle.std.specs.Prelude.{⊤}
use Rattle.std.specs.List.{AllByRecursion, range_with_len}
use Rattle.std.specs.Str.{bytes_eq}
use Rattle.std.proofs.lemmas.Bool.{eq-eqb}
use Rattle.array_model.specs.Blocks.{Laid, SlotWords}
use Rattle.array_model.proofs.Journals.{all-append}
use Rattle.array_machine.specs.Setting.{Setting, Facts, Edit, TakesGeneration, FailsDisk, CountsOut, MakesDirty, MakesClean, RecordsUnit, ClosesPass, StartsVolume, ActivatesDisk, edited}
use Rattle.array_machine.specs.EditWords.{SlotAfter, SlotsAfter, FillsIf, AreApt}
use Rattle.array_machine.specs.Volumes.{Slot, Pass, Volume, volume_at}
use Rattle.array_machine.specs.Control.{Control}
use Rattle.array_machine.specs.RoundEnds.{all_in_sync, seat_of, is_other, has_other, seated_if, seated}
use Rattle.array_machine.specs.MonitorTurns.{failed_now, edit_if, owes_dirty, owes_clean, has_own_pass, pass_edits, volume_edits, due_edits, failure_edits, still_fits, first_edits, volumes_where}
use Rattle.array_paths.specs.MayEdit.{round_order}
use Rattle.array_paths.proofs.EditPaths.{all_filter}
use Rattle.array_base.specs.Premises.{Premises}
use Rattle.array_base.specs.Opening.{slot_opened}
use Rattle.array_base.proofs.Targets.{or_neither}
use Rattle.array_form.specs.Passes.{gives_others}

-- SLOTS

other_self : (seat : Option ℕ) → is_other seat seat ≡ false
other_self None = refl
other_self (Some d) = let same : (d == d) ≡ true = eq-eqb d d refl in rw same refl

module _ (S : Setting) where
  pub other_seated : (ws : List SlotWords) (slots : List Slot) → has_other S ws (seated S ws slots) ≡ false
  other_seated [] slots = refl
  other_seated (w ∷ ws) [] = refl
  other_seated (w ∷ ws) (s ∷ ss) = at (is_other (seat_of S w) s.disk) refl (other_seated ws ss)
    where
      at : (b : Bool) → is_other (seat_of S w) s.disk ≡ b → has_other S ws (seated S ws ss) ≡ false
          → (is_other (seat_of S w) (seated_if b (seat_of S w) s).disk || has_other S ws (seated S ws ss)) ≡ false
      at true is more = let here = other_self (seat_of S w) in rw (here, more) refl
      at false is more = rw (is, more) refl

  pub other_opened : (ws : List SlotWords) → has_other S ws (map (slot_opened S) ws) ≡ false
  other_opened [] = refl
  other_opened (w ∷ ws) = let here = other_self (seat_of S w) in let more = other_opened ws in rw (here, more) refl

  pub other_synced : (faults : List ℕ) (ws : List SlotWords) (slots : List Slot)
      → has_other S ws (all_in_sync faults slots) ≡ has_other S ws slots
  other_synced faults [] slots = refl
  other_synced faults (w ∷ ws) [] = refl
  other_synced faults (w ∷ ws) (s ∷ ss) =
      ap (λ b. is_other (seat_of S w) s.disk || b) (other_synced faults ws ss)

  -- EDITS

  -- the slot has the seat that it had, or none
  seat_kept : (w x : SlotWords) → x.serial ≡ w.serial → x.is_expected ≡ w.is_expected → (disk : Option ℕ)
      → is_other (seat_of S w) disk ≡ false → is_other (seat_of S x) disk ≡ false
  seat_kept w x serial expected disk none =
      let same : seat_of S x ≡ seat_of S w = rw (serial, expected) refl in
      subst (λ seat. is_other seat disk ≡ false) (sym same) none

  seat_lost : (w x : SlotWords) (b : Bool) → x.serial ≡ w.serial → x.is_expected ≡ (b && w.is_expected)
      → (disk : Option ℕ) → is_other (seat_of S w) disk ≡ false → is_other (seat_of S x) disk ≡ false
  seat_lost w x true serial expected disk none = seat_kept w x serial expected disk none
  seat_lost w x false serial expected disk none = rw expected refl

  -- it is no activation's
  abbrev pub IsPlain : Edit → Type 0
  IsPlain (ActivatesDisk s i) = ⊥
  IsPlain _ = ⊤

  slot_less : (f : Facts) (e : Edit) (v : ℕ) (w x : SlotWords) → IsPlain e → SlotAfter f e v w x → (disk : Option ℕ)
      → is_other (seat_of S w) disk ≡ false → is_other (seat_of S x) disk ≡ false
  slot_less f (FailsDisk s) v w x plain k disk none =
      seat_lost w x (not (bytes_eq s w.serial)) k.serial k.expected disk none
  slot_less f (CountsOut s) v w x plain k disk none = seat_kept w x k.serial k.expected disk none
  slot_less f (ClosesPass u) v w x plain k disk none = at (u == v) k
    where
      at : (b : Bool) → FillsIf b f w x → is_other (seat_of S x) disk ≡ false
      at true k = seat_kept w x k.serial k.expected disk none
      at false k = seat_kept w x k.serial k.expected disk none
  slot_less f (ActivatesDisk s i) v w x plain k disk none = absurd plain
  slot_less f _ v w x plain k disk none = seat_kept w x k.serial k.expected disk none

  slots_less : (f : Facts) (e : Edit) (v : ℕ) → IsPlain e → (ws xs : List SlotWords) → SlotsAfter f e v ws xs
      → (slots : List Slot) → has_other S ws slots ≡ false → has_other S xs slots ≡ false
  slots_less f e v plain [] [] k slots none = refl
  slots_less f e v plain [] (x ∷ xs) k slots none = absurd k
  slots_less f e v plain (w ∷ ws) [] k slots none = absurd k
  slots_less f e v plain (w ∷ ws) (x ∷ xs) k [] none = refl
  slots_less f e v plain (w ∷ ws) (x ∷ xs) k (s ∷ ss) none =
      let both = or_neither (is_other (seat_of S w) s.disk) (has_other S ws ss) none in
      let here = slot_less f e v w x plain k.0 s.disk both.0 in
      let more = slots_less f e v plain ws xs k.1 ss both.1 in
      rw (here, more) refl

  module _ (P : Premises S) (f : Facts) (v : ℕ) (started : S.start.is_started v ≡ true) (slots : List Slot) where
    -- edits without an activation
    pub edited_less : (m : Laid) (es : List Edit) → AllByRecursion IsPlain es → AreApt S f m es
        → P.edits.formed m ≡ true → gives_others S m v slots ≡ false
        → gives_others S (edited S f m es) v slots ≡ false
    edited_less m [] plain apt formed none = none
    edited_less m (e ∷ es) plain apt formed none =
        edited_less (S.edit f m e) es plain.1 apt.1 (P.edits.keeps f m e apt.0 formed)
        (slots_less f e v plain.0 (S.start.words.slots m v) (S.start.words.slots (S.edit f m e) v)
        (P.edits.slots f m e v apt.0 formed (P.edits.served m v formed started)) slots none)

  -- THE EDITS OF A ROUND

  all_over : {X : Type 0} (f : X → Edit) (xs : List X) → ((x : X) → IsPlain (f x)) → AllByRecursion IsPlain (map f xs)
  all_over f [] plain = tt
  all_over f (x ∷ xs) plain = (plain x, all_over f xs plain)

  all_flat : {X : Type 0} (f : X → List Edit) (xs : List X) → ((x : X) → AllByRecursion IsPlain (f x))
      → AllByRecursion IsPlain (flat_map f xs)
  all_flat f [] plain = tt
  all_flat f (x ∷ xs) plain = all-append IsPlain (f x) (flat_map f xs) (plain x) (all_flat f xs plain)

  one_plain : (b : Bool) (e : Edit) → IsPlain e → AllByRecursion IsPlain (edit_if b e)
  one_plain true e plain = (plain, tt)
  one_plain false e plain = tt

  module _ (c : Control) where
    pass_plain : (v : ℕ) (pass : Option Pass) → AllByRecursion IsPlain (pass_edits S c.round.book v pass)
    pass_plain v None = tt
    pass_plain v (Some p) = at p.over
      where
        at : (b : Bool) → AllByRecursion IsPlain (cond b (ClosesPass v ∷ [])
            (edit_if (nat_lt (S.start.words.unit c.round.book v) p.ready) (RecordsUnit v p.ready)))
        at true = (tt, tt)
        at false = one_plain _ (RecordsUnit v p.ready) tt

    volume_plain : (v : ℕ) (x : Volume) → AllByRecursion IsPlain (volume_edits S c.round.book v x)
    volume_plain v x =
        all-append IsPlain
        (edit_if (owes_dirty S c.round.book v x) (MakesDirty v)
        ++ edit_if (owes_clean S c.round.book v x) (MakesClean v)) _
        (all-append IsPlain (edit_if (owes_dirty S c.round.book v x) (MakesDirty v))
        (edit_if (owes_clean S c.round.book v x) (MakesClean v)) (one_plain _ _ tt) (one_plain _ _ tt))
        (at (has_own_pass S c.round.book v x))
      where
        at : (b : Bool) → AllByRecursion IsPlain (if b then pass_edits S c.round.book v x.pass else [])
        at true = pass_plain v x.pass
        at false = tt

    due_plain : AllByRecursion IsPlain (due_edits S c)
    due_plain =
        all_flat (λ v. volume_edits S c.round.book v (volume_at c.volumes v)) (range_with_len 0 (length c.volumes))
        (λ v. volume_plain v (volume_at c.volumes v))

    first_plain : (b : Bool) → AllByRecursion IsPlain (first_edits S c b)
    first_plain false = tt
    first_plain true =
        all-append IsPlain (map CountsOut S.start.counts_out) _ (all_over CountsOut S.start.counts_out (λ s. tt))
        (all_over StartsVolume (volumes_where (λ v x. x.started) c.volumes) (λ v. tt))

    -- a round that is due activates no disk
    pub round_plain : (g : ℕ) → AllByRecursion IsPlain (round_order S c ++ TakesGeneration g ∷ [])
    round_plain g =
        let failed = failure_edits S c.round in
        let due = filter (still_fits S (edited S _ c.round.book failed)) (due_edits S c) in
        all-append IsPlain (round_order S c) (TakesGeneration g ∷ [])
        (all-append IsPlain (failed ++ due) (first_edits S c c.round.first)
        (all-append IsPlain failed due
        (all_over (λ d. FailsDisk (S.start.disks.serial d)) (failed_now S c.round) (λ d. tt))
        (all_filter IsPlain _ (due_edits S c) due_plain)) (first_plain c.round.first)) (tt, tt)
