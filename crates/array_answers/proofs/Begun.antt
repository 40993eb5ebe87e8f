-- The block of a round that begins backs the slots that the book backs, and where it closed a pass its slots are
-- filled.
use Rattle.std.proofs.Common.{◌≡◌, ℕ, zero, suc, ◌+◌, ◌<◌, ◌&&◌, not, nat_lt, ◌==◌, Bool, true, false, cond, List, [], ◌∷◌, ◌++◌, length, map, flat_map, refl, sym, ◌∙◌, subst, arith, Option, Some, None, ◌⊎◌, inl, inr}
use Rattle.std.specs.Prelude.{⊤, filter}
use Rattle.std.specs.Str.{bytes_eq}
use Rattle.std.specs.List.{AllByRecursion, range_with_len}
use Rattle.array_model.specs.Blocks.{Laid, SlotWords}
use Rattle.array_model.proofs.Journals.{all-append}
use Rattle.array_machine.specs.Setting.{Setting, Facts, Edit, TakesGeneration, FailsDisk, CountsOut, MakesDirty, MakesClean, RecordsUnit, ClosesPass, StartsVolume, ActivatesDisk, RemovesDisk, NamesVolume, edited}
use Rattle.array_machine.specs.Numbers.{has}
use Rattle.array_machine.specs.EditWords.{SlotsAfter, HasNoPass, expects_after, IsApt, AreApt}
use Rattle.array_machine.specs.EditFacts.{facts_of}
use Rattle.array_machine.specs.MonitorTurns.{volumes_where, edit_if, owes_dirty, owes_clean, has_own_pass, pass_edits, volume_edits, due_edits, failure_edits, failed_now, still_fits, first_edits, is_due}
use Rattle.array_machine.specs.Volumes.{Pass, Volume, volume_at}
use Rattle.array_machine.specs.Control.{Control}
use Rattle.array_paths.specs.InTurn.{InTurn}
use Rattle.array_paths.specs.MayEdit.{round_order, IsOfUpdate, IsUpdate, IsNext}
use Rattle.array_paths.proofs.EditPaths.{all_filter}
use Rattle.array_base.specs.Premises.{Premises}
use Rattle.array_base.proofs.Targets.{passes_has, or_cases}
use Rattle.array_answers.specs.Slots.{words_at, AreFilled}
use Rattle.array_answers.proofs.Edits.{IsSteady, slots_filled, kept_filled, no_rebuild_filled, slots_closed}

-- LISTS OF EDITS

all_flat : {X Y : Type 0} (P : Y → Type 0) (f : X → List Y) (xs : List X) → ((x : X) → AllByRecursion P (f x))
    → AllByRecursion P (flat_map f xs)
all_flat P f [] h = tt
all_flat P f (x ∷ xs) h = all-append P (f x) (flat_map f xs) (h x) (all_flat P f xs h)

pub edited_append : (S : Setting) (f : Facts) (b : Laid) (xs ys : List Edit)
    → edited S f b (xs ++ ys) ≡ edited S f (edited S f b xs) ys
edited_append S f b [] ys = refl
edited_append S f b (x ∷ xs) ys = edited_append S f (S.edit f b x) xs ys

pub apt_front : (S : Setting) (f : Facts) (b : Laid) (xs ys : List Edit) → AreApt S f b (xs ++ ys) → AreApt S f b xs
apt_front S f b [] ys apt = tt
apt_front S f b (x ∷ xs) ys apt = (apt.0, apt_front S f (S.edit f b x) xs ys apt.1)

pub apt_back : (S : Setting) (f : Facts) (b : Laid) (xs ys : List Edit) → AreApt S f b (xs ++ ys)
    → AreApt S f (edited S f b xs) ys
apt_back S f b [] ys apt = apt
apt_back S f b (x ∷ xs) ys apt = apt_back S f (S.edit f b x) xs ys apt.1

module _ (S : Setting) (P : Premises S) (c : Control) where
  abbrev f : Facts
  f = facts_of S c

  pub formed_edited : (b : Laid) (es : List Edit) → AreApt S f b es → P.edits.formed b ≡ true
      → P.edits.formed (edited S f b es) ≡ true
  formed_edited b [] apt form = form
  formed_edited b (e ∷ es) apt form = formed_edited (S.edit f b e) es apt.1 (P.edits.keeps f b e apt.0 form)

  -- WHAT THE BOOK EXPECTS

  abbrev BringsNone : Edit → Type 0
  BringsNone (ActivatesDisk s i) = ⊥
  BringsNone _ = ⊤

  abbrev AreListed : Laid → Type 0
  AreListed b = (t : List ℕ) → S.start.words.expects b t ≡ true → S.start.words.expects c.round.book t ≡ true

  expected_before : (e : Edit) (t : List ℕ) (y : Bool) → BringsNone e → expects_after e t y ≡ true → y ≡ true
  expected_before (FailsDisk s) t true none h = refl
  expected_before (FailsDisk s) t false none h = at (bytes_eq s t) h
    where
      at : (o : Bool) → (not o && false) ≡ true → false ≡ true
      at true h = absurd cc
      at false h = absurd cc
  expected_before (ActivatesDisk s i) t y none h = absurd none
  expected_before (TakesGeneration g) t y none h = h
  expected_before (CountsOut s) t y none h = h
  expected_before (MakesDirty v) t y none h = h
  expected_before (MakesClean v) t y none h = h
  expected_before (RecordsUnit v u) t y none h = h
  expected_before (ClosesPass v) t y none h = h
  expected_before (StartsVolume v) t y none h = h
  expected_before (RemovesDisk s) t y none h = h
  expected_before (NamesVolume v name) t y none h = h

  listed_edit : (b : Laid) (e : Edit) → BringsNone e → IsApt S b e → P.edits.formed b ≡ true → AreListed b
      → AreListed (S.edit f b e)
  listed_edit b e none apt form listed t is =
      listed t (expected_before e t (S.start.words.expects b t) none (sym (P.edits.expects f b e t apt form) ∙ is))

  listed_edited : (b : Laid) (es : List Edit) → AllByRecursion BringsNone es → AreApt S f b es
      → P.edits.formed b ≡ true → AreListed b → AreListed (edited S f b es)
  listed_edited b [] none apt form listed = listed
  listed_edited b (e ∷ es) none apt form listed =
      listed_edited (S.edit f b e) es none.1 apt.1 (P.edits.keeps f b e apt.0 form) (listed_edit b e none.0 apt.0 form
      listed)

  steady_brings : (e : Edit) → IsSteady e → BringsNone e
  steady_brings (FailsDisk s) steady = tt
  steady_brings (ActivatesDisk s i) steady = steady
  steady_brings (TakesGeneration g) steady = tt
  steady_brings (CountsOut s) steady = tt
  steady_brings (MakesDirty v) steady = tt
  steady_brings (MakesClean v) steady = tt
  steady_brings (RecordsUnit v u) steady = tt
  steady_brings (ClosesPass v) steady = tt
  steady_brings (StartsVolume v) steady = tt
  steady_brings (RemovesDisk s) steady = tt
  steady_brings (NamesVolume v name) steady = tt

  -- CLOSED PASSES

  module _ (v : ℕ) (started : S.start.is_started v ≡ true) where
    -- where the last finished round's block has the pass of volume v open, and this one has none, the slots are filled
    abbrev pub IsClosed : Laid → Type 0
    IsClosed b =
        (kind : ℕ) → S.start.words.pass c.round.last v ≡ Some kind → S.start.words.pass b v ≡ None
        → AreFilled S c.round.faults (words_at S b v)

    closed_edit : (b : Laid) (e : Edit) → IsSteady e → IsApt S b e → P.edits.formed b ≡ true → AreListed b
        → IsClosed b → IsClosed (S.edit f b e)
    closed_edit b e steady apt form listed closed kind was none =
        by e steady _ (P.edits.pass f b e v apt form started none) (P.edits.slots f b e v apt form (P.edits.served b v
        form started))
      where
        ws : List SlotWords
        ws = words_at S b v

        by : (a : Edit) → IsSteady a → (xs : List SlotWords) → HasNoPass a v (S.start.words.pass b v) ws xs
            → SlotsAfter f a v ws xs → AreFilled S c.round.faults xs
        by (FailsDisk s) steady xs (inl bare) after =
            slots_filled S P c b form (FailsDisk s) v ws xs steady after (closed kind was bare)
        by (FailsDisk s) steady xs (inr no_rebuild) after = no_rebuild_filled S P c b form xs no_rebuild
        by (ClosesPass u) steady xs (inl bare) after =
            slots_filled S P c b form (ClosesPass u) v ws xs steady after (closed kind was bare)
        by (ClosesPass u) steady xs (inr same) after =
            slots_closed S P c b form listed ws xs v u same (P.told b v form (P.edits.served b v form started)) after
        by (StartsVolume u) steady xs (inl bare) after =
            slots_filled S P c b form (StartsVolume u) v ws xs steady after (closed kind was bare.0)
        by (StartsVolume u) steady xs (inr no_rebuild) after = no_rebuild_filled S P c b form xs no_rebuild
        by (ActivatesDisk s i) steady xs bare after = absurd steady
        by (CountsOut s) steady xs bare after = absurd steady
        by (TakesGeneration g) steady xs bare after =
            slots_filled S P c b form (TakesGeneration g) v ws xs steady after (closed kind was bare)
        by (MakesDirty u) steady xs bare after =
            slots_filled S P c b form (MakesDirty u) v ws xs steady after (closed kind was bare)
        by (MakesClean u) steady xs bare after =
            slots_filled S P c b form (MakesClean u) v ws xs steady after (closed kind was bare)
        by (RecordsUnit u n) steady xs bare after =
            slots_filled S P c b form (RecordsUnit u n) v ws xs steady after (closed kind was bare)
        by (RemovesDisk s) steady xs bare after =
            slots_filled S P c b form (RemovesDisk s) v ws xs steady after (closed kind was bare)
        by (NamesVolume u name) steady xs bare after =
            slots_filled S P c b form (NamesVolume u name) v ws xs steady after (closed kind was bare)

    closed_edited : (b : Laid) (es : List Edit) → AllByRecursion IsSteady es → AreApt S f b es
        → P.edits.formed b ≡ true → AreListed b → IsClosed b → IsClosed (edited S f b es)
    closed_edited b [] steady apt form listed closed = closed
    closed_edited b (e ∷ es) steady apt form listed closed =
        closed_edited (S.edit f b e) es steady.1 apt.1 (P.edits.keeps f b e apt.0 form)
        (listed_edit b e (steady_brings e steady.0) apt.0 form listed)
        (closed_edit b e steady.0 apt.0 form listed closed)

    -- behind its start a volume without a pass has nothing to rebuild, whatever was before
    starts_closed : (b : Laid) (u : ℕ) → (u == v) ≡ true → IsApt S b (StartsVolume u) → P.edits.formed b ≡ true
        → IsClosed (S.edit f b (StartsVolume u))
    starts_closed b u same apt form kind was none =
        by _ (P.edits.pass f b (StartsVolume u) v apt form started none)
      where
        by : (xs : List SlotWords) → HasNoPass (StartsVolume u) v (S.start.words.pass b v) (words_at S b v) xs
            → AreFilled S c.round.faults xs
        by xs (inl other) = absurd (let apart = other.1 in cc (same, apart))
        by xs (inr no_rebuild) = no_rebuild_filled S P c b form xs no_rebuild

    all_start : (us : List ℕ) → AllByRecursion IsSteady (map StartsVolume us)
    all_start [] = tt
    all_start (u ∷ us) = (tt, all_start us)

    started_closed : (b : Laid) (us : List ℕ) → has v us ≡ true → AreApt S f b (map StartsVolume us)
        → P.edits.formed b ≡ true → AreListed b → IsClosed (edited S f b (map StartsVolume us))
    started_closed b [] there apt form listed = absurd cc
    started_closed b (u ∷ us) there apt form listed =
        let next = P.edits.keeps f b (StartsVolume u) apt.0 form in
        let more = listed_edit b (StartsVolume u) tt apt.0 form listed in
        elim (or_cases (u == v) (has v us) there) [
          | inl here ↦
              closed_edited (S.edit f b (StartsVolume u)) (map StartsVolume us) (all_start us) apt.1 next more
              (starts_closed b u here apt.0 form)
          | inr later ↦ started_closed (S.edit f b (StartsVolume u)) us later apt.1 next more
        ]

  -- THE EDITS OF A ROUND

  steady_if : (b : Bool) (e : Edit) → IsSteady e → AllByRecursion IsSteady (edit_if b e)
  steady_if true e steady = (steady, tt)
  steady_if false e steady = tt

  steady_pass : (v : ℕ) (pass : Option Pass) → AllByRecursion IsSteady (pass_edits S c.round.book v pass)
  steady_pass v None = tt
  steady_pass v (Some p) = at p.over
    where
      at : (b : Bool) → AllByRecursion IsSteady
          (cond b (ClosesPass v ∷ []) (edit_if (nat_lt (S.start.words.unit c.round.book v) p.ready) (RecordsUnit v
          p.ready)))
      at true = (tt, tt)
      at false = steady_if (nat_lt (S.start.words.unit c.round.book v) p.ready) (RecordsUnit v p.ready) tt

  steady_volume : (v : ℕ) → AllByRecursion IsSteady (volume_edits S c.round.book v (volume_at c.volumes v))
  steady_volume v =
      let x = volume_at c.volumes v in
      let dirty = edit_if (owes_dirty S c.round.book v x) (MakesDirty v) in
      let clean = edit_if (owes_clean S c.round.book v x) (MakesClean v) in
      all-append IsSteady (dirty ++ clean) _
      (all-append IsSteady dirty clean (steady_if _ _ tt) (steady_if _ _ tt)) (at (has_own_pass S c.round.book v x))
    where
      at : (b : Bool) → AllByRecursion IsSteady (cond b (pass_edits S c.round.book v (volume_at c.volumes v).pass) [])
      at true = steady_pass v (volume_at c.volumes v).pass
      at false = tt

  all_steady : {X : Type 0} (g : X → Edit) → ((x : X) → IsSteady (g x)) → (xs : List X)
      → AllByRecursion IsSteady (map g xs)
  all_steady g steady [] = tt
  all_steady g steady (x ∷ xs) = (steady x, all_steady g steady xs)

  -- those before the first rounds' own
  abbrev failures : List Edit
  failures = failure_edits S c.round

  abbrev due : List Edit
  due = filter (still_fits S (edited S f c.round.book failures)) (due_edits S c)

  steady_failures : AllByRecursion IsSteady failures
  steady_failures = all_steady (λ d. FailsDisk (S.start.disks.serial d)) (λ d. tt) (failed_now S c.round)

  steady_due : AllByRecursion IsSteady due
  steady_due =
      all_filter IsSteady _ (due_edits S c)
      (all_flat IsSteady (λ v. volume_edits S c.round.book v (volume_at c.volumes v)) (range_with_len 0 (length
      c.volumes))
      steady_volume)

  brings_none : (es : List Edit) → AllByRecursion IsSteady es → AllByRecursion BringsNone es
  brings_none [] steady = tt
  brings_none (e ∷ es) steady = (steady_brings e steady.0, brings_none es steady.1)

  counts_bring : (ts : List (List ℕ)) → AllByRecursion BringsNone (map CountsOut ts)
  counts_bring [] = tt
  counts_bring (t ∷ ts) = (tt, counts_bring ts)

  -- a volume that was started is one of those that start
  below_length : (xs : List Volume) (v : ℕ) → (volume_at xs v).started ≡ true → v < length xs
  below_length [] v is = absurd (cc is)
  below_length (x ∷ xs) zero is = omega arith
  below_length (x ∷ xs) (suc v) is = let more = below_length xs v is in omega (arith, more)

  starts : (v : ℕ) → (volume_at c.volumes v).started ≡ true
      → has v (volumes_where (λ u x. x.started) c.volumes) ≡ true
  starts v is =
      passes_has (λ u. (volume_at c.volumes u).started) 0 (length c.volumes) v (omega arith)
      (let below = below_length c.volumes v is in omega (arith, below)) is

  module _ (v : ℕ) (is : (volume_at c.volumes v).started ≡ true) (started : S.start.is_started v ≡ true) where
    -- those of the first rounds
    first_closed : (b : Laid) (first : Bool) → AreApt S f b (first_edits S c first) → P.edits.formed b ≡ true
        → AreListed b → IsClosed v started b → IsClosed v started (edited S f b (first_edits S c first))
    first_closed b false apt form listed closed = closed
    first_closed b true apt form listed closed =
        let outs = map CountsOut S.start.counts_out in
        let us = volumes_where (λ u x. x.started) c.volumes in
        let apt_outs = apt_front S f b outs (map StartsVolume us) apt in
        subst (IsClosed v started) (sym (edited_append S f b outs (map StartsVolume us)))
        (started_closed v started (edited S f b outs) us (starts v is)
        (apt_back S f b outs (map StartsVolume us) apt) (formed_edited b outs apt_outs form)
        (listed_edited b outs (counts_bring S.start.counts_out) apt_outs form listed))

    round_closed : (b : Laid) → b ≡ c.round.book → AreApt S f b (round_order S c) → P.edits.formed b ≡ true
        → IsClosed v started b → IsClosed v started (edited S f b (round_order S c))
    round_closed b book apt form closed =
        let firsts = first_edits S c c.round.first in
        let listed : AreListed b = λ t expected. subst (λ m. S.start.words.expects m t ≡ true) book expected in
        let front = failures ++ due in
        let steady = all-append IsSteady failures due steady_failures steady_due in
        let apt1 = apt_front S f b front firsts apt in
        let b1 = edited S f b front in
        let listed1 = listed_edited b front (brings_none front steady) apt1 form listed in
        let closed1 = closed_edited v started b front steady apt1 form listed closed in
        subst (IsClosed v started) (sym (edited_append S f b front firsts))
        (first_closed b1 c.round.first (apt_back S f b front firsts apt) (formed_edited b front apt1 form) listed1
        closed1)

    -- an update's
    update_closed : (b : Laid) (es : List Edit) → IsUpdate es → AreApt S f b es → P.edits.formed b ≡ true
        → IsClosed v started b → IsClosed v started (edited S f b es)
    update_closed b [] update apt form closed kind was none = absurd update
    update_closed b (e ∷ x ∷ es) update apt form closed kind was none = absurd update
    update_closed b (e ∷ []) update apt form closed kind was none =
        by e update _ (P.edits.pass f b e v apt.0 form started none)
        (P.edits.slots f b e v apt.0 form (P.edits.served b v form started))
      where
        ws : List SlotWords
        ws = words_at S b v

        by : (a : Edit) → IsOfUpdate a → (xs : List SlotWords) → HasNoPass a v (S.start.words.pass b v) ws xs
            → SlotsAfter f a v ws xs → AreFilled S c.round.faults xs
        by (ActivatesDisk s i) of xs bare after = kept_filled S P c b form ws xs bare.1 (closed kind was bare.0)
        by (RemovesDisk s) of xs bare after =
            slots_filled S P c b form (RemovesDisk s) v ws xs tt after (closed kind was bare)
        by (NamesVolume u name) of xs bare after =
            slots_filled S P c b form (NamesVolume u name) v ws xs tt after (closed kind was bare)
        by (FailsDisk s) of xs bare after = absurd of
        by (ClosesPass u) of xs bare after = absurd of
        by (StartsVolume u) of xs bare after = absurd of
        by (CountsOut s) of xs bare after = absurd of
        by (TakesGeneration g) of xs bare after = absurd of
        by (MakesDirty u) of xs bare after = absurd of
        by (MakesClean u) of xs bare after = absurd of
        by (RecordsUnit u n) of xs bare after = absurd of

    renewed_closed : (b : Laid) (g : ℕ) → IsApt S b (TakesGeneration g) → P.edits.formed b ≡ true
        → IsClosed v started b → IsClosed v started (S.edit f b (TakesGeneration g))
    renewed_closed b g apt form closed kind was none =
        slots_filled S P c b form (TakesGeneration g) v (words_at S b v) _ tt
        (P.edits.slots f b (TakesGeneration g) v apt form (P.edits.served b v form started))
        (closed kind was (P.edits.pass f b (TakesGeneration g) v apt form started none))

    -- the block of a round that begins
    pub next_closed : (t : InTurn) (m : Laid) → IsNext S t c m → P.edits.formed c.round.book ≡ true
        → IsClosed v started c.round.book → IsClosed v started m
    next_closed t m next form closed =
        let g = c.round.note + 1 in
        let edits = next.edits in
        let apt = apt_front S f c.round.book edits (TakesGeneration g ∷ []) next.apt in
        let last = apt_back S f c.round.book edits (TakesGeneration g ∷ []) next.apt in
        let whole = next.is ∙ edited_append S f c.round.book edits (TakesGeneration g ∷ []) in
        subst (IsClosed v started) (sym whole)
        (renewed_closed (edited S f c.round.book edits) g last.0 (formed_edited c.round.book edits apt form)
        (by edits next.order apt))
      where
        by : (edits : List Edit) → (edits ≡ round_order S c) ⊎ (IsUpdate edits × (is_due S c ≡ false))
            → AreApt S f c.round.book edits → IsClosed v started (edited S f c.round.book edits)
        by edits (inl order) apt =
            subst (λ es. IsClosed v started (edited S f c.round.book es)) (sym order)
            (round_closed c.round.book refl (subst (AreApt S f c.round.book) order apt) form closed)
        by edits (inr update) apt = update_closed c.round.book edits update.0 apt form closed
