-- What the changes of a run leave of slots: a failure excuses more of them, and the end of a round gives them to other
-- disks, or calls them in sync.
use Rattle.std.proofs.Common.{◌≡◌, ℕ, zero, suc, ◌+◌, ◌<◌, ◌||◌, ◌&&◌, Bool, true, false, cond, List, [], ◌∷◌, map, refl, ap, sym, ◌∙◌, subst, arith, Option, Some, None, inl, inr, slice_set}
use Rattle.std.specs.Prelude.{filter, slice_get}
use Rattle.std.specs.List.{AllByRecursion, range_with_len}
use Rattle.std.specs.Str.{bytes_eq}
use Rattle.std.proofs.lemmas.Slice.Eq.{bytes_eq-Decides}
use Rattle.array_model.specs.Blocks.{Laid, SlotWords}
use Rattle.array_machine.specs.Setting.{Setting}
use Rattle.array_machine.specs.Numbers.{has, has_serial, first_of}
use Rattle.array_machine.specs.Volumes.{Slot, slot_at, disk_in, Volume, volume_at, Pass, has_disk}
use Rattle.array_machine.specs.States.{State}
use Rattle.array_machine.specs.Rounds.{Round, all_disks}
use Rattle.array_machine.specs.Faults.{breaks, volume_lost, volumes_without}
use Rattle.array_machine.specs.Puts.{set_state, set_pass}
use Rattle.array_machine.specs.RoundEnds.{synced_slot, all_in_sync, disk_by, seat_of, is_other, seated_if, seated}
use Rattle.array_base.specs.Premises.{IsToldOf, Premises}
use Rattle.array_base.proofs.Seats.{first_passes, seat_is}
use Rattle.array_base.proofs.Slots.{volume_set}
use Rattle.array_base.proofs.Targets.{and_not, passes_has}
use Rattle.array_answers.specs.Slots.{EachStarted, TellsOf, BacksSlot, IsFilled, CountsIn, slot_said, words_at, Backs, AreFilled, IsAhead, SlotsHold}
use Rattle.array_answers.proofs.Edits.{told_below}

-- VOLUMES IN A LIST

module _ (Q : ℕ → List Slot → Type 0) where
  -- volume v is another, with these slots, and the others stay
  each_set : (volumes : List Volume) (v : ℕ) (x : Volume) → EachStarted Q volumes → (x.started ≡ true → Q v x.slots)
      → EachStarted Q (slice_set volumes v x)
  each_set volumes v x each new w started = elim (volume_set volumes v x w) [
    | inl here ↦
        let now : x.started ≡ true = sym (ap (λ (y : Volume). y.started) here.1) ∙ started in
        subst (λ (y : Volume). Q w y.slots) (sym here.1) (subst (λ u. Q u x.slots) here.0 (new now))
    | inr other ↦
        subst (λ (y : Volume). Q w y.slots) (sym other)
        (each w (sym (ap (λ (y : Volume). y.started) other) ∙ started))
  ]

  pub each_state : (volumes : List Volume) (v : ℕ) (state : State) → EachStarted Q volumes
      → EachStarted Q (set_state volumes v state)
  each_state volumes v state each = each_set volumes v _ each (each v)

  pub each_pass : (volumes : List Volume) (v : ℕ) (slots : List Slot) (pass : Option Pass) → EachStarted Q volumes
      → ((volume_at volumes v).started ≡ true → Q v slots) → EachStarted Q (set_pass volumes v slots pass)
  each_pass volumes v slots pass each new = each_set volumes v _ each new

-- a failure takes no slot, and stops no volume
module _ (S : Setting) (d : ℕ) (r : Round) where
  lost_kept : (n : ℕ) (xs : List Volume) (v : ℕ)
      → ((volume_at (volumes_without S d r n xs) v).started ≡ (volume_at xs v).started)
      × ((volume_at (volumes_without S d r n xs) v).slots ≡ (volume_at xs v).slots)
  lost_kept n [] v = (refl, refl)
  lost_kept n (x ∷ xs) (suc v) = lost_kept (n + 1) xs v
  lost_kept n (x ∷ xs) zero = at (x.started && has_disk d x.slots)
    where
      abbreviated : Bool → Volume
      abbreviated b = cond b (volume_lost S d n (x.broken || breaks S r n x.slots) x) x

      at : (b : Bool) → ((abbreviated b).started ≡ x.started) × ((abbreviated b).slots ≡ x.slots)
      at true = (refl, refl)
      at false = (refl, refl)

  pub each_lost : (Q : ℕ → List Slot → Type 0) (volumes : List Volume) → EachStarted Q volumes
      → EachStarted Q (volumes_without S d r 0 volumes)
  each_lost Q volumes each v started =
      let kept = lost_kept 0 volumes v in subst (Q v) (sym kept.1) (each v (sym kept.0 ∙ started))

module _ (S : Setting) where
  -- MORE FAULTS

  module _ (fewer more : List ℕ) (grows : (d : ℕ) → has d more ≡ false → has d fewer ≡ false) where
    backs_more : (ws : List SlotWords) (ss : List Slot) → Backs S fewer ws ss → Backs S more ws ss
    backs_more [] [] backs = tt
    backs_more [] (s ∷ ss) backs = absurd backs
    backs_more (w ∷ ws) [] backs = absurd backs
    backs_more (w ∷ ws) (s ∷ ss) backs = ((λ d on sound. backs.0 d on (grows d sound)), backs_more ws ss backs.1)

    pub filled_more : (ws : List SlotWords) → AreFilled S fewer ws → AreFilled S more ws
    filled_more [] filled = tt
    filled_more (w ∷ ws) filled =
        ((λ d serial expected sound. filled.0 d serial expected (grows d sound)), filled_more ws filled.1)

    ahead_more : (first : Bool) (last : Laid) (v : ℕ) (slots : List Slot) (m : Laid)
        → IsAhead S first fewer last v slots m → IsAhead S first more last v slots m
    ahead_more first last v slots m ahead = record {
      has = backs_more (words_at S m v) slots ahead.has;
      said = backs_more (words_at S m v) (map (slot_said S first) (words_at S last v)) ahead.said;
      closed = λ kind was none. filled_more (words_at S m v) (ahead.closed kind was none);
    }

    pub hold_more : (first : Bool) (last book : Laid) (given : ℕ → Laid) (v : ℕ) (slots : List Slot)
        → SlotsHold S first fewer last book given v slots → SlotsHold S first more last book given v slots
    hold_more first last book given v slots had = record {
      of_book = ahead_more first last v slots book had.of_book;
      of_last = ahead_more first last v slots last had.of_last;
      of_given = λ d young. ahead_more first last v slots (given d) (had.of_given d young);
      counted = had.counted;
    }

  -- WHAT A BLOCK SAYS ITSELF

  said_slot : (faults : List ℕ) (first : Bool) (w : SlotWords) → BacksSlot S faults w (slot_said S first w)
  said_slot faults first w d seat sound =
      let parts = seat_is S w d seat in
      record { serial = parts.1; expected = parts.0; in_sync = and_first w.is_in_sync _ }
    where
      and_first : (a b : Bool) → (a && b) ≡ true → a ≡ true
      and_first true b is = refl
      and_first false b is = absurd cc

  pub said_backed : (faults : List ℕ) (first : Bool) (ws : List SlotWords)
      → Backs S faults ws (map (slot_said S first) ws)
  said_backed faults first [] = tt
  said_backed faults first (w ∷ ws) = (said_slot faults first w, said_backed faults first ws)

  -- a slot that words tell of before the first round has finished
  pub said_counts : (w : SlotWords) → CountsIn S (slot_said S true w)
  said_counts w d seat sync =
      let serial = (seat_is S w d seat).1 in
      subst (λ s. has_serial s S.start.counts_out ≡ false) serial
      (and_not w.is_in_sync (has_serial w.serial S.start.counts_out) sync).1

  pub said_counted : (ws : List SlotWords) → AllByRecursion (CountsIn S) (map (slot_said S true) ws)
  said_counted [] = tt
  said_counted (w ∷ ws) = (said_counts w, said_counted ws)

  -- OTHER DISKS

  module _ (faults : List ℕ) (first : Bool) where
    seated_slot : (w l : SlotWords) (s : Slot) (b : Bool) → BacksSlot S faults w (slot_said S first l)
        → BacksSlot S faults w s → BacksSlot S faults w (seated_if b (seat_of S l) s)
    seated_slot w l s false said backs = backs
    seated_slot w l s true said backs = λ d seat sound.
        let tells = said d seat sound in
        record { serial = tells.serial; expected = tells.expected; in_sync = λ is. absurd (cc is) }

    pub seated_backed : (ws ls : List SlotWords) (ss : List Slot) → Backs S faults ws (map (slot_said S first) ls)
        → Backs S faults ws ss → Backs S faults ws (seated S ls ss)
    seated_backed ws [] ss said backs = backs
    seated_backed [] (l ∷ ls) ss said backs = absurd said
    seated_backed (w ∷ ws) (l ∷ ls) [] said backs = absurd backs
    seated_backed (w ∷ ws) (l ∷ ls) (s ∷ ss) said backs =
        (seated_slot w l s (is_other (seat_of S l) s.disk) said.0 backs.0, seated_backed ws ls ss said.1 backs.1)

  seated_counts : (l : SlotWords) (s : Slot) (b : Bool) → CountsIn S s → CountsIn S (seated_if b (seat_of S l) s)
  seated_counts l s false counts = counts
  seated_counts l s true counts = λ d seat sync. absurd (cc sync)

  pub seated_counted : (ls : List SlotWords) (ss : List Slot) → AllByRecursion (CountsIn S) ss
      → AllByRecursion (CountsIn S) (seated S ls ss)
  seated_counted [] ss counted = counted
  seated_counted (l ∷ ls) [] counted = tt
  seated_counted (l ∷ ls) (s ∷ ss) counted =
      (seated_counts l s (is_other (seat_of S l) s.disk) counted.0, seated_counted ls ss counted.1)

  -- SEATS

  module _ (P : Premises S) where
    own_disk : (d : ℕ) → d < S.start.disks.count → (serial : List ℕ) → serial ≡ S.start.disks.serial d
        → disk_by S serial ≡ Some d
    own_disk d below serial own = at (disk_by S serial) refl
      where
        test : ℕ → Bool
        test e = bytes_eq (S.start.disks.serial e) serial

        there : has d (filter test (all_disks S)) ≡ true
        there =
            passes_has test 0 S.start.disks.count d (omega arith) (omega (arith, below))
            ((bytes_eq-Decides (S.start.disks.serial d) serial).1 (sym own))

        empty : (ds : List ℕ) → first_of ds ≡ None → has d ds ≡ true → ⊥
        empty [] none is = cc is
        empty (e ∷ es) none is = cc none

        first_below : (from count e : ℕ) → first_of (filter test (range_with_len from count)) ≡ Some e
            → e < from + count
        first_below from zero e is = absurd (cc is)
        first_below from (suc n) e is =
            by (test from) (λ more. let lt = first_below (from + 1) n e more in omega (arith, lt)) is
          where
            by : (b : Bool)
                → (first_of (filter test (range_with_len (from + 1) n)) ≡ Some e → e < from + suc n)
                → first_of (cond b (from ∷ filter test (range_with_len (from + 1) n))
                (filter test (range_with_len (from + 1) n))) ≡ Some e
                → e < from + suc n
            by true more is = let same : from ≡ e = cc is in omega (arith, same)
            by false more is = more is

        at : (found : Option ℕ) → disk_by S serial ≡ found → found ≡ Some d
        at None none = absurd (empty (filter test (all_disks S)) none there)
        at (Some e) is =
            let same = (bytes_eq-Decides (S.start.disks.serial e) serial).0 (first_passes test (all_disks S) e is) in
            let lt = first_below 0 S.start.disks.count e is in
            ap Some (P.serials e d (omega (arith, lt)) below (same ∙ own))

    pub seat_found : (l : SlotWords) (d : ℕ) → d < S.start.disks.count → l.is_expected ≡ true
        → l.serial ≡ S.start.disks.serial d → seat_of S l ≡ Some d
    seat_found l d below expected own =
        ap (λ b. cond b (disk_by S l.serial) None) expected ∙ own_disk d below l.serial own

    -- IN SYNC

    module _ (faults : List ℕ) (last : Laid) (form : P.edits.formed last ≡ true) where
      synced_backed_slot : (w l : SlotWords) (s : Slot) → IsToldOf S last l → BacksSlot S faults w (slot_said S false l)
          → IsFilled S faults l → BacksSlot S faults l s → BacksSlot S faults w (synced_slot faults s)
      synced_backed_slot w l s told said filled backs = λ d on sound.
          let tells = backs d on sound in
          let below = told_below S P last l d form told tells.expected tells.serial in
          let sync = filled d tells.serial tells.expected sound in
          let own = said d (seat_found l d below tells.expected tells.serial) sound in
          record { serial = own.serial; expected = own.expected; in_sync = λ is. own.in_sync (rw sync refl) }

      pub synced_backed : (ws ls : List SlotWords) (ss : List Slot) → AllByRecursion (IsToldOf S last) ls
          → Backs S faults ws (map (slot_said S false) ls) → AreFilled S faults ls → Backs S faults ls ss
          → Backs S faults ws (all_in_sync faults ss)
      synced_backed [] [] [] told said filled backs = tt
      synced_backed [] [] (s ∷ ss) told said filled backs = absurd backs
      synced_backed [] (l ∷ ls) ss told said filled backs = absurd said
      synced_backed (w ∷ ws) [] ss told said filled backs = absurd said
      synced_backed (w ∷ ws) (l ∷ ls) [] told said filled backs = absurd backs
      synced_backed (w ∷ ws) (l ∷ ls) (s ∷ ss) told said filled backs = (
        synced_backed_slot w l s told.0 said.0 filled.0 backs.0,
        synced_backed ws ls ss told.1 said.1 filled.1 backs.1,
      )

  -- ONE SLOT OF A VOLUME

  pub record IsBackedAt (faults : List ℕ) (ws : List SlotWords) (ss : List Slot) (s d : ℕ) : Type 0 where
    pub words : SlotWords
    pub there : slice_get ws s ≡ Some words
    pub tells : TellsOf S words (slot_at ss s) d

  pub backed_at : (faults : List ℕ) (ws : List SlotWords) (ss : List Slot) (s d : ℕ) → Backs S faults ws ss
      → disk_in ss s ≡ Some d → has d faults ≡ false → IsBackedAt faults ws ss s d
  backed_at faults [] [] s d backs on sound = absurd (cc on)
  backed_at faults [] (x ∷ ss) s d backs on sound = absurd backs
  backed_at faults (w ∷ ws) [] s d backs on sound = absurd backs
  backed_at faults (w ∷ ws) (x ∷ ss) zero d backs on sound =
      record { words = w; there = refl; tells = backs.0 d on sound }
  backed_at faults (w ∷ ws) (x ∷ ss) (suc s) d backs on sound =
      let more = backed_at faults ws ss s d backs.1 on sound in
      record { words = more.words; there = more.there; tells = more.tells }
