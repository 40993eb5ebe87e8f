-- A block that was the last finished round's: each disk that it expects in a slot has that slot still, or is gone.
use Rattle.std.proofs.Common.{◌≡◌, ℕ, true, false, [], ◌++◌, refl, ap, sym, ◌∙◌, subst, Option, ◌⊎◌, inl, inr}
use Rattle.device_log.specs.Log.{Call}
use Rattle.array_model.specs.Blocks.{Laid, SlotWords}
use Rattle.array_model.specs.Candidates.{Disk}
use Rattle.array_model.specs.Moments.{Always}
use Rattle.array_model.specs.Rounds.{IsFinished}
use Rattle.array_machine.specs.Setting.{Setting}
use Rattle.array_machine.specs.Rounds.{Ended, Step, OfRound, Going, expects}
use Rattle.array_machine.specs.Control.{Control}
use Rattle.array_machine.specs.Changes.{Change, StepsOn, RoundBegins, SpareBegins, RoundEnds, SpareEnds, RoundLapses, DiskFails, DiskUnblocks, StateGoes, ClientMoves, PassMoves, ManagerMoves, MonitorKilled, TakeoverStarts, TakeoverReads, MonitorResumes, MonitorDies, entry_of}
use Rattle.array_machine.specs.Puts.{put}
use Rattle.array_machine.specs.Machine.{World, calls_after, log_after, entered}
use Rattle.array_paths.specs.InTurn.{InTurn}
use Rattle.array_paths.specs.Effects.{after_effect}
use Rattle.array_base.specs.Premises.{MayBeBook, Premises}
use Rattle.array_base.specs.Laws.{OverBase}
use Rattle.array_base.specs.Base.{ledger, disks_by, Between}
use Rattle.array_told.specs.Told.{Tells, Stamps}
use Rattle.array_told.proofs.Moments.{always_more}
use Rattle.array_failures.specs.Members.{StaysInSlot, LastLeads}
use Rattle.array_failures.specs.Recorded.{FailuresAreKept, HasStill, IsOfGone, WasFinished}
use Rattle.array_failures.proofs.Kept.{zip_at, finished_last}
use Rattle.array_failures.proofs.Current.{round_goes}
use Rattle.array_failures.proofs.Gone.{gone_now, gone_effect}
use Rattle.array_failures.proofs.SeatRuns.{EndsNone, effect_ends}

module _ (S : Setting) (P : Premises S) where
  -- the last finished round's own
  pub was_last : (ks : ℕ → Disk) (c : Control) → MayBeBook S P.edits.formed c.round.last
      → WasFinished S ks c c.round.last
  was_last ks c book = record {
    shape = book.shape;
    slots = λ v s w started there expected.
        inl (record { words = w; there = there; same = refl; expected = expected });
  }

  -- all but the end of a round leave which it is
  same_last : (c : Control) (a : Change) → EndsNone a → (put S a c).round.last ≡ c.round.last
  same_last c (RoundEnds m) none = absurd none
  same_last c StepsOn none = refl
  same_last c (RoundBegins m) none = refl
  same_last c (SpareBegins d m) none = refl
  same_last c (SpareEnds d) none = refl
  same_last c RoundLapses none = refl
  same_last c (DiskFails d) none = refl
  same_last c (DiskUnblocks d) none = refl
  same_last c (StateGoes v word) none = refl
  same_last c (ClientMoves k new word) none = refl
  same_last c (PassMoves v slots new word) none = refl
  same_last c (ManagerMoves new word) none = refl
  same_last c MonitorKilled none = refl
  same_last c (TakeoverStarts left) none = refl
  same_last c (TakeoverReads left seen found) none = refl
  same_last c (MonitorResumes d) none = refl
  same_last c MonitorDies none = refl

  -- where a round ends, a slot of the one before has its disk still, or the disk is gone from now on
  still_end : (ks : ℕ → Disk) (c : Control) → Between S P ks (ledger c.round) c.round.phase → LastLeads S ks c
      → (m : Laid) (step : Step) → c.round.phase ≡ Going OfRound m step [] [] true → (v s : ℕ) (w : SlotWords)
      → S.start.is_started v ≡ true → HasStill S c.round.last v s w
      → HasStill S m v s w ⊎ IsOfGone S ks (put S (RoundEnds m) c) w
  still_end ks c b leads m step is v s w started still =
      let goes = round_goes S P c ks m step [] [] true is b in
      let served = P.edits.served c.round.last v b.core.hand.last.form started in
      let found = zip_at (StaysInSlot S c.round.faults c.round.last c.round.book) (S.start.words.slots c.round.last v)
      (S.start.words.slots c.round.book v) (leads.of_book.slots v served) s still.words still.there in
      elim (found.2.expected still.expected) [
        | inl same ↦ inl (subst (λ n. HasStill S n v s w) goes.book (record {
          words = found.0;
          there = found.1;
          same = same.0 ∙ still.same;
          expected = same.1;
        }))
        | inr failed ↦
            let lost = failed.lost in
            let none : expects S c.round.book lost.disk ≡ false =
            ap (S.start.words.expects c.round.book) (sym lost.is) ∙ failed.unexpected in
            inr (record {
              disk = lost.disk;
              same = sym still.same ∙ lost.is;
              gone = gone_now S P ks c b m step is lost.disk lost.failed none;
            })
      ]

  -- EFFECTS

  module _ (t : InTurn) (w : World) (call : Option Call) (x : Ended) (a : Change) (o : OverBase S P t w call x a)
      (leads : LastLeads S (disks_by S (log_after w.log call)) w.control) (k : FailuresAreKept S w.control) where
    abbrev behind : ℕ → Disk
    behind = disks_by S (log_after w.log call)

    abbrev new : Control
    new = put S a w.control

    gone_behind : (u : SlotWords) → IsOfGone S (disks_by S w.log) w.control u → IsOfGone S behind new u
    gone_behind u g =
        record { disk = g.disk; same = g.same; gone = gone_effect S P t w call x a o k g.disk g.gone }

    still_behind : (v s : ℕ) (u : SlotWords) → S.start.is_started v ≡ true → HasStill S w.control.round.last v s u
        → HasStill S new.round.last v s u ⊎ IsOfGone S behind new u
    still_behind v s u started still = elim (effect_ends S t w.control o.effect) [
      | inl e ↦
          subst (λ z. HasStill S (put S z w.control).round.last v s u ⊎ IsOfGone S behind (put S z w.control) u)
          (sym e.is)
          (still_end behind w.control o.between leads e.block e.step e.phase v s u started still)
      | inr none ↦ inl (subst (λ l. HasStill S l v s u) (sym (same_last w.control a none)) still)
    ]

    past_effect : (m : Laid) → WasFinished S (disks_by S w.log) w.control m → WasFinished S behind new m
    past_effect m was = record {
      shape = was.shape;
      slots = λ v s u started there expected. elim (was.slots v s u started there expected) [
        | inl still ↦ still_behind v s u started still
        | inr gone ↦ inr (gone_behind u gone)
      ];
    }

    -- AT EACH MOMENT

    -- the blocks of all moments, with one effect more
    pub always_past : Stamps w → Stamps (after_effect S w call a) → Tells S w.control w.journal
        → Tells S new (w.journal ++ entered (calls_after w.calls call) (entry_of S a))
        → Always (λ log front. (m : Laid) → IsFinished S.start log front m
        → WasFinished S (disks_by S w.log) w.control m) w.log w.journal
        → Always (λ log front. (m : Laid) → IsFinished S.start log front m → WasFinished S behind new m)
        (log_after w.log call) (w.journal ++ entered (calls_after w.calls call) (entry_of S a))
    always_past stamps later told tells past =
        always_more (λ log front. (m : Laid) → IsFinished S.start log front m → WasFinished S behind new m) w.log call
        w.journal w.calls (entry_of S a) stamps.calls later.calls stamps.below
        (λ c front rest moment m finished. past_effect m (past c front rest moment m finished))
        (λ m finished.
        let is = finished_last S P (log_after w.log call) w.journal w.control o.between.core told m finished in
        subst (WasFinished S behind new) (sym is)
        (past_effect w.control.round.last (was_last (disks_by S w.log) w.control o.before.core.hand.last)))
        (λ m finished.
        let is = finished_last S P (log_after w.log call)
        (w.journal ++ entered (calls_after w.calls call) (entry_of S a)) new o.behind.core tells m finished in
        subst (WasFinished S behind new) (sym is) (was_last behind new o.behind.core.hand.last))
