-- The causes of failures, unblocking, kills and takeovers, in each run.
use Rattle.std.proofs.Common.{◌≡◌, ℕ, ◌+◌, ◌==◌, Bool, true, false, List, [], ◌∷◌, length, refl, ap, sym, ◌∙◌, subst, Option, Some, None, inl, inr, cond}
use Rattle.device_log.specs.Log.{Call}
use Rattle.array_model.specs.declared.journal.Entry.{Entry}
use Rattle.array_model.specs.declared.journal.Event.{Event}
use Rattle.array_model.specs.declared.journal.Event.TheVariants.{Begin, End, Spare, Ready, Pass, Point, PassEnd, Active, Clean, Unblock, Posted, Applied, Declined, Submit, Pending, Ack, Idle, Fault, Kill, Takeover}
use Rattle.array_model.specs.Events.{AtEachFrom, is_fault, is_unblock, is_faulty}
use Rattle.array_model.proofs.Journals.{has-append, at_each_more, at_each_map}
use Rattle.array_machine.specs.Setting.{Setting}
use Rattle.array_machine.specs.Numbers.{has, without}
use Rattle.array_machine.specs.Volumes.{Volume}
use Rattle.array_machine.specs.Rounds.{Life, Lives, Killed, Takes, Dead}
use Rattle.array_machine.specs.Faults.{life_without}
use Rattle.array_machine.specs.Control.{Control}
use Rattle.array_machine.specs.Changes.{Change, RoundBegins, RoundEnds, SpareEnds, DiskFails, DiskUnblocks, StateGoes, ClientMoves, PassMoves, ManagerMoves, MonitorKilled, TakeoverStarts, TakeoverReads, MonitorResumes, MonitorDies, state_entry, client_entry, pass_entry, update_entry, entry_of}
use Rattle.array_machine.specs.Puts.{put}
use Rattle.array_machine.specs.Machine.{World, begins_at, log_after, calls_after, entered, Reached}
use Rattle.array_paths.specs.Effects.{after_effect}
use Rattle.array_told.specs.Told.{Stamps}
use Rattle.array_told.proofs.Stamps.{stamps_effect, stamps_open}
use Rattle.array_base.specs.Premises.{Premises}
use Rattle.array_base.specs.Opening.{Opening}
use Rattle.array_causes.specs.Follow.{AllActors, FollowsLinks}
use Rattle.array_causes.specs.Failures.{down_from, is_down, settled_from, has_settled, HasLostCall, FailureCause, FailureCauses, FailsOnlyBy}
use Rattle.array_causes.proofs.Words.{each_state, each_client, each_pass, each_update}
use Rattle.array_causes.proofs.Journals.{down-append, settled-append, last_call, earlier_call}
use Rattle.array_causes.proofs.Follow.{along_links}
use Rattle.array_causes.proofs.Failures.{is_killed, awake_up, taking_up, IsLost, Means, means, fault_on, IsDisk, DiskTold, disk_on}

module _ (S : Setting) (F : ℕ → Type 0) where
  -- THE MONITOR'S LIFE

  still_killed : (d : ℕ) (life : Life) → is_killed life ≡ is_killed (life_without d life)
  still_killed d Lives = refl
  still_killed d Killed = refl
  still_killed d Dead = refl
  still_killed d (Takes [] seen found) = refl
  still_killed d (Takes (e ∷ es) seen found) = at (e == d)
    where
      at : (b : Bool) → false
          ≡ is_killed (cond b (Takes (without d es) [] (without d found))
          (Takes (e ∷ without d es) seen (without d found)))
      at true = refl
      at false = refl

  down_on : (c : Control) (call : Option Call) (a : Change) → Means S F c call a → (n : ℕ)
      → down_from (is_killed c.round.life) (entered n (entry_of S a)) ≡ is_killed (put S a c).round.life
  down_on c call (DiskFails d) m n = still_killed d c.round.life
  down_on c call (TakeoverReads left seen found) m n = taking_up c.round.life m
  down_on c call (MonitorResumes d) m n = taking_up c.round.life m
  down_on c call MonitorDies m n = taking_up c.round.life m
  down_on c call (StateGoes v word) m n =
      each_state (λ word. down_from (is_killed c.round.life) (entered n (state_entry v word)) ≡ is_killed c.round.life)
      refl refl refl refl refl refl word
  down_on c call (ClientMoves k new word) m n =
      each_client (λ word. down_from (is_killed c.round.life) (entered n (client_entry word)) ≡ is_killed c.round.life)
      refl (λ i. refl) (λ i answer. refl) word
  down_on c call (PassMoves v slots new word) m n =
      each_pass (λ word. down_from (is_killed c.round.life) (entered n (pass_entry v word)) ≡ is_killed c.round.life)
      refl (λ row. refl) (λ unit. refl) refl word
  down_on c call (ManagerMoves new word) m n =
      each_update (λ word. down_from (is_killed c.round.life) (entered n (update_entry word)) ≡ is_killed c.round.life)
      refl (λ u. refl) (λ u. refl) (λ u kind. refl) word
  down_on c call _ m n = refl

  settled_on : (c : Control) (a : Change) (n : ℕ) (settled : Bool) → (c.round.ended ≡ true → settled ≡ true)
      → (put S a c).round.ended ≡ true → settled_from settled (entered n (entry_of S a)) ≡ true
  settled_on c (RoundEnds m) n settled had is = refl
  settled_on c MonitorKilled n settled had is = absurd cc
  settled_on c (MonitorResumes d) n settled had is = absurd cc
  settled_on c (StateGoes v word) n settled had is =
      each_state (λ word. settled_from settled (entered n (state_entry v word)) ≡ true)
      (had is) (had is) (had is) (had is) (had is) (had is) word
  settled_on c (ClientMoves k new word) n settled had is =
      each_client (λ word. settled_from settled (entered n (client_entry word)) ≡ true)
      (had is) (λ i. had is) (λ i answer. had is) word
  settled_on c (PassMoves v slots new word) n settled had is =
      each_pass (λ word. settled_from settled (entered n (pass_entry v word)) ≡ true)
      (had is) (λ row. had is) (λ unit. had is) (had is) word
  settled_on c (ManagerMoves new word) n settled had is =
      each_update (λ word. settled_from settled (entered n (update_entry word)) ≡ true)
      (had is) (λ u. had is) (λ u. had is) (λ u kind. had is) word
  settled_on c _ n settled had is = had is

  -- CAUSES

  lost_later : (log : List Call) (call : Option Call) (stamp d : ℕ) → HasLostCall log stamp d
      → HasLostCall (log_after log call) stamp d
  lost_later log None stamp d h = h
  lost_later log (Some new) stamp d h = record {
    before = h.before;
    at = h.at;
    call = h.call;
    is = earlier_call log new h.call h.before h.is;
    on = h.on;
    lost = h.lost;
  }

  cause_later : (log : List Call) (call : Option Call) (front : List Entry) (stamp : ℕ) (e : Event)
      → FailureCause S.start F log front stamp e → FailureCause S.start F (log_after log call) front stamp e
  cause_later log call front stamp (Fault d) h = record {
    there = h.there;
    once = h.once;
    cause = elim h.cause [ inl lost ↦ inl (lost_later log call stamp d.0 lost) | inr may ↦ inr may ];
  }
  cause_later log call front stamp (Unblock d) h = h
  cause_later log call front stamp Kill h = h
  cause_later log call front stamp Takeover h = h
  cause_later log call front stamp (Begin g) h = h
  cause_later log call front stamp (End g) h = h
  cause_later log call front stamp (Spare d) h = h
  cause_later log call front stamp (Ready v) h = h
  cause_later log call front stamp (Pass v row) h = h
  cause_later log call front stamp (Point v unit) h = h
  cause_later log call front stamp (PassEnd v) h = h
  cause_later log call front stamp (Active v) h = h
  cause_later log call front stamp (Clean v) h = h
  cause_later log call front stamp (Posted k) h = h
  cause_later log call front stamp (Applied k) h = h
  cause_later log call front stamp (Declined k kind) h = h
  cause_later log call front stamp (Submit i) h = h
  cause_later log call front stamp (Pending v) h = h
  cause_later log call front stamp (Ack i answer) h = h
  cause_later log call front stamp (Idle v) h = h

  -- what a journal says of failures and of the monitor's life
  pub record FailuresTold (w : World) : Type 0 where
    pub stamps : Stamps w
    pub faults : (d : ℕ) → is_faulty d w.journal ≡ has d w.control.round.faults
    pub disks : (d : ℕ) → DiskTold S F w.control w.journal d
    pub down : is_down w.journal ≡ is_killed w.control.round.life
    pub settled : w.control.round.ended ≡ true → has_settled w.journal ≡ true
    pub law : FailureCauses S.start F w.log w.journal

  lost_now : (w : World) (call : Option Call) (d : ℕ) → Stamps w → IsLost call d
      → HasLostCall (log_after w.log call) (calls_after w.calls call) d
  lost_now w call d stamps lost =
      subst (λ k. HasLostCall (log_after w.log k) (calls_after w.calls k) d) (sym lost.is) (record {
        before = length w.log;
        at = ap (λ n. n + 1) stamps.calls;
        call = lost.lost;
        is = last_call w.log lost.lost;
        on = lost.on;
        lost = lost.failed;
      })

  abbrev Entered : World → Option Call → Option Event → Type 0
  Entered w call e = AtEachFrom (λ front e. FailureCause S.start F (log_after w.log call) front e.stamp e.event)
      w.journal (entered (calls_after w.calls call) e)

  causes_on : (w : World) (call : Option Call) (a : Change) → Means S F w.control call a → FailuresTold w
      → Entered w call (entry_of S a)
  causes_on w call (DiskFails d) m told = (
    record {
      there = m.may.there;
      once = told.faults d ∙ m.may.sound;
      cause = elim m.cause [ inl lost ↦ inl (lost_now w call d told.stamps lost) | inr may ↦ inr may ];
    },
    tt,
  )
  causes_on w call (DiskUnblocks d) m told = (
    record {
      faulty = told.faults d ∙ (told.disks d).held m.0;
      once = (told.disks d).still m.0;
      settled = told.settled m.1;
    },
    tt,
  )
  causes_on w call MonitorKilled m told = (told.down ∙ awake_up w.control.round.life m, tt)
  causes_on w call (TakeoverStarts left) m told = (told.down ∙ ap is_killed m, tt)
  causes_on w call (StateGoes v word) m told =
      each_state (λ word. Entered w call (state_entry v word)) (tt, tt) (tt, tt) (tt, tt) tt (tt, tt) (tt, tt) word
  causes_on w call (ClientMoves k new word) m told =
      each_client (λ word. Entered w call (client_entry word)) tt (λ i. (tt, tt)) (λ i answer. (tt, tt)) word
  causes_on w call (PassMoves v slots new word) m told =
      each_pass (λ word. Entered w call (pass_entry v word)) tt (λ row. (tt, tt)) (λ unit. (tt, tt)) (tt, tt) word
  causes_on w call (ManagerMoves new word) m told =
      each_update (λ word. Entered w call (update_entry word)) tt (λ u. (tt, tt)) (λ u. (tt, tt)) (λ u kind. (tt, tt))
      word
  causes_on w call (RoundBegins m) means told = (tt, tt)
  causes_on w call (RoundEnds m) means told = (tt, tt)
  causes_on w call (SpareEnds d) means told = (tt, tt)
  causes_on w call _ means told = tt

  pub told_on : (w : World) (call : Option Call) (a : Change) → Means S F w.control call a → FailuresTold w
      → FailuresTold (after_effect S w call a)
  told_on w call a m told =
      let n = calls_after w.calls call in
      let new = entered n (entry_of S a) in
      record {
        stamps = stamps_effect S w call a told.stamps;
        faults = λ d. has-append (is_fault d) w.journal new
            ∙ fault_on S F w.control a n d (is_faulty d w.journal) (told.faults d);
        disks = λ d. subst (λ u. IsDisk S F (has d (put S a w.control).round.faults)
            (has d (put S a w.control).round.blocked) u) (sym (has-append (is_unblock d) w.journal new))
            (disk_on S F w.control call a m n w.journal d (told.disks d));
        down = down-append false w.journal new ∙ ap (λ b. down_from b new) told.down ∙ down_on w.control call a m n;
        settled = λ is. settled-append false w.journal new
            ∙ settled_on w.control a n (has_settled w.journal) told.settled is;
        law = at_each_more _ w.journal new
            (at_each_map _ _ (λ front e h. cause_later w.log call front e.stamp e.event h) [] w.journal told.law)
            (causes_on w call a m told);
      }

  -- nothing was entered yet
  pub failures_open : (volumes : List Volume) (spares : List ℕ) → FailuresTold (begins_at S volumes spares)
  failures_open volumes spares = record {
    stamps = stamps_open S volumes spares;
    faults = λ d. refl;
    disks = λ d. record { gone = λ x. absurd cc; held = λ x. absurd cc; still = λ x. absurd cc };
    down = refl;
    settled = λ x. absurd cc;
    law = tt;
  }

-- in each run whose disks fail on their own only where they may
pub failures_have_causes : (S : Setting) (P : Premises S) (F : ℕ → Type 0) (volumes : List Volume) (spares : List ℕ)
    → Opening S P volumes spares → (w : World) → (run : Reached S volumes spares w)
    → AllActors S volumes spares (FailsOnlyBy F) w run → FailureCauses S.start F w.log w.journal
failures_have_causes S P F volumes spares o w run actors =
    let found = along_links S P volumes spares o (FailsOnlyBy F) (λ t link w. FailsOnlyBy F t.who × FailuresTold S F w)
    follows w run actors in
    found.3.1.law
  where
    follows : FollowsLinks S P volumes spares (FailsOnlyBy F) (λ t link w. FailsOnlyBy F t.who × FailuresTold S F w)
    follows = record {
      opens = (λ d is. absurd cc, failures_open S F volumes spares);
      begins = λ t link w who may settled had. (may, had.1);
      step = λ t link w call x a over had. (
        had.0,
        told_on S F w call a (means S F t w.control call x a had.0 over.effect) had.1,
      );
    }
