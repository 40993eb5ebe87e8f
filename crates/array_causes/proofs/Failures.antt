-- Each effect keeps the causes of failures, unblocking, kills and takeovers.
use Rattle.std.proofs.Common.{◌≡◌, ℕ, ◌==◌, ◌||◌, not, Bool, true, false, List, [], ◌∷◌, ◌++◌, refl, sym, ◌∙◌, subst, Option, Some, None, ◌⊎◌, inl, inr, eqb-true, eq-eqb}
use Rattle.std.specs.Prelude.{⊤}
use Rattle.device_log.specs.Log.{Call, What}
use Rattle.array_model.specs.declared.journal.Entry.{Entry}
use Rattle.array_model.specs.Events.{has as has_event, is_fault, is_unblock}
use Rattle.array_machine.specs.Setting.{Setting}
use Rattle.array_machine.specs.Numbers.{has, without}
use Rattle.array_machine.specs.Rounds.{Ended, Life, Lives, Killed, Takes, Dead, expects}
use Rattle.array_machine.specs.Faults.{fault_base, blocked_with}
use Rattle.array_machine.specs.Control.{Control}
use Rattle.array_machine.specs.Changes.{Change, DiskFails, DiskUnblocks, StateGoes, ClientMoves, PassMoves, ManagerMoves, MonitorKilled, TakeoverStarts, TakeoverReads, MonitorResumes, MonitorDies, state_entry, client_entry, pass_entry, update_entry, entry_of}
use Rattle.array_machine.specs.Puts.{put}
use Rattle.array_machine.specs.Machine.{Fail, entered}
use Rattle.array_machine.specs.TakeoverTurns.{has_all}
use Rattle.array_paths.specs.InTurn.{InTurn}
use Rattle.array_paths.specs.Comes.{MayFail, IsAwake, IsTaking, Comes, begins, begins_spare, ends, ends_spare, lapses, fails, unblocks, readies, pends, activates, again, idles, cleans, client, pass, manages, kills, takes_over, resumes, dies}
use Rattle.array_paths.specs.AtRows.{AtRows, by_client, by_pass, by_monitor, after_read}
use Rattle.array_paths.specs.Effects.{Effect, quiet, row, row_fails, steps, step_fails}
use Rattle.array_base.proofs.Targets.{or_cases, or_second, has_less, has_passes}
use Rattle.array_causes.proofs.Words.{each_state, each_client, each_pass, each_update, or_nothing}

-- WHAT A CHANGE RESTS ON

abbrev pub is_killed : Life → Bool
is_killed Lives = false
is_killed Killed = true
is_killed (Takes left seen found) = false
is_killed Dead = false

pub awake_up : (life : Life) → IsAwake life → is_killed life ≡ false
awake_up Lives h = refl
awake_up Killed h = absurd h
awake_up (Takes left seen found) h = refl
awake_up Dead h = refl

pub taking_up : (life : Life) → IsTaking life → is_killed life ≡ false
taking_up Lives h = absurd h
taking_up Killed h = absurd h
taking_up (Takes left seen found) h = refl
taking_up Dead h = absurd h

-- the call of an effect was of disk d, and failed
pub record IsLost (call : Option Call) (d : ℕ) : Type 0 where
  pub lost : Call
  pub is : call ≡ Some lost
  pub on : lost.disk ≡ d
  pub failed : lost.went ≡ false

module _ (S : Setting) (F : ℕ → Type 0) where
  pub record FailsNow (c : Control) (call : Option Call) (d : ℕ) : Type 0 where
    pub may : MayFail S c d
    pub cause : IsLost call d ⊎ F d

  abbrev pub Means : Control → Option Call → Change → Type 0
  Means c call (DiskFails d) = FailsNow c call d
  Means c call (DiskUnblocks d) = (has d c.round.blocked ≡ true) × (c.round.ended ≡ true)
  Means c call MonitorKilled = IsAwake c.round.life
  Means c call (TakeoverStarts left) = c.round.life ≡ Killed
  Means c call (TakeoverReads left seen found) = IsTaking c.round.life
  Means c call (MonitorResumes d) = IsTaking c.round.life
  Means c call MonitorDies = IsTaking c.round.life
  Means c call _ = ⊤

  comes_means : (t : InTurn) (c : Control) (a : Change) → ((d : ℕ) → t.who ≡ Fail d → F d) → Comes S t c a
      → Means c None a
  comes_means t c _ may (fails d who sound) = record { may = sound; cause = inr (may d who) }
  comes_means t c _ may (unblocks d rest blocked ended recorded) = (blocked, ended)
  comes_means t c _ may (kills who awake) = awake
  comes_means t c _ may (takes_over who killed) = killed
  comes_means t c _ may (resumes d taking high) = taking
  comes_means t c _ may (dies taking) = taking
  comes_means t c _ may (begins m life rest target next) = tt
  comes_means t c _ may (begins_spare d m life rest target able is unlisted large) = tt
  comes_means t c _ may (ends m step is) = tt
  comes_means t c _ may (ends_spare d m step is) = tt
  comes_means t c _ may (lapses aim m step late is) = tt
  comes_means t c _ may (readies v started state rest ended) = tt
  comes_means t c _ may (pends v sound state asked) = tt
  comes_means t c _ may (activates v runs state rest ended dirty) = tt
  comes_means t c _ may (again v sound state asked) = tt
  comes_means t c _ may (idles v who runs state none) = tt
  comes_means t c _ may (cleans v runs state rest) = tt
  comes_means t c _ may (client k new word move) = tt
  comes_means t c _ may (pass v slots new word move) = tt
  comes_means t c _ may (manages new word move) = tt

  rows_means : (c : Control) (call : Option Call) (d : ℕ) (what : What) (x : Ended) (a : Change)
      → AtRows S c d what x a → Means c call a
  rows_means c call d _ _ _ (by_client k i r need what x client_call) = tt
  rows_means c call d _ _ _ (by_pass v p need what x pass_call) = tt
  rows_means c call d _ _ _ (by_monitor left seen found x life) = at (has_all S (seen ++ x.got ∷ []))
    where
      taking : IsTaking c.round.life
      taking = subst IsTaking (sym life) tt

      at : (b : Bool) → Means c call (after_read S c d left (seen ++ x.got ∷ []) found b)
      at true = taking
      at false = taking

  pub means : (t : InTurn) (c : Control) (call : Option Call) (x : Ended) (a : Change)
      → ((d : ℕ) → t.who ≡ Fail d → F d) → Effect S t c call x a → Means c call a
  means t c _ _ _ may (quiet x a comes) = comes_means t c a may comes
  means t c _ _ _ may (row d what x a able call went why) = rows_means c _ d what x a why
  means t c _ _ _ may (row_fails d what x able call failed lost) =
      record { may = able; cause = inl (record { lost = _; is = refl; on = refl; failed = refl }) }
  means t c _ _ _ may (steps d m step x at went) = tt
  means t c _ _ _ may (step_fails d m step x at failed) =
      record { may = at.may; cause = inl (record { lost = _; is = refl; on = refl; failed = refl }) }

  -- DISKS

  pub fault_on : (c : Control) (a : Change) (n e : ℕ) (had : Bool) → had ≡ has e c.round.faults
      → (had || has_event (is_fault e) (entered n (entry_of S a))) ≡ has e (put S a c).round.faults
  fault_on c (DiskFails d) n e had is = at had (d == e) (has e c.round.faults) is
    where
      at : (a b x : Bool) → a ≡ x → (a || (b || false)) ≡ (b || x)
      at true true x is = refl
      at true false x is = is
      at false true x is = refl
      at false false x is = is
  fault_on c (StateGoes v word) n e had is =
      let same = or_nothing had ∙ is in
      each_state (λ word. (had || has_event (is_fault e) (entered n (state_entry v word))) ≡ has e c.round.faults)
      same same same same same same word
  fault_on c (ClientMoves k new word) n e had is =
      let same = or_nothing had ∙ is in
      each_client (λ word. (had || has_event (is_fault e) (entered n (client_entry word))) ≡ has e c.round.faults)
      same (λ i. same) (λ i answer. same) word
  fault_on c (PassMoves v slots new word) n e had is =
      let same = or_nothing had ∙ is in
      each_pass (λ word. (had || has_event (is_fault e) (entered n (pass_entry v word))) ≡ has e c.round.faults)
      same (λ row. same) (λ unit. same) same word
  fault_on c (ManagerMoves new word) n e had is =
      let same = or_nothing had ∙ is in
      each_update (λ word. (had || has_event (is_fault e) (entered n (update_entry word))) ≡ has e c.round.faults)
      same (λ u. same) (λ u. same) (λ u kind. same) word
  fault_on c _ n e had is = or_nothing had ∙ is

  -- of a disk: whether it has a fault, is blocked, was let go
  pub record IsDisk (fault blocked unblocked : Bool) : Type 0 where
    pub gone : unblocked ≡ true → fault ≡ true
    pub held : blocked ≡ true → fault ≡ true
    pub still : blocked ≡ true → unblocked ≡ false

  abbrev pub DiskTold : Control → List Entry → ℕ → Type 0
  DiskTold c journal e =
      IsDisk (has e c.round.faults) (has e c.round.blocked) (has_event (is_unblock e) journal)

  disk_same : (f b u : Bool) → IsDisk f b u → IsDisk f b (u || false)
  disk_same f b u h = subst (IsDisk f b) (sym (or_nothing u)) h

  disk_fails : (f b u same : Bool) (e d : ℕ) → (d == e) ≡ same → (d ≡ e → f ≡ false) → IsDisk f b u
      → (b' : Bool) → (b' ≡ true → (same ≡ true) ⊎ (b ≡ true)) → IsDisk (same || f) b' (u || false)
  disk_fails f b u same e d is fresh h b' from = disk_same (same || f) b' u (record {
    gone = λ x. or_second same f (h.gone x);
    held = λ x. elim (from x) [ inl here ↦ rw here refl | inr there ↦ or_second same f (h.held there) ];
    still = λ x. elim (from x) [
      | inl here ↦ none here u refl
      | inr there ↦ h.still there
    ];
  })
    where
      none : same ≡ true → (x : Bool) → u ≡ x → u ≡ false
      none here true let_go =
          let sound = fresh (eqb-true d e (is ∙ here)) in absurd (let faulty = h.gone let_go in cc (sound, faulty))
      none here false is = is

  disk_goes : (f b u same : Bool) (e d : ℕ) → (d == e) ≡ same → (d ≡ e → b ≡ true) → IsDisk f b u
      → (b' : Bool) → (b' ≡ true → (same ≡ false) × (b ≡ true)) → IsDisk f b' (u || (same || false))
  disk_goes f b u same e d is was h b' from = record {
    gone = λ x. at u same refl refl x;
    held = λ x. h.held (from x).1;
    still = λ x. still_at (from x).0 (h.still (from x).1);
  }
    where
      at : (v s : Bool) → u ≡ v → same ≡ s → (u || (same || false)) ≡ true → f ≡ true
      at true s let_go here x = h.gone let_go
      at false true let_go here x = h.held (was (eqb-true d e (is ∙ here)))
      at false false let_go here x =
          absurd (let none : (u || (same || false)) ≡ false = rw (let_go, here) refl in cc (none, x))

      still_at : same ≡ false → u ≡ false → (u || (same || false)) ≡ false
      still_at here let_go = rw (here, let_go) refl

  pub disk_on : (c : Control) (call : Option Call) (a : Change) → Means c call a → (n : ℕ) (journal : List Entry)
      (e : ℕ)
      → DiskTold c journal e
      → IsDisk (has e (put S a c).round.faults) (has e (put S a c).round.blocked)
      (has_event (is_unblock e) journal || has_event (is_unblock e) (entered n (entry_of S a)))
  disk_on c call (DiskFails d) m n journal e h =
      disk_fails (has e c.round.faults) (has e c.round.blocked) (has_event (is_unblock e) journal) (d == e) e d refl
      (λ same. subst (λ z. has z c.round.faults ≡ false) same m.may.sound) h _
      (from (expects S (fault_base c.round) d))
    where
      from : (b : Bool) → has e (blocked_with b d c.round.blocked) ≡ true
          → ((d == e) ≡ true) ⊎ (has e c.round.blocked ≡ true)
      from true x = or_cases (d == e) (has e c.round.blocked) x
      from false x = inr x
  disk_on c call (DiskUnblocks d) m n journal e h =
      disk_goes (has e c.round.faults) (has e c.round.blocked) (has_event (is_unblock e) journal) (d == e) e d refl
      (λ same. subst (λ z. has z c.round.blocked ≡ true) same m.0) h (has e (without d c.round.blocked)) from
    where
      turned : (b : Bool) → not b ≡ true → b ≡ false
      turned true x = absurd cc
      turned false x = refl

      from : has e (without d c.round.blocked) ≡ true → ((d == e) ≡ false) × (has e c.round.blocked ≡ true)
      from x =
          let other = turned (e == d) (has_passes (λ y. not (y == d)) c.round.blocked e x) in
          (flipped (d == e) refl other, has_less d e c.round.blocked x)
        where
          flipped : (b : Bool) → (d == e) ≡ b → (e == d) ≡ false → (d == e) ≡ false
          flipped true is other = absurd (let same = eq-eqb e d (sym (eqb-true d e is)) in cc (same, other))
          flipped false is other = is
  disk_on c call (StateGoes v word) m n journal e h =
      let told = disk_same (has e c.round.faults) (has e c.round.blocked) (has_event (is_unblock e) journal) h in
      each_state (λ word. IsDisk (has e c.round.faults) (has e c.round.blocked)
      (has_event (is_unblock e) journal || has_event (is_unblock e) (entered n (state_entry v word))))
      told told told told told told word
  disk_on c call (ClientMoves k new word) m n journal e h =
      let told = disk_same (has e c.round.faults) (has e c.round.blocked) (has_event (is_unblock e) journal) h in
      each_client (λ word. IsDisk (has e c.round.faults) (has e c.round.blocked)
      (has_event (is_unblock e) journal || has_event (is_unblock e) (entered n (client_entry word))))
      told (λ i. told) (λ i answer. told) word
  disk_on c call (PassMoves v slots new word) m n journal e h =
      let told = disk_same (has e c.round.faults) (has e c.round.blocked) (has_event (is_unblock e) journal) h in
      each_pass (λ word. IsDisk (has e c.round.faults) (has e c.round.blocked)
      (has_event (is_unblock e) journal || has_event (is_unblock e) (entered n (pass_entry v word))))
      told (λ row. told) (λ unit. told) told word
  disk_on c call (ManagerMoves new word) m n journal e h =
      let told = disk_same (has e c.round.faults) (has e c.round.blocked) (has_event (is_unblock e) journal) h in
      each_update (λ word. IsDisk (has e c.round.faults) (has e c.round.blocked)
      (has_event (is_unblock e) journal || has_event (is_unblock e) (entered n (update_entry word))))
      told (λ u. told) (λ u. told) (λ u kind. told) word
  disk_on c call _ m n journal e h =
      disk_same (has e c.round.faults) (has e c.round.blocked) (has_event (is_unblock e) journal) h
