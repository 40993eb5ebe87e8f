-- What holds of the monitor's round at every moment: when a run begins, and behind each effect.
use Rattle.std.proofs.Common.{◌≡◌, ℕ, ◌==◌, ◌||◌, ◌&&◌, not, nat_lt, Bool, true, false, List, [], ◌∷◌, ◌++◌, refl, ap, sym, ◌∙◌, subst, arith, Option, inl, inr, eqb-true}
use Rattle.std.specs.Prelude.{filter}
use Rattle.std.specs.List.{range_with_len}
use Rattle.std.proofs.lemmas.Bool.Decides.{nat_tests}
use Rattle.units.specs.declared.disk.Sector.{Sector}
use Rattle.device_log.specs.Log.{Call, What}
use Rattle.array_model.specs.Blocks.{Laid}
use Rattle.array_machine.specs.Setting.{Setting}
use Rattle.array_machine.specs.Numbers.{has}
use Rattle.array_machine.specs.Volumes.{Volume}
use Rattle.array_machine.specs.Rounds.{Ended, Aim, OfRound, OfSpare, Phase, Rest, Going, Round, lives, expects, working_disks, is_late, is_target, targets, late_targets}
use Rattle.array_machine.specs.Control.{Control}
use Rattle.array_machine.specs.Changes.{Change, StepsOn, RoundBegins, DiskUnblocks, TakeoverStarts, MonitorDies}
use Rattle.array_machine.specs.Puts.{put}
use Rattle.array_machine.specs.TakeoverTurns.{has_all}
use Rattle.array_machine.specs.Machine.{World, begins_at, Reached}
use Rattle.array_paths.specs.InTurn.{InTurn}
use Rattle.array_paths.specs.MayEdit.{IsNext}
use Rattle.array_paths.specs.Comes.{Comes, begins, begins_spare, ends, ends_spare, lapses, fails, unblocks, readies, pends, activates, again, idles, cleans, client, pass, manages, kills, takes_over, resumes, dies}
use Rattle.array_paths.specs.AtRows.{AtRows, by_client, by_pass, by_monitor, after_read}
use Rattle.array_paths.specs.Effects.{Effect, quiet, row, row_fails, steps, step_fails}
use Rattle.array_base.specs.Premises.{Premises}
use Rattle.array_base.specs.Opening.{Opening}
use Rattle.array_base.specs.Base.{ledger, disks_by, IsTrusted, Base}
use Rattle.array_base.specs.Laws.{FollowsBase}
use Rattle.array_base.proofs.Begins.{trusted_parts}
use Rattle.array_base.proofs.NextBlock.{next_expects}
use Rattle.array_base.proofs.Runs.{along_base}
use Rattle.array_base.proofs.Targets.{or_cases, has_less, has_passes, passes_has}
use Rattle.array_rest.specs.Between.{is_callable}
use Rattle.array_rest.specs.Round.{PhaseStands, NoneIsTrusted, RoundReaches, IsOfRound, RoundStands}
use Rattle.array_rest.proofs.Failures.{filter_has}
use Rattle.array_rest.proofs.RoundStands.{has_below, phase_on, reaches_on, reaches_alike, of_round_on, phase_stepped, reaches_stepped, of_round_stepped, fails_stand}

module _ (S : Setting) where
  -- EACH CHANGE

  module _ (P : Premises S) (t : InTurn) (c : Control) (h : RoundStands S c.round) where
    module _ (log : List Call) (base : Base S P log c) (m : Laid) (next : IsNext S t c m) where
      listed : (test : ℕ → Bool) (d : ℕ) → has d (filter test (range_with_len 0 S.start.disks.count)) ≡ true
          → (test d ≡ true) × (nat_lt d S.start.disks.count ≡ true)
      listed test d is =
          let lt = has_below 0 S.start.disks.count d (filter_has test (range_with_len 0 S.start.disks.count) d is) in
          (has_passes test (range_with_len 0 S.start.disks.count) d is, grind (arith, nat_tests, lt))

      target_may : (d : ℕ) (b : Bool) → (is_target S c.round m d && b) ≡ true → nat_lt d S.start.disks.count ≡ true
          → is_callable S c.round.faults d ≡ true
      target_may d b is below = at (expects S m d) (has d c.round.faults) refl is
        where
          at : (a f : Bool) → has d c.round.faults ≡ f → ((a && not f) && b) ≡ true
              → is_callable S c.round.faults d ≡ true
          at a true same is = absurd (shut a is)
            where
              shut : (a : Bool) → ((a && false) && b) ≡ true → ⊥
              shut true is = cc is
              shut false is = cc is
          at a false same is = rw (same, below) refl

      begins_reach : (d : ℕ) → IsTrusted S (ledger c.round) d → has d (targets S c.round m) ≡ true
      begins_reach d trusted =
          let parts = trusted_parts S P (disks_by S log) t c (ledger c.round) d trusted in
          let expected =
          next_expects S P t c m next base.core.hand.book d parts.1 (base.core.working d trusted).in_book in
          let late : is_late S c.round d ≡ false = let a = parts.0 in let b = parts.2 in rw (a, b) refl in
          let sound = parts.1 in
          let below = P.named c.round.book d base.core.hand.book.form (base.core.working d trusted).in_book in
          passes_has (λ e. is_target S c.round m e && not (is_late S c.round e)) 0 S.start.disks.count d (omega arith)
          (omega (arith, below)) (rw (expected, sound, late) refl)

      begins_stand : RoundStands S (put S (RoundBegins m) c).round
      begins_stand = record {
        there = h.there;
        blocked = h.blocked;
        phase = phase_on S c.round.faults OfRound m (targets S c.round m) (late_targets S c.round m) false
            (λ d is. elim (or_cases (has d (targets S c.round m)) (has d (late_targets S c.round m)) is) [
              | inl here ↦
                  let l = listed (λ e. is_target S c.round m e && not (is_late S c.round e)) d here in
                  target_may d (not (is_late S c.round d)) l.0 l.1
              | inr there ↦
                  let l = listed (λ e. is_target S c.round m e && is_late S c.round e) d there in
                  target_may d (is_late S c.round d) l.0 l.1
            ]);
        reaches = reaches_on S (put S (RoundBegins m) c).round OfRound m (targets S c.round m) (late_targets S c.round m)
            false (λ none d trusted. begins_reach d trusted);
        begun = λ alive old.
            inr (inl (of_round_on S m (targets S c.round m) (late_targets S c.round m) false));
      }

    -- another life, which isn't the monitor's
    halts : (r : Round) → r.faults ≡ c.round.faults → r.blocked ≡ c.round.blocked → r.phase ≡ c.round.phase
        → r.last ≡ c.round.last → r.first ≡ c.round.first → lives r.life ≡ false → RoundStands S r
    halts r faults blocked phase last first dead = record {
      there = λ d is. h.there d (sym (ap (has d) faults) ∙ is);
      blocked = λ d is. ap (has d) faults ∙ h.blocked d (sym (ap (has d) blocked) ∙ is);
      phase = subst (λ ds. PhaseStands S ds r.phase) (sym faults) (subst (PhaseStands S c.round.faults) (sym phase) h.phase);
      reaches = subst (RoundReaches S r) (sym phase) (reaches_alike S c.round r same c.round.phase h.reaches);
      begun = λ alive. absurd (cc (alive, dead));
    }
      where
        same : (d : ℕ) → IsTrusted S (ledger r) d → IsTrusted S (ledger c.round) d
        same d trusted = rw (sym last, sym faults, sym first) trusted

    -- the phase is this one
    phase_is : (phase : Phase) → c.round.phase ≡ phase → IsOfRound S c.round.phase → IsOfRound S phase
    phase_is phase is goes = subst (IsOfRound S) is goes

    comes_stand : (log : List Call) → Base S P log c → (a : Change) → Comes S t c a
        → RoundStands S (put S a c).round
    comes_stand log base _ (begins m life rest target next) = begins_stand log base m next
    comes_stand log base _ (begins_spare d m life rest target may is unlisted room) = record {
      there = h.there;
      blocked = h.blocked;
      phase = record {
        callable = λ e is. elim (or_cases ((d == e) || false) false is) [
          | inl one ↦ elim (or_cases (d == e) false one) [
            | inl here ↦
                let below = may.there in
                let lt : nat_lt d S.start.disks.count ≡ true = grind (arith, nat_tests, below) in
                let sound = may.sound in
                subst (λ x. is_callable S c.round.faults x ≡ true) (eqb-true d e here) (rw (lt, sound) refl)
            | inr none ↦ absurd (cc none)
          ]
          | inr none ↦ absurd (cc none)
        ];
        in_turn = λ none done. absurd cc;
      };
      reaches = tt;
      begun = λ alive old. elim (h.begun alive old) [
        | inl ended ↦ inl ended
        | inr (inl goes) ↦ absurd (phase_is Rest rest goes)
        | inr (inr none) ↦ inr (inr none)
      ];
    }
    comes_stand log base _ (ends m step is) = record {
      there = h.there;
      blocked = h.blocked;
      phase = tt;
      reaches = tt;
      begun = λ alive old. inl refl;
    }
    comes_stand log base _ (ends_spare d m step is) = record {
      there = h.there;
      blocked = h.blocked;
      phase = tt;
      reaches = tt;
      begun = λ alive old. elim (h.begun alive old) [
        | inl ended ↦ inl ended
        | inr (inl goes) ↦ absurd (phase_is (Going (OfSpare d) m step [] [] true) is goes)
        | inr (inr none) ↦ inr (inr none)
      ];
    }
    comes_stand log base _ (lapses aim m step late is) = record {
      there = h.there;
      blocked = h.blocked;
      phase = tt;
      reaches = tt;
      begun = λ alive old. elim (h.begun alive old) [
        | inl ended ↦ inl ended
        | inr (inl goes) ↦
            inr (inr (lapsed aim (phase_is (Going aim m step [] late false) is goes)
            (subst (RoundReaches S c.round) is h.reaches)))
        | inr (inr none) ↦ inr (inr none)
      ];
    }
      where
        lapsed : (aim : Aim) → IsOfRound S (Going aim m step [] late false)
            → RoundReaches S c.round (Going aim m step [] late false) → NoneIsTrusted S c.round
        lapsed OfRound goes reaches d trusted = let has_it = reaches d trusted in cc has_it
        lapsed (OfSpare x) goes reaches d trusted = absurd goes
    comes_stand log base _ (fails d who may) = fails_stand S c.round d may.there h
    comes_stand log base _ (unblocks d rest blocked ended unexpected) = record {
      there = h.there;
      blocked = λ e is. h.blocked e (has_less d e c.round.blocked is);
      phase = h.phase;
      reaches = reaches_alike S c.round (put S (DiskUnblocks d) c).round (λ e trusted. trusted) c.round.phase h.reaches;
      begun = h.begun;
    }
    comes_stand log base _ (readies v started state rest ended) = h
    comes_stand log base _ (pends v sound state submitted) = h
    comes_stand log base _ (activates v runs state rest ended dirty) = h
    comes_stand log base _ (again v sound state submitted) = h
    comes_stand log base _ (idles v who runs state none) = h
    comes_stand log base _ (cleans v runs state rest) = h
    comes_stand log base _ (client k new word move) = h
    comes_stand log base _ (pass v slots new word move) = h
    comes_stand log base _ (manages new word move) = h
    comes_stand log base _ (kills who awake) = record {
      there = h.there;
      blocked = h.blocked;
      phase = tt;
      reaches = tt;
      begun = λ alive. absurd (cc alive);
    }
    comes_stand log base _ (takes_over who life) = halts (put S (TakeoverStarts (working_disks S c.round)) c).round refl refl refl refl refl refl
    comes_stand log base _ (resumes d taking young) = record {
      there = h.there;
      blocked = h.blocked;
      phase = tt;
      reaches = tt;
      begun = λ alive old. absurd (cc old);
    }
    comes_stand log base _ (dies taking) = halts (put S MonitorDies c).round refl refl refl refl refl refl

    read_stand : (d : ℕ) (left : List ℕ) (seen : List Sector) (found : List ℕ) (b : Bool)
        → RoundStands S (put S (after_read S c d left seen found b) c).round
    read_stand d left seen found true =
        halts (put S (after_read S c d left seen found true) c).round refl refl refl refl refl refl
    read_stand d left seen found false =
        halts (put S (after_read S c d left seen found false) c).round refl refl refl refl refl refl

    rows_stand : (d : ℕ) (what : What) (x : Ended) (a : Change) → AtRows S c d what x a
        → RoundStands S (put S a c).round
    rows_stand d _ x _ (by_client k i r need what _ call) = h
    rows_stand d _ x _ (by_pass v p need what _ call) = h
    rows_stand d _ x _ (by_monitor left seen found _ life) =
        read_stand d left (seen ++ x.got ∷ []) found (has_all S (seen ++ x.got ∷ []))

    pub effect_stand : (log : List Call) → Base S P log c → {call : Option Call} {x : Ended} {a : Change}
        → Effect S t c call x a → RoundStands S (put S a c).round
    effect_stand log base (quiet x a comes) = comes_stand log base a comes
    effect_stand log base (row d what x a may call went at) = rows_stand d what x a at
    effect_stand log base (row_fails d what x may call failed at) = fails_stand S c.round d may.there h
    effect_stand log base (steps d m step x target went) = record {
      there = h.there;
      blocked = h.blocked;
      phase = phase_stepped S c.round.faults c.round.phase h.phase;
      reaches = reaches_alike S c.round (put S StepsOn c).round (λ e trusted. trusted) (put S StepsOn c).round.phase
          (reaches_stepped S c.round c.round.phase h.reaches);
      begun = λ alive old. elim (h.begun alive old) [
        | inl ended ↦ inl ended
        | inr (inl goes) ↦ inr (inl (of_round_stepped S c.round.phase goes))
        | inr (inr none) ↦ inr (inr none)
      ];
    }
    effect_stand log base (step_fails d m step x target failed) = fails_stand S c.round d target.may.there h

  -- EACH WORLD

  module _ (P : Premises S) (volumes : List Volume) (spares : List ℕ) (o : Opening S P volumes spares) where
    opens_stand : RoundStands S (begins_at S volumes spares).control.round
    opens_stand = record {
      there = λ d is. absurd (cc is);
      blocked = λ d is. absurd (cc is);
      phase = tt;
      reaches = tt;
      begun = λ alive old. absurd (cc old);
    }

    pub each_round_stands : (w : World) → Reached S volumes spares w → RoundStands S w.control.round
    each_round_stands w run = (along_base S P volumes spares o (λ t w. RoundStands S w.control.round) follows w run).1
      where
        follows : FollowsBase S P volumes spares (λ t w. RoundStands S w.control.round)
        follows = record {
          opens = λ who. opens_stand;
          begins = λ t w who had. had;
          step = λ t w call x a over had. effect_stand P t w.control had w.log over.before over.effect;
        }
