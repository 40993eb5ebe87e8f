-- Each effect keeps the counts of passes, and so does each run.
use Rattle.std.proofs.Common.{◌≡◌, ℕ, Bool, true, false, if◌then◌else◌, List, [], ◌∷◌, ◌++◌, map, refl, ap, sym, ◌∙◌, subst, arith, Option, Some, None, inl, inr}
use Rattle.device_log.specs.Log.{Call}
use Rattle.array_model.specs.Blocks.{SlotWords}
use Rattle.array_model.specs.declared.journal.Entry.{Entry}
use Rattle.array_model.specs.declared.journal.Event.TheVariants.{Begin, Pass as PassOpens}
use Rattle.array_machine.specs.Setting.{Setting}
use Rattle.array_machine.specs.MonitorTurns.{is_due}
use Rattle.array_machine.specs.States.{ToReady, ToActiveAgain}
use Rattle.array_machine.specs.Volumes.{Volume, volume_at}
use Rattle.array_machine.specs.Rounds.{Ended}
use Rattle.array_machine.specs.RoundEnds.{has_other}
use Rattle.array_machine.specs.Control.{Control}
use Rattle.array_machine.specs.Changes.{Change, RoundBegins, StateGoes, ClientMoves, PassMoves, ManagerMoves, IsSilent, GoesOnQuietly, OpensAt, SaysNothing, Applies, entry_of}
use Rattle.array_machine.specs.Puts.{put}
use Rattle.array_machine.specs.Machine.{World, entered, calls_after, Reached, begins_at}
use Rattle.array_paths.specs.InTurn.{InTurn}
use Rattle.array_base.specs.Premises.{generation_of, Premises}
use Rattle.array_base.specs.Opening.{Opening, slot_opened}
use Rattle.array_base.specs.Laws.{OverBase}
use Rattle.array_form.specs.RoundCounts.{just_applied}
use Rattle.array_form.specs.Behind.{Behind}
use Rattle.array_form.specs.Follow.{FollowsTurns}
use Rattle.array_form.specs.Passes.{KeepsPassCounts, gives_others, NoneGives, PassCounts, EndsSettled}
use Rattle.array_form.proofs.Uncalled.{uncalled}
use Rattle.array_form.proofs.StateEffects.{there_by_start}
use Rattle.array_form.proofs.Others.{other_opened}
use Rattle.array_form.proofs.NoOthers.{awaits_ends, started_of, next_of, settled_step, due_gives_none, none_behind, none_stays}
use Rattle.array_form.proofs.PassCounts.{aside, applies, readies, opens_ready, opens_seated, begins_applied}
use Rattle.array_form.proofs.AlongTurns.{along_turns}

module _ (S : Setting) where
  module _ (P : Premises S) where
    -- EFFECTS

    module _ (v : ℕ) where
      step_pass : (t : InTurn) (prev : Option Change) (more : List Change) (w : World) (call : Option Call) (x : Ended)
          (a : Change) → OverBase S P t w call x a → Behind S t.before w.control prev more a
          → EndsSettled S t.before prev w.control → PassCounts S v prev w.control w.journal
          → PassCounts S v (Some a) (put S a w.control)
          (w.journal ++ entered (calls_after w.calls call) (entry_of S a))
      step_pass t prev more w call x (RoundBegins m) over (inl due) settled had =
          let next = next_of S t w.control m (uncalled S t w.control call x (RoundBegins m) over.effect
          (Begin (generation_of S m)) refl refl).1 in
          let is_now : is_due S w.control ≡ true = subst (λ c. is_due S c ≡ true) (sym due.now) due.due in
          aside S P v prev w.control (calls_after w.calls call) w.journal had (RoundBegins m) refl refl refl refl refl
          (λ started free none. none_stays S P v t prev more w call x (RoundBegins m) over (inl due)
          (due_gives_none S P v t w m next is_now over.before started) none)
      step_pass t prev more w call x (RoundBegins m) over (inr update) settled had =
          begins_applied S P v prev w.control (calls_after w.calls call) w.journal had m
          (ap just_applied update.update.behind)
      step_pass t prev more w call x (StateGoes u ToReady) over behind settled had =
          readies S P v prev w.control (calls_after w.calls call) w.journal had u
          (none_stays S P v t prev more w call x (StateGoes u ToReady) over behind tt)
      step_pass t prev more w call x (StateGoes u ToActiveAgain) over behind settled had =
          aside S P v prev w.control (calls_after w.calls call) w.journal had (StateGoes u ToActiveAgain) refl refl refl
          refl refl (λ started free. none_stays S P v t prev more w call x (StateGoes u ToActiveAgain) over behind tt)
      step_pass t prev more w call x (ManagerMoves new (Applies u)) over behind settled had =
          applies S P v prev w.control (calls_after w.calls call) w.journal had new u
      step_pass t prev more w call x (ManagerMoves new SaysNothing) over behind settled had =
          aside S P v prev w.control (calls_after w.calls call) w.journal had (ManagerMoves new SaysNothing) refl refl
          refl refl refl (λ started free none. none)
      step_pass t prev more w call x (ClientMoves k client IsSilent) over behind settled had =
          aside S P v prev w.control (calls_after w.calls call) w.journal had (ClientMoves k client IsSilent) refl refl
          refl refl refl (λ started free none. none)
      step_pass t prev more w call x (PassMoves u slots new GoesOnQuietly) over behind settled had =
          aside S P v prev w.control (calls_after w.calls call) w.journal had (PassMoves u slots new GoesOnQuietly) refl
          refl refl refl refl
          (λ started free. none_stays S P v t prev more w call x (PassMoves u slots new GoesOnQuietly) over behind tt)
      step_pass t prev more w call x (PassMoves u slots new (OpensAt first)) over (inl ready) settled had =
          opens_ready S P v prev w.control (calls_after w.calls call) w.journal had u first slots new ready.behind
          (none_stays S P v t prev more w call x (PassMoves u slots new (OpensAt first)) over (inl ready) tt)
      step_pass t prev more w call x (PassMoves u slots new (OpensAt first)) over (inr seated) settled had =
          let started = started_of S t w.control u first slots new (uncalled S t w.control call x
          (PassMoves u slots new (OpensAt first)) over.effect (PassOpens (record { 0 = u }) first) refl refl).1 in
          opens_seated S P v prev w.control (calls_after w.calls call) w.journal had u first slots new
          (over.ready.started u started) (there_by_start w.control.volumes u started) seated.other seated.slots_are
          (none_behind S P v w over.before (settled seated.went_on (awaits_ends u prev seated.behind)))
          (none_stays S P v t prev more w call x (PassMoves u slots new (OpensAt first)) over (inr seated) tt)
      step_pass t prev more w call x a over behind settled had =
          aside S P v prev w.control (calls_after w.calls call) w.journal had a refl refl refl refl refl
          (λ started free. none_stays S P v t prev more w call x a over behind tt)

    -- RUNS

    module _ (volumes : List Volume) (spares : List ℕ) (o : Opening S P volumes spares) where
      record Kept (t : InTurn) (prev : Option Change) (more : List Change) (w : World) : Type 0 where
        passes : (v : ℕ) → PassCounts S v prev w.control w.journal
        settled : EndsSettled S t.before prev w.control

      -- a turn begins
      forgets : (v : ℕ) (prev : Option Change) (c : Control) (journal : List Entry) → PassCounts S v prev c journal
          → PassCounts S v None c journal
      forgets v prev c journal had =
          let counts = had.counts in
          record {
            owed = had.owed;
            counts = omega (arith, counts);
            none = had.none;
            unapplied = λ free. refl;
          }

      opened : (v : ℕ) → gives_others S S.start.newest v (volume_at volumes v).slots ≡ false
      opened v = at (volume_at volumes v).started ((o.volumes_are v).slots)
        where
          words : List SlotWords
          words = S.start.words.slots S.start.newest v

          none_in : (ws : List SlotWords) → has_other S ws [] ≡ false
          none_in [] = refl
          none_in (w ∷ ws) = refl

          at : (b : Bool) → (volume_at volumes v).slots ≡ (if b then map (slot_opened S) words else [])
              → has_other S words (volume_at volumes v).slots ≡ false
          at true is = ap (has_other S words) is ∙ other_opened S words
          at false is = ap (has_other S words) is ∙ none_in words

      -- the newest block gives no volume other disks than it has
      pub none_at_opening : (v : ℕ) → NoneGives S v (begins_at S volumes spares).control
      none_at_opening v = record { in_book = opened v; in_last = opened v; in_given = λ d le. opened v }

      follows : FollowsTurns S P volumes spares Kept
      follows = record {
        opens = record {
          passes = λ v. record {
            owed = false;
            counts = omega arith;
            none = λ free started. none_at_opening v;
            unapplied = λ free. refl;
          };
          settled = λ went_on now. absurd cc;
        };
        begins = λ t prev w who more had. record {
          passes = λ v. forgets v prev w.control w.journal (had.passes v);
          settled = λ went_on now. absurd cc;
        };
        step = λ t prev more w call x a over behind had. record {
          passes = λ v. step_pass v t prev more w call x a over behind had.settled (had.passes v);
          settled = settled_step S P t prev more w call x a over behind had.settled;
        };
      }

      pub passes_counted : (w : World) → Reached S volumes spares w → KeepsPassCounts w.journal
      passes_counted w run v =
          let had = ((along_turns S P volumes spares o Kept follows w run).1.2.passes v).counts in omega (arith, had)
