-- The causes of rounds, in each run.
use Rattle.std.proofs.Common.{◌≡◌, ℕ, ◌+◌, Bool, true, false, List, [], ◌∷◌, ◌++◌, refl, ap, sym, ◌∙◌, subst, Option, Some, None, inl}
use Rattle.device_log.specs.Log.{Call, What}
use Rattle.array_model.specs.declared.journal.Entry.{Entry}
use Rattle.array_model.specs.declared.journal.Event.{Event}
use Rattle.array_model.specs.Events.{AtEachFrom}
use Rattle.array_model.specs.Causes.{note_of, note_from}
use Rattle.array_model.specs.Blocks.{Laid}
use Rattle.array_model.specs.Candidates.{Disk}
use Rattle.array_model.proofs.Journals.{at_each_more}
use Rattle.array_machine.specs.Setting.{Setting}
use Rattle.array_machine.specs.Volumes.{Volume}
use Rattle.array_machine.specs.Rounds.{Ended, OfRound, on_with, targets, late_targets}
use Rattle.array_machine.specs.TakeoverTurns.{has_all}
use Rattle.array_machine.specs.Control.{Control}
use Rattle.array_machine.specs.Changes.{Change, RoundBegins, RoundEnds, SpareEnds, DiskFails, DiskUnblocks, StateGoes, ClientMoves, PassMoves, ManagerMoves, MonitorKilled, TakeoverStarts, state_entry, client_entry, pass_entry, update_entry, entry_of}
use Rattle.array_machine.specs.Puts.{put}
use Rattle.array_machine.specs.Machine.{World, begins_at, calls_after, log_after, entered, Reached}
use Rattle.array_paths.specs.InTurn.{InTurn}
use Rattle.array_paths.specs.Comes.{IsTaking, Comes, begins, begins_spare, ends, ends_spare, lapses, takes_over, resumes, dies}
use Rattle.array_paths.specs.AtRows.{AtRows, by_client, by_pass, by_monitor, after_read}
use Rattle.array_paths.specs.Effects.{after_effect, Effect, quiet, row, row_fails, steps, step_fails}
use Rattle.array_base.specs.Premises.{generation_of, Premises}
use Rattle.array_base.specs.Opening.{Opening}
use Rattle.array_base.specs.Base.{Ledger, ledger, disks_by, Goes, Base}
use Rattle.array_base.proofs.Effects.{effect_base}
use Rattle.array_causes.specs.Links.{Link}
use Rattle.array_causes.specs.Follow.{OverLink}
use Rattle.array_causes.specs.Failures.{is_down}
use Rattle.array_causes.specs.RoundCauses.{going_of, RoundCause, RoundCauses}
use Rattle.array_causes.proofs.Words.{each_state, each_client, each_pass, each_update}
use Rattle.array_causes.proofs.Failures.{is_killed}
use Rattle.array_causes.proofs.Grounds.{Grounds, FollowsGrounds, along_grounds}
use Rattle.array_causes.proofs.RoundWords.{going-append, note-append, RestsNow, RoundComes, PhaseSaid, LeftIn, RoundSaid, alone, round_on, note_on}

module _ (S : Setting) where
  -- WHERE A CHANGE COMES

  -- but for the generation of a round that begins, which the base fact tells
  abbrev ComesBut : Control → Change → Type 0
  ComesBut c (RoundBegins m) = RestsNow S c.round
  ComesBut c a = RoundComes S c.round a

  comes_so : (t : InTurn) (c : Control) (a : Change) → Comes S t c a → ComesBut c a
  comes_so t c _ (begins m life rest target next) = record { life = life; rest = rest; target = target }
  comes_so t c _ (begins_spare d m life rest target able is unlisted large) =
      record { life = life; rest = rest; target = target }
  comes_so t c _ (ends m step is) = record { step = step; is = is }
  comes_so t c _ (ends_spare d m step is) = (m, record { step = step; is = is })
  comes_so t c _ (lapses aim m step late is) = (aim, m, late, record { step = step; is = is })
  comes_so t c _ (takes_over who killed) = killed
  comes_so t c _ (resumes d taking high) = taking
  comes_so t c _ (dies taking) = taking
  comes_so t c a _ = tt

  rows_so : (c : Control) (d : ℕ) (what : What) (x : Ended) (a : Change) → AtRows S c d what x a → ComesBut c a
  rows_so c d _ _ _ (by_client k i r need what x call) = tt
  rows_so c d _ _ _ (by_pass v p need what x call) = tt
  rows_so c d _ _ _ (by_monitor left seen found x life) = at (has_all S (seen ++ x.got ∷ []))
    where
      taking : IsTaking c.round.life
      taking = subst IsTaking (sym life) tt

      at : (b : Bool) → ComesBut c (after_read S c d left (seen ++ x.got ∷ []) found b)
      at true = taking
      at false = taking

  effect_so : (t : InTurn) (c : Control) (call : Option Call) (x : Ended) (a : Change) → Effect S t c call x a
      → ComesBut c a
  effect_so t c _ _ _ (quiet x a comes) = comes_so t c a comes
  effect_so t c _ _ _ (row d what x a may call went why) = rows_so c d what x a why
  effect_so t c _ _ _ (row_fails d what x may call failed lost) = tt
  effect_so t c _ _ _ (steps d m step x at went) = tt
  effect_so t c _ _ _ (step_fails d m step x at failed) = tt

  -- a round that goes on has the highest generation begun
  top_of : (ks : ℕ → Disk) (l : Ledger) (m : Laid) (left late : List ℕ)
      → Goes S ks l (on_with OfRound m left late false) → generation_of S m ≡ l.note
  top_of ks l m [] late g = g.top
  top_of ks l m (d ∷ ds) late g = g.top

  comes_whole : (P : Premises S) (log : List Call) (c : Control) (a : Change) → Base S P log (put S a c)
      → ComesBut c a → RoundComes S c.round a
  comes_whole P log c (RoundBegins m) base h = (
    h,
    top_of (disks_by S log) (ledger (put S (RoundBegins m) c).round) m (targets S c.round m)
        (late_targets S c.round m) base.goes,
  )
  comes_whole P log c a base h = h

  -- WHAT A RUN KEEPS

  pub record RoundsTold (w : World) : Type 0 where
    pub said : RoundSaid S w.control.round (going_of w.journal)
    pub note : note_of S.start w.journal ≡ w.control.round.note
    pub law : RoundCauses S.start w.journal

  module _ (n : ℕ) (journal : List Entry) where
    abbrev Entered : Option Event → Type 0
    Entered e = AtEachFrom (λ front e. RoundCause S.start front e.event) journal (entered n e)

    change_has_cause : (c : Control) (a : Change) → RoundComes S c.round a → is_down journal ≡ is_killed c.round.life
        → RoundSaid S c.round (going_of journal) → note_of S.start journal ≡ c.round.note → Entered (entry_of S a)
    change_has_cause c (RoundBegins m) comes down said note = (
      record {
        lives = down ∙ ap is_killed comes.0.life;
        alone = alone S c.round (going_of journal) comes.0 said;
        next = comes.1 ∙ ap (λ k. k + 1) (sym note);
      },
      tt,
    )
    change_has_cause c (RoundEnds m) comes down said note = (ends_now, tt)
      where
        ends_now : going_of journal ≡ Some (generation_of S m)
        ends_now =
            (subst (λ phase. PhaseSaid S (LeftIn S c.round) phase (going_of journal)) comes.is said.phase).0
    change_has_cause c (StateGoes v word) comes down said note =
        each_state (λ word. Entered (state_entry v word)) (tt, tt) (tt, tt) (tt, tt) tt (tt, tt) (tt, tt) word
    change_has_cause c (ClientMoves k new word) comes down said note =
        each_client (λ word. Entered (client_entry word)) tt (λ i. (tt, tt)) (λ i answer. (tt, tt)) word
    change_has_cause c (PassMoves v slots pass word) comes down said note =
        each_pass (λ word. Entered (pass_entry v word)) tt (λ row. (tt, tt)) (λ unit. (tt, tt)) (tt, tt) word
    change_has_cause c (ManagerMoves new word) comes down said note =
        each_update (λ word. Entered (update_entry word)) tt (λ u. (tt, tt)) (λ u. (tt, tt)) (λ u kind. (tt, tt)) word
    change_has_cause c (SpareEnds d) comes down said note = (tt, tt)
    change_has_cause c (DiskFails d) comes down said note = (tt, tt)
    change_has_cause c (DiskUnblocks d) comes down said note = (tt, tt)
    change_has_cause c MonitorKilled comes down said note = (tt, tt)
    change_has_cause c (TakeoverStarts left) comes down said note = (tt, tt)
    change_has_cause c _ comes down said note = tt

  pub rounds_open : (volumes : List Volume) (spares : List ℕ) → RoundsTold (begins_at S volumes spares)
  rounds_open volumes spares = record {
    said = record { phase = inl refl; asleep = λ down. absurd cc };
    note = refl;
    law = tt;
  }

  pub rounds_step : (P : Premises S) (t : InTurn) (link : Link) (w : World) (call : Option Call) (x : Ended)
      (a : Change) → OverLink S P t link w call x a → Grounds S t link w → RoundsTold w
      → RoundsTold (after_effect S w call a)
  rounds_step P t link w call x a over before had =
      let n = calls_after w.calls call in
      let new = entered n (entry_of S a) in
      let base = effect_base S P t w.log w.control over.effect over.base in
      let comes = comes_whole P (log_after w.log call) w.control a base
      (effect_so t w.control call x a over.effect) in
      record {
        said = subst (RoundSaid S (put S a w.control).round) (sym (going-append None w.journal new))
            (round_on S n w.control a (going_of w.journal) comes had.said);
        note = note-append (generation_of S S.start.newest) w.journal new ∙ ap (λ k. note_from k new) had.note
            ∙ note_on S n w.control a comes;
        law = at_each_more _ w.journal new had.law
            (change_has_cause n w.journal w.control a comes before.told.down had.said had.note);
      }

  pub rounds_have_causes : (P : Premises S) (volumes : List Volume) (spares : List ℕ) → Opening S P volumes spares
      → (w : World) → Reached S volumes spares w → RoundCauses S.start w.journal
  rounds_have_causes P volumes spares o w run =
      let found = along_grounds S P volumes spares o (λ t link w. RoundsTold w) follows w run in found.2.law
    where
      follows : FollowsGrounds S P volumes spares (λ t link w. RoundsTold w)
      follows = record {
        opens = rounds_open volumes spares;
        begins = λ t link w who settled had. had;
        step = λ t link w call x a over before behind had. rounds_step P t link w call x a over before had;
      }
