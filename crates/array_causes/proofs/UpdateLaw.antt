-- The causes of entries on updates and spares, in each run.
use Rattle.std.proofs.Common.{◌≡◌, ℕ, ◌==◌, Bool, true, false, List, [], ◌∷◌, ◌++◌, refl, ap, sym, ◌∙◌, subst, Option, Some, None, cond}
use Rattle.std.specs.Prelude.{⊤}
use Rattle.std.specs.List.{last_or}
use Rattle.device_log.specs.Log.{Call, What}
use Rattle.array_model.specs.declared.journal.Entry.{Entry}
use Rattle.array_model.specs.declared.journal.Event.{Event}
use Rattle.array_model.specs.declared.journal.Event.TheVariants.{Applied}
use Rattle.array_model.specs.Events.{AtEachFrom}
use Rattle.array_model.specs.Blocks.{Laid}
use Rattle.array_model.proofs.Journals.{at_each_more}
use Rattle.array_machine.specs.Setting.{Setting}
use Rattle.array_machine.specs.Numbers.{without}
use Rattle.array_machine.specs.Volumes.{Volume}
use Rattle.array_machine.specs.Rounds.{Ended, AtExtended, AtAnchor, AtSync, Aim, OfRound, OfSpare, Phase, Rest, Going, Life, Lives, Killed, Takes, Dead, lives, targets, late_targets, on_with, stepped, dropped}
use Rattle.array_machine.specs.Managers.{Manager}
use Rattle.array_machine.specs.TakeoverTurns.{has_all}
use Rattle.array_machine.specs.Control.{Control}
use Rattle.array_machine.specs.Changes.{Change, StepsOn, RoundBegins, SpareBegins, RoundEnds, SpareEnds, RoundLapses, DiskFails, DiskUnblocks, StateGoes, ClientMoves, PassMoves, ManagerMoves, MonitorKilled, TakeoverStarts, MonitorResumes, UpdateWord, SaysNothing, Posts, Applies, Declines, state_entry, client_entry, pass_entry, entry_of}
use Rattle.array_machine.specs.Puts.{put}
use Rattle.array_machine.specs.Machine.{World, calls_after, entered, Reached}
use Rattle.array_paths.specs.InTurn.{InTurn}
use Rattle.array_paths.specs.Comes.{ManagerMove, Comes, ends_spare, manages}
use Rattle.array_paths.specs.AtRows.{AtRows, by_client, by_pass, by_monitor, after_read}
use Rattle.array_paths.specs.Effects.{Effect, quiet, row, row_fails, steps, step_fails}
use Rattle.array_base.specs.Premises.{Premises}
use Rattle.array_base.specs.Opening.{Opening}
use Rattle.array_causes.specs.Links.{Link, First, BehindApplied, IsToBeAdded, MayTakeUpdates, Leans}
use Rattle.array_causes.specs.Failures.{is_down}
use Rattle.array_causes.specs.RoundCauses.{going_of}
use Rattle.array_causes.specs.UpdateCauses.{adding_at, adding_from, adding_of, IsAtRest, UpdateCause, UpdateCauses}
use Rattle.array_causes.proofs.Words.{each_state, each_client, each_pass}
use Rattle.array_causes.proofs.Failures.{is_killed}
use Rattle.array_causes.proofs.Grounds.{LinkTold, told_now, FollowsGrounds, along_grounds}
use Rattle.array_causes.proofs.RoundWords.{RoundSaid, alone}
use Rattle.array_causes.proofs.RoundLaw.{RoundsTold, rounds_open, rounds_step}

-- JOURNALS

adding-append : (adding : Option ℕ) (xs ys : List Entry)
    → adding_from adding (xs ++ ys) ≡ adding_from (adding_from adding xs) ys
adding-append adding [] ys = refl
adding-append adding (x ∷ xs) ys = adding-append (adding_at adding x.event) xs ys

-- right behind an update that was applied
adding_last : (stamp n : ℕ) (adding : Option ℕ) (o : Option Entry) (journal : List Entry)
    → (o ≡ Some (record { stamp = stamp; event = Applied n }) → adding ≡ Some n)
    → last_or o journal ≡ Some (record { stamp = stamp; event = Applied n }) → adding_from adding journal ≡ Some n
adding_last stamp n adding o [] had is = had is
adding_last stamp n adding o (x ∷ xs) had is =
    adding_last stamp n (adding_at adding x.event) (Some x) xs now is
  where
    now : Some x ≡ Some (record { stamp = stamp; event = Applied n }) → adding_at adding x.event ≡ Some n
    now same =
        let one : x ≡ record { stamp = stamp; event = Applied n } = cc same in
        subst (λ (y : Entry). adding_at adding y.event ≡ Some n) (sym one) refl

-- WHOSE BLOCK IS WRITTEN

abbrev spare_aim : Aim → Option ℕ
spare_aim OfRound = None
spare_aim (OfSpare d) = Some d

abbrev spare_of : Phase → Option ℕ
spare_of Rest = None
spare_of (Going aim m step left late done) = spare_aim aim

spare_on : (aim : Aim) (m : Laid) (left late : List ℕ) (done : Bool)
    → spare_of (on_with aim m left late done) ≡ spare_aim aim
spare_on aim m [] late true = refl
spare_on aim m [] late false = refl
spare_on aim m (d ∷ ds) late done = refl

spare_stepped : (phase : Phase) → spare_of (stepped phase) ≡ spare_of phase
spare_stepped Rest = refl
spare_stepped (Going aim m step [] late done) = refl
spare_stepped (Going aim m AtExtended (d ∷ ds) late done) = refl
spare_stepped (Going aim m AtAnchor (d ∷ ds) late done) = refl
spare_stepped (Going aim m AtSync (d ∷ ds) late done) = spare_on aim m ds late true

spare_dropped : (d : ℕ) (phase : Phase) → spare_of (dropped d phase) ≡ spare_of phase
spare_dropped d Rest = refl
spare_dropped d (Going aim m step [] late done) = refl
spare_dropped d (Going aim m step (e ∷ es) late done) = at (e == d)
  where
    at : (b : Bool) → spare_of (cond b (on_with aim m (without d es) (without d late) done)
        (Going aim m step (e ∷ without d es) (without d late) done)) ≡ spare_aim aim
    at true = spare_on aim m (without d es) (without d late) done
    at false = refl

living_up : (life : Life) → lives life ≡ true → is_killed life ≡ false
living_up Lives h = refl
living_up Killed h = absurd cc
living_up (Takes left seen found) h = refl
living_up Dead h = refl

module _ (S : Setting) where
  -- WHERE A CHANGE COMES

  abbrev UpdateComes : Control → UpdateWord → Type 0
  UpdateComes c SaysNothing = ⊤
  UpdateComes c (Posts n) = lives c.round.life ≡ true
  UpdateComes c (Applies n) = c.round.phase ≡ Rest
  UpdateComes c (Declines n kind) = c.round.phase ≡ Rest

  abbrev ChangeComes : Control → Change → Type 0
  ChangeComes c (ManagerMoves new word) = UpdateComes c word
  ChangeComes c (SpareEnds d) = spare_of c.round.phase ≡ Some d
  ChangeComes c _ = ⊤

  manages_so : (c : Control) (new : Manager) (word : UpdateWord) → ManagerMove S c new word → UpdateComes c word
  manages_so c new SaysNothing move = tt
  manages_so c new (Posts n) move = move.lives
  manages_so c new (Applies n) move = move.rests
  manages_so c new (Declines n kind) move = move.rests

  comes_so : (t : InTurn) (c : Control) (a : Change) → Comes S t c a → ChangeComes c a
  comes_so t c _ (ends_spare d m step is) = ap spare_of is
  comes_so t c _ (manages new word move) = manages_so c new word move
  comes_so t c a _ = tt

  rows_so : (c : Control) (d : ℕ) (what : What) (x : Ended) (a : Change) → AtRows S c d what x a → ChangeComes c a
  rows_so c d _ _ _ (by_client k i r need what x call) = tt
  rows_so c d _ _ _ (by_pass v p need what x call) = tt
  rows_so c d _ _ _ (by_monitor left seen found x life) = at (has_all S (seen ++ x.got ∷ []))
    where
      at : (b : Bool) → ChangeComes c (after_read S c d left (seen ++ x.got ∷ []) found b)
      at true = tt
      at false = tt

  effect_so : (t : InTurn) (c : Control) (call : Option Call) (x : Ended) (a : Change) → Effect S t c call x a
      → ChangeComes c a
  effect_so t c _ _ _ (quiet x a comes) = comes_so t c a comes
  effect_so t c _ _ _ (row d what x a may call went why) = rows_so c d what x a why
  effect_so t c _ _ _ (row_fails d what x may call failed lost) = tt
  effect_so t c _ _ _ (steps d m step x at went) = tt
  effect_so t c _ _ _ (step_fails d m step x at failed) = tt

  -- SPARES

  -- an update was applied for the spare whose block is written
  record IsAdding (adding : Option ℕ) (d : ℕ) : Type 0 where
    update : ℕ
    is : adding ≡ Some update
    asked : IsToBeAdded S d

  abbrev SpareSaid : Phase → Option ℕ → Type 0
  SpareSaid phase adding = (d : ℕ) → spare_of phase ≡ Some d → IsAdding adding d

  no_spare : (adding : Option ℕ) (phase : Phase) → spare_of phase ≡ None → SpareSaid phase adding
  no_spare adding phase none d is = absurd (cc (none, is))

  applied_link : (begun : Control) (link : Link) (d : ℕ) (m : Laid) (stamp : ℕ) (journal : List Entry)
      → Leans S begun link (SpareBegins d m) → LinkTold stamp journal link → IsAdding (adding_of journal) d
  applied_link begun link d m stamp journal leans told =
      let right : LinkTold stamp journal BehindApplied = subst (LinkTold stamp journal) leans.0 told in
      record {
        update = right.0;
        is = adding_last stamp right.0 None None journal (λ e. absurd cc) right.1;
        asked = leans.1;
      }

  module _ (n : ℕ) (journal : List Entry) where
    abbrev Behind : Control → Change → Type 0
    Behind c a = SpareSaid (put S a c).round.phase (adding_from (adding_of journal) (entered n (entry_of S a)))

    spare_on_change : (c : Control) (begun : Control) (link : Link) (a : Change) → ChangeComes c a
        → Leans S begun link a → LinkTold n journal link → SpareSaid c.round.phase (adding_of journal) → Behind c a
    spare_on_change c begun link StepsOn comes leans link_told told =
        λ d is. told d (sym (spare_stepped c.round.phase) ∙ is)
    spare_on_change c begun link (RoundBegins m) comes leans link_told told =
        no_spare None (put S (RoundBegins m) c).round.phase
        (spare_on OfRound m (targets S c.round m) (late_targets S c.round m) false)
    spare_on_change c begun link (SpareBegins d m) comes leans link_told told =
        λ e is. let same : d ≡ e = cc is in
        subst (IsAdding (adding_of journal)) same (applied_link begun link d m n journal leans link_told)
    spare_on_change c begun link (RoundEnds m) comes leans link_told told = no_spare (adding_of journal) Rest refl
    spare_on_change c begun link (SpareEnds d) comes leans link_told told = no_spare None Rest refl
    spare_on_change c begun link RoundLapses comes leans link_told told = no_spare (adding_of journal) Rest refl
    spare_on_change c begun link (DiskFails d) comes leans link_told told =
        λ e is. told e (sym (spare_dropped d c.round.phase) ∙ is)
    spare_on_change c begun link MonitorKilled comes leans link_told told = no_spare None Rest refl
    spare_on_change c begun link (MonitorResumes d) comes leans link_told told =
        no_spare (adding_of journal) Rest refl
    spare_on_change c begun link (ManagerMoves new SaysNothing) comes leans link_told told = told
    spare_on_change c begun link (ManagerMoves new (Posts u)) comes leans link_told told = told
    spare_on_change c begun link (ManagerMoves new (Applies u)) comes leans link_told told =
        no_spare (Some u) c.round.phase (ap spare_of comes)
    spare_on_change c begun link (ManagerMoves new (Declines u kind)) comes leans link_told told = told
    spare_on_change c begun link (StateGoes v word) comes leans link_told told =
        each_state (λ word. SpareSaid c.round.phase (adding_from (adding_of journal) (entered n (state_entry v word))))
        told told told told told told word
    spare_on_change c begun link (ClientMoves k new word) comes leans link_told told =
        each_client (λ word. SpareSaid c.round.phase (adding_from (adding_of journal) (entered n (client_entry word))))
        told (λ i. told) (λ i answer. told) word
    spare_on_change c begun link (PassMoves v slots pass word) comes leans link_told told =
        each_pass (λ word. SpareSaid c.round.phase (adding_from (adding_of journal) (entered n (pass_entry v word))))
        told (λ row. told) (λ unit. told) told word
    spare_on_change c begun link _ comes leans link_told told = told

    -- CAUSES

    abbrev Entered : Option Event → Type 0
    Entered e = AtEachFrom (λ front e. UpdateCause S.asked.asks front e.event) journal (entered n e)

    at_rest : (c begun : Control) (link : Link) → (link ≡ First → c ≡ begun) → is_down journal ≡ is_killed c.round.life
        → RoundSaid S c.round (going_of journal) → c.round.phase ≡ Rest → link ≡ First → MayTakeUpdates S begun
        → IsAtRest journal
    at_rest c begun link first down said rests is may =
        let now : MayTakeUpdates S c = subst (MayTakeUpdates S) (sym (first is)) may in
        record {
          lives = down ∙ ap is_killed now.life;
          alone = alone S c.round (going_of journal) (record { life = now.life; rest = rests; target = now.target })
              said;
        }

    change_has_cause : (c begun : Control) (link : Link) (a : Change) → ChangeComes c a → Leans S begun link a
        → (link ≡ First → c ≡ begun) → is_down journal ≡ is_killed c.round.life
        → RoundSaid S c.round (going_of journal) → SpareSaid c.round.phase (adding_of journal) → Entered (entry_of S a)
    change_has_cause c begun link (ManagerMoves new SaysNothing) comes leans first down said told = tt
    change_has_cause c begun link (ManagerMoves new (Posts u)) comes leans first down said told =
        (down ∙ living_up c.round.life comes, tt)
    change_has_cause c begun link (ManagerMoves new (Applies u)) comes leans first down said told =
        (at_rest c begun link first down said comes leans.0 leans.1, tt)
    change_has_cause c begun link (ManagerMoves new (Declines u kind)) comes leans first down said told =
        (at_rest c begun link first down said comes leans.0 leans.1, tt)
    change_has_cause c begun link (SpareEnds d) comes leans first down said told =
        let adding = told d comes in
        (record { update = adding.update; applied = adding.is; ask = adding.asked.ask; adds = adding.asked.adds }, tt)
    change_has_cause c begun link (StateGoes v word) comes leans first down said told =
        each_state (λ word. Entered (state_entry v word)) (tt, tt) (tt, tt) (tt, tt) tt (tt, tt) (tt, tt) word
    change_has_cause c begun link (ClientMoves k new word) comes leans first down said told =
        each_client (λ word. Entered (client_entry word)) tt (λ i. (tt, tt)) (λ i answer. (tt, tt)) word
    change_has_cause c begun link (PassMoves v slots pass word) comes leans first down said told =
        each_pass (λ word. Entered (pass_entry v word)) tt (λ row. (tt, tt)) (λ unit. (tt, tt)) (tt, tt) word
    change_has_cause c begun link (RoundBegins m) comes leans first down said told = (tt, tt)
    change_has_cause c begun link (RoundEnds m) comes leans first down said told = (tt, tt)
    change_has_cause c begun link (DiskFails d) comes leans first down said told = (tt, tt)
    change_has_cause c begun link (DiskUnblocks d) comes leans first down said told = (tt, tt)
    change_has_cause c begun link MonitorKilled comes leans first down said told = (tt, tt)
    change_has_cause c begun link (TakeoverStarts left) comes leans first down said told = (tt, tt)
    change_has_cause c begun link _ comes leans first down said told = tt

  -- WHAT A RUN KEEPS

  record UpdatesTold (w : World) : Type 0 where
    rounds : RoundsTold S w
    spare : SpareSaid w.control.round.phase (adding_of w.journal)
    law : UpdateCauses S.asked.asks w.journal

  pub updates_have_causes : (P : Premises S) (volumes : List Volume) (spares : List ℕ) → Opening S P volumes spares
      → (w : World) → Reached S volumes spares w → UpdateCauses S.asked.asks w.journal
  updates_have_causes P volumes spares o w run =
      let found = along_grounds S P volumes spares o (λ t link w. UpdatesTold w) follows w run in found.2.law
    where
      follows : FollowsGrounds S P volumes spares (λ t link w. UpdatesTold w)
      follows = record {
        opens = record { rounds = rounds_open S volumes spares; spare = no_spare None Rest refl; law = tt };
        begins = λ t link w who settled had. had;
        step = λ t link w call x a over before behind had.
            let n = calls_after w.calls call in
            let new = entered n (entry_of S a) in
            let comes = effect_so t w.control call x a over.effect in
            let link_told = told_now w call link over.first before.behind in
            record {
              rounds = rounds_step S P t link w call x a over before had.rounds;
              spare = subst (SpareSaid (put S a w.control).round.phase) (sym (adding-append None w.journal new))
                  (spare_on_change n w.journal w.control t.before link a comes over.leans link_told had.spare);
              law = at_each_more _ w.journal new had.law
                  (change_has_cause n w.journal w.control t.before link a comes over.leans before.first
                  before.told.down had.rounds.said had.spare);
            };
      }
