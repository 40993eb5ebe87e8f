-- What holds since a pass began, through each effect.
use Rattle.std.proofs.Common.{◌≡◌, ℕ, ◌+◌, true, false, List, [], ◌∷◌, ◌++◌, length, is_some, slice_set, refl, ap, sym, ◌∙◌, subst, arith, Option, Some, None, ◌⊎◌, inl, inr}
use Rattle.device_log.specs.Log.{Call, What, Read}
use Rattle.array_model.specs.Blocks.{Laid}
use Rattle.array_model.specs.FailureLaw.{pass_from}
use Rattle.array_disks.specs.Calls.{call_on}
use Rattle.array_machine.specs.Setting.{Setting}
use Rattle.array_machine.specs.States.{StateWord, ToReady, ToPending, ToActive, ToActiveAgain, ToIdle, ToClean}
use Rattle.array_machine.specs.Volumes.{Slot, Pass, Volume, volume_at}
use Rattle.array_machine.specs.Operations.{shape_of}
use Rattle.array_machine.specs.Rounds.{Ended, Step, AtExtended, AtAnchor, AtSync, OfSpare, Rest, Lives, has_target, what_of}
use Rattle.array_machine.specs.Control.{Control}
use Rattle.array_machine.specs.Changes.{Change, StepsOn, RoundBegins, DiskFails, StateGoes, ClientMoves, PassMoves, ManagerMoves, MonitorKilled, PassWord, GoesOnQuietly, OpensAt, UpdateWord, SaysNothing, Posts, Applies, Declines, entry_of}
use Rattle.array_machine.specs.Puts.{put}
use Rattle.array_machine.specs.Machine.{World, calls_after, log_after, entered}
use Rattle.array_paths.specs.InTurn.{InTurn}
use Rattle.array_paths.specs.MayEdit.{IsNext}
use Rattle.array_paths.specs.Comes.{Comes, begins, begins_spare, ends, ends_spare, lapses, fails, unblocks, readies, pends, activates, again, idles, cleans, client, pass, manages, kills, takes_over, resumes, dies}
use Rattle.array_paths.specs.ClientMove.{client_went}
use Rattle.array_paths.specs.PassMove.{slots_of, pass_after, PassMove, opens, seats, reaches, closes, comes_to_its_end, loses}
use Rattle.array_paths.specs.AtRows.{AtRows, by_client, by_pass, by_monitor}
use Rattle.array_paths.specs.Ready.{Ready}
use Rattle.array_paths.specs.Effects.{Effect, quiet, row, row_fails, steps, step_fails}
use Rattle.array_base.specs.Premises.{Premises}
use Rattle.array_base.specs.Base.{Base}
use Rattle.array_base.proofs.Facts.{between, rest_book}
use Rattle.array_form.specs.Behind.{is_loud, Behind}
use Rattle.array_form.proofs.Uncalled.{at_rows_silent}
use Rattle.array_gate.specs.Gate.{round_in}
use Rattle.array_gate.proofs.Dirty.{target_trusted, in_on_with, in_stepped}
use Rattle.array_told.specs.Told.{Stamps}
use Rattle.array_units.specs.Passes.{HasPassed}
use Rattle.array_units.specs.EditUnits.{EditsKeepUnits, RowsLieApart}
use Rattle.array_units.specs.Counted.{PassesStand, LivesOn, IsCounted, IsServed, IsSince}
use Rattle.array_units.specs.Seats.{AreSeated}
use Rattle.array_units.specs.Rests.{AtRest, NoneCount, FaultsStay}
use Rattle.array_units.proofs.Passes.{passed_on, moved_on}
use Rattle.array_units.proofs.Begins.{opened_next}
use Rattle.array_units.proofs.Life.{not_taking, not_reading}
use Rattle.array_units.proofs.Journal.{Resets, OpensPass, since_reset, since_opened, since_kept, since_silent}
use Rattle.array_units.proofs.Stand.{goes_moved, had_by, call_moved}
use Rattle.array_units.proofs.Seated.{set_there}
use Rattle.array_units.proofs.Calls.{rows_counted}
use Rattle.array_units.proofs.Rests.{loud_rests}
use Rattle.array_units.proofs.Kept.{same_volume, state_stays, since_stays, since_same, since_moves, since_fresh, moves_fresh}
use Rattle.array_units.proofs.Due.{finished_by, due_order, due_own}

no_cons : (d : ℕ) (ds : List ℕ) → d ∷ ds ≡ ds → ⊥
no_cons d ds is = let long = ap length is in omega (arith, long)

no_call : (F : Call → Type 0) (x : Call) → None ≡ Some x → F x
no_call F x is = absurd (cc is)

module _ (S : Setting) (P : Premises S) (units : EditsKeepUnits S P.edits.formed) (apart : RowsLieApart S) (t : InTurn)
    (w : World) (prev : Option Change) (more : List Change) (life : LivesOn S w.control)
    (before : PassesStand S t.before) (stand : PassesStand S w.control) (rests : AtRest prev w.control)
    (none : NoneCount prev w.journal) (faults : FaultsStay t prev w.control w.calls w.journal)
    (seated : AreSeated S t.before) (stamps : Stamps w)
    (since : (v n : ℕ) → pass_from v None w.journal ≡ Some n → IsSince S w.control w.log v n) where
  abbrev c : Control
  c = w.control

  -- CHANGES WITHOUT A CALL

  abbrev Now : Change → ℕ → ℕ → Type 0
  Now a v n = pass_from v None (w.journal ++ entered w.calls (entry_of S a)) ≡ Some n

  abbrev Goal : Change → ℕ → ℕ → Type 0
  Goal a v n = IsSince S (put S a c) w.log v n

  reset : (a : Change) → Resets a → (v n : ℕ) → Now a v n → Goal a v n
  reset a resets v n is =
      absurd (let told = since_reset S v n w.journal w.calls a resets in cc (told, is))

  old : (a : Change) → (OpensPass a → ⊥) → (Resets a → ⊥) → (v n : ℕ) → Now a v n → IsSince S c w.log v n
  old a no_open no_reset v n is = since v n (since_kept S v n w.journal w.calls a no_open no_reset is)

  -- volumes and the round stay
  stays : (a : Change) → (OpensPass a → ⊥) → (Resets a → ⊥) → (put S a c).volumes ≡ c.volumes
      → (put S a c).round.ended ≡ c.round.ended → (put S a c).round.book ≡ c.round.book
      → (IsServed S (put S a c) → IsServed S c) → (v n : ℕ) → Now a v n → Goal a v n
  stays a no_open no_reset volumes ended book serves v n is =
      since_same S c (put S a c) w.log v n (old a no_open no_reset v n is) None (no_call _)
      (same_volume S _ _ (ap (λ vs. volume_at vs v) volumes)) ended book serves

  state : (u : ℕ) (word : StateWord) → (v n : ℕ) → Now (StateGoes u word) v n → Goal (StateGoes u word) v n
  state u word v n is =
      since_same S c (put S (StateGoes u word) c) w.log v n (old (StateGoes u word) (λ h. h) (λ h. h) v n is) None
      (no_call _) (state_stays S c u word v) refl refl (λ served. served)

  -- A ROUND BEGINS

  begun : (base : Base S P w.log c) (ready : Ready S c) (m : Laid) → c.round.phase ≡ Rest → has_target S c.round ≡ true
      → IsNext S t c m → Behind S t.before c prev more (RoundBegins m) → (v n : ℕ) → Now (RoundBegins m) v n
      → Goal (RoundBegins m) v n
  begun base ready m rest target next (inr update) v n is =
      let counted : pass_from v None w.journal ≡ Some n =
      since_kept S v n w.journal w.calls (RoundBegins m) (λ h. h) (λ h. h) is in
      let without : pass_from v None w.journal ≡ None =
      subst (λ p. NoneCount p w.journal) update.update.behind none v in
      absurd (cc (counted, without))
  begun base ready m rest target next (inl due) v n is =
      let had = old (RoundBegins m) (λ h. h) (λ h. h) v n is in
      let later = finished_by S P t w.log c base.core.generations had.ended in
      let own = due_own S P t w.log c prev m due seated rest had.ended target base v had.started in
      since_stays S c (put S (RoundBegins m) c) w.log v n had None (no_call _)
      (same_volume S (volume_at c.volumes v) (volume_at c.volumes v) refl) refl
      (λ served. opened_next S P units t c m next (due_order S P t w.log c prev m due next) later base.core.hand.book v
      had.started (ready.started v had.started) own (had.opened (λ rests. target_trusted S c.round later target)))

  -- A PASS MOVES

  module _ (base : Base S P w.log c) where
    ends_pass : (u : ℕ) (slots : List Slot) (to : Option Pass) (word : PassWord)
        → Behind S t.before c prev more (PassMoves u slots to word) → is_loud word ≡ true
        → (c.round.ended ≡ true) × (c.round.phase ≡ Rest)
    ends_pass u slots to word behind loud = rests (loud_rests S t.before c prev u slots to word behind loud)

    -- a pass that begins
    opened_now : (u : ℕ) (slots : List Slot) (p : Pass) (first : ℕ) → (volume_at c.volumes u).started ≡ true
        → Behind S t.before c prev more (PassMoves u slots (Some p) (OpensAt first)) → (v n : ℕ)
        → Now (PassMoves u slots (Some p) (OpensAt first)) v n → Goal (PassMoves u slots (Some p) (OpensAt first)) v n
    opened_now u slots p first started behind v n is =
        elim (since_opened S v n w.journal w.calls u slots (Some p) first is) [
          | inl fresh ↦ here v fresh.0 fresh.1
          | inr other ↦
              since_moves S c w.log v n (since v n other.1) None u slots (Some p) (OpensAt first) (no_call _)
              (λ same. absurd (other.0 same)) (λ same. absurd (other.0 same))
        ]
      where
        y : Volume
        y = record (volume_at c.volumes u) { slots = slots; pass = Some p }

        there : volume_at (slice_set c.volumes u y) u ≡ y
        there = set_there c.volumes u y started

        here : (v : ℕ) → u ≡ v → n ≡ w.calls → Goal (PassMoves u slots (Some p) (OpensAt first)) v n
        here v same fresh =
            subst (λ k. Goal (PassMoves u slots (Some p) (OpensAt first)) k n) same
            (since_fresh S (put S (PassMoves u slots (Some p) (OpensAt first)) c) w.log u n
            (ap (λ (z : Volume). z.started) there ∙ started)
            (ends_pass u slots (Some p) (OpensAt first) behind refl).0
            (λ served. inr (ap (λ (z : Volume). is_some z.pass) there)) (fresh ∙ stamps.calls))

    moved : (u : ℕ) (slots : List Slot) (to : Option Pass) (word : PassWord) → PassMove S t c u slots to word
        → Behind S t.before c prev more (PassMoves u slots to word) → (v n : ℕ) → Now (PassMoves u slots to word) v n
        → Goal (PassMoves u slots to word) v n
    moved u _ _ _ (opens kind started earlier now is) behind v n at =
        opened_now u _ _ _ started behind v n at
    moved u _ _ _ (seats now started other) behind v n at = opened_now u _ _ _ started behind v n at
    moved u _ _ word (reaches was is now started earlier later above) behind v n at =
        let had = old (PassMoves u (slots_of c u) (volume_at c.volumes u).pass word) (λ h. h) (λ h. h) v n at in
        since_moves S c w.log v n had None u (slots_of c u) (volume_at c.volumes u).pass word (no_call _)
        (λ same served.
        subst (λ k. (S.start.words.pass c.round.book v ≡ None) ⊎ (is_some (volume_at c.volumes k).pass ≡ true))
        (sym same) (had.opened served))
        (λ same k passed p is. passed.passed p (ap (λ j. (volume_at c.volumes j).pass) (sym same) ∙ is))
    moved u slots to word (closes was now started earlier later) behind v n at =
        let had = old (PassMoves u slots to word) (λ h. h) (λ h. h) v n at in
        let ended = ends_pass u slots to word behind refl in
        since_moves S c w.log v n had None u slots to word (no_call _)
        (λ same served.
        let found = served (ap round_in ended.1) in
        let book = (rest_book S P w.log c found.0 ended.1 ended.0 found.1 (between S P w.log c base)).1 in
        inl (ap (λ x. S.start.words.pass x v) book
        ∙ subst (λ k. S.start.words.pass c.round.last k ≡ None) same later))
        (λ same k passed p is. absurd (cc is))
    moved u _ _ word (comes_to_its_end q goes over) behind v n at =
        let had = old (PassMoves u (slots_of c u) (Some q) word) (λ h. h) (λ h. h) v n at in
        since_moves S c w.log v n had None u (slots_of c u) (Some q) word (no_call _)
        (λ same served. inr refl)
        (λ same k passed p is.
        let one : q ≡ p = cc is in inl (ap (λ (z : Pass). z.over) (sym one) ∙ over))
    moved u slots to word (loses d q need what stored call is) behind v n at =
        let had = old (PassMoves u slots to word) (λ h. h) (λ h. h) v n at in
        let counts = since_kept S v n w.journal w.calls (PassMoves u slots to word) (λ h. h) (λ h. h) at in
        elim faults [
          | inl stay ↦
              let more_faults : d ∷ t.before.round.faults ≡ t.before.round.faults =
              sym (ap (λ (z : Control). z.round.faults) is) ∙ stay in
              absurd (no_cons d t.before.round.faults more_faults)
          | inr fresh ↦
              moves_fresh S c w.log v n had u slots to word (λ same. refl) (fresh.1 v n counts ∙ stamps.calls)
        ]

  -- ANY CHANGE WITHOUT A CALL

  -- the monitor lives, so that it doesn't take over
  lives : (v n : ℕ) → IsSince S c w.log v n → c.round.life ≡ Lives
  lives v n had = life.ended had.ended

  managed : (new : _) (word : UpdateWord) (v n : ℕ) → Now (ManagerMoves new word) v n → Goal (ManagerMoves new word) v n
  managed new (Applies k) v n is = reset (ManagerMoves new (Applies k)) tt v n is
  managed new SaysNothing v n is =
      stays (ManagerMoves new SaysNothing) (λ h. h) (λ h. h) refl refl refl (λ h. h) v n is
  managed new (Posts k) v n is = stays (ManagerMoves new (Posts k)) (λ h. h) (λ h. h) refl refl refl (λ h. h) v n is
  managed new (Declines k kind) v n is =
      stays (ManagerMoves new (Declines k kind)) (λ h. h) (λ h. h) refl refl refl (λ h. h) v n is

  module _ (base : Base S P w.log c) (ready : Ready S c) where
    quietly : (a : Change) → Comes S t c a → Behind S t.before c prev more a → (v n : ℕ) → Now a v n → Goal a v n
    quietly _ (begins m alive rest target next) behind v n is = begun base ready m rest target next behind v n is
    quietly a (begins_spare d m alive rest target may same unlisted room) behind v n is =
        stays a (λ h. h) (λ h. h) refl refl refl
        (λ served going. served (in_on_with (OfSpare d) m (d ∷ []) [] false)) v n is
    quietly a (ends m step going) behind v n is =
        stays a (λ h. h) (λ h. h) refl (sym (old a (λ h. h) (λ h. h) v n is).ended) refl
        (λ served rests. absurd (let some = ap round_in (sym going) ∙ rests in cc some)) v n is
    quietly a (ends_spare d m step going) behind v n is =
        stays a (λ h. h) (λ h. h) refl refl refl (λ served rests. served refl) v n is
    quietly a (lapses aim m step late going) behind v n is =
        stays a (λ h. h) (λ h. h) refl refl refl (λ served rests. served refl) v n is
    quietly a (unblocks d rest blocked ended unexpected) behind v n is =
        stays a (λ h. h) (λ h. h) refl refl refl (λ served. served) v n is
    quietly _ (readies u started at rest ended) behind v n is = state u ToReady v n is
    quietly _ (pends u sound at submitted) behind v n is = state u ToPending v n is
    quietly _ (activates u runs at rest ended dirty) behind v n is = state u ToActive v n is
    quietly _ (again u sound at submitted) behind v n is = state u ToActiveAgain v n is
    quietly _ (idles u who runs at nobody) behind v n is = state u ToIdle v n is
    quietly _ (cleans u runs at rest) behind v n is = state u ToClean v n is
    quietly _ (client k new word move) behind v n is =
        stays (ClientMoves k new word) (λ h. h) (λ h. h) refl refl refl (λ served. served) v n is
    quietly _ (pass u slots to word move) behind v n is = moved base u slots to word move behind v n is
    quietly _ (manages new word move) behind v n is = managed new word v n is
    quietly _ (fails d who may) behind v n is = reset (DiskFails d) tt v n is
    quietly _ (kills who awake) behind v n is = reset MonitorKilled tt v n is
    quietly a (takes_over who dead) behind v n is = reset a tt v n is
    quietly a (resumes d taking young) behind v n is =
        absurd (not_taking c.round.life taking (lives v n (old a (λ h. h) (λ h. h) v n is)))
    quietly a (dies taking) behind v n is =
        absurd (not_taking c.round.life taking (lives v n (old a (λ h. h) (λ h. h) v n is)))

    -- A CALL AT ROWS

    abbrev NowBy : Call → Change → ℕ → ℕ → Type 0
    NowBy call a v n = pass_from v None (w.journal ++ entered (w.calls + 1) (entry_of S a)) ≡ Some n

    counted : (d : ℕ) (what : What) (x : Ended) (a : Change) → AtRows S c d what x a → (v n : ℕ)
        → IsSince S c w.log v n → (y : Call) → Some (call_on d what true) ≡ Some y → IsCounted S (put S a c) v y
    counted d what x a at v n had y one =
        let same : call_on d what true ≡ y = cc one in
        subst (IsCounted S (put S a c) v) same
        (rows_counted S apart P.rows c ready stand v (ready.started v had.started) (lives v n had) d what x a at)

    rows_had : (d : ℕ) (what : What) (x : Ended) (a : Change) → AtRows S c d what x a → (v n : ℕ)
        → IsSince S c w.log v n → IsSince S (put S a c) (w.log ++ call_on d what true ∷ []) v n
    rows_had d _ x _ (by_client k i r need what _ call) v n had =
        let a = client_went S c k i r need x in
        since_same S c (put S a c) w.log v n had (Some (call_on d what true))
        (counted d what x a (by_client k i r need what x call) v n had)
        (same_volume S (volume_at c.volumes v) (volume_at c.volumes v) refl) refl refl (λ served. served)
    rows_had d _ x _ (by_pass u p need what _ call) v n had =
        let to = pass_after S c u p need x in
        let a = PassMoves u (slots_of c u) (Some to) GoesOnQuietly in
        let goes = had_by S c u d p need what 1 call in
        let first = goes_moved S c u p goes stand in
        let all = moved_on (shape_of S u) goes.had p to first
        (call_moved S c u d p need what 1 x call first.stands) in
        since_moves S c w.log v n had (Some (call_on d what true)) u (slots_of c u) (Some to) GoesOnQuietly
        (counted d what x a (by_pass u p need what x call) v n had) (λ same served. inr refl)
        (λ same k passed q whose.
        let one : to ≡ q = cc whose in
        let there : (volume_at c.volumes v).pass ≡ Some goes.had =
        ap (λ j. (volume_at c.volumes j).pass) (sym same) ∙ goes.is in
        let was = passed.passed goes.had there in
        subst (λ z. HasPassed (shape_of S v).rows z k) one
        (subst (λ j. HasPassed (shape_of S j).rows to k) same
        (passed_on (shape_of S u) goes.had to k all.comes
        (subst (λ j. HasPassed (shape_of S j).rows goes.had k) (sym same) was))))
    rows_had d _ x a (by_monitor left seen found _ reading) v n had =
        absurd (not_reading c.round.life (d ∷ left) seen found reading (lives v n had))

    rows_since : (d : ℕ) (what : What) (x : Ended) (a : Change) → AtRows S c d what x a → (v n : ℕ)
        → NowBy (call_on d what true) a v n → IsSince S (put S a c) (w.log ++ call_on d what true ∷ []) v n
    rows_since d what x a at v n is =
        rows_had d what x a at v n
        (since v n (since_silent S v n w.journal (w.calls + 1) a (at_rows_silent S c d what x a at) is))

    -- A CALL OF WHAT GOES ON

    no_read : (m : Laid) (step : Step) (d : ℕ) (x : Ended) (place : ℕ) → what_of S x m step d ≡ Read place → ⊥
    no_read m AtExtended d x place is = cc is
    no_read m AtAnchor d x place is = cc is
    no_read m AtSync d x place is = cc is

    steps_since : (d : ℕ) (m : Laid) (step : Step) (x : Ended) (v n : ℕ)
        → NowBy (call_on d (what_of S x m step d) true) StepsOn v n
        → IsSince S (put S StepsOn c) (w.log ++ call_on d (what_of S x m step d) true ∷ []) v n
    steps_since d m step x v n is =
        let had = since v n (since_silent S v n w.journal (w.calls + 1) StepsOn refl is) in
        since_same S c (put S StepsOn c) w.log v n had (Some (call_on d (what_of S x m step d) true))
        (λ y one.
        let same : call_on d (what_of S x m step d) true ≡ y = cc one in
        subst (IsCounted S (put S StepsOn c) v) same (λ k reads below elsewhere. absurd (no_read m step d x _ reads)))
        (same_volume S _ _ refl) refl refl (λ served rests. served (in_stepped c.round.phase ∙ rests))

    -- ANY EFFECT

    reset_by : (call : Option Call) (a : Change) → Resets a → (v n : ℕ)
        → pass_from v None (w.journal ++ entered (calls_after w.calls call) (entry_of S a)) ≡ Some n
        → IsSince S (put S a c) (log_after w.log call) v n
    reset_by call a resets v n is =
        absurd (let told = since_reset S v n w.journal (calls_after w.calls call) a resets in cc (told, is))

    pub since_effect : {call : Option Call} {x : Ended} {a : Change} → Effect S t c call x a
        → Behind S t.before c prev more a → (v n : ℕ)
        → pass_from v None (w.journal ++ entered (calls_after w.calls call) (entry_of S a)) ≡ Some n
        → IsSince S (put S a c) (log_after w.log call) v n
    since_effect (quiet x a comes) behind v n is = quietly a comes behind v n is
    since_effect (row d what x a may calls went at) behind v n is = rows_since d what x a at v n is
    since_effect (row_fails d what x may calls failed lost) behind v n is =
        reset_by (Some (call_on d what false)) (DiskFails d) tt v n is
    since_effect (steps d m step x target went) behind v n is = steps_since d m step x v n is
    since_effect (step_fails d m step x target failed) behind v n is =
        reset_by (Some (call_on d (what_of S x m step d) false)) (DiskFails d) tt v n is
