-- In each run rounds, spares and updates come in the numbers that their causes allow.
use Rattle.std.proofs.Common.{◌≡◌, ℕ, ◌+◌, ◌≤◌, not, Bool, true, false, List, [], ◌∷◌, ◌++◌, refl, ap, subst, arith, cond, append_assoc, Option, Some, None}
use Rattle.device_log.specs.Log.{Call}
use Rattle.array_model.specs.Blocks.{Laid}
use Rattle.array_model.specs.declared.journal.Entry.{Entry}
use Rattle.array_model.specs.declared.journal.Event.{Event}
use Rattle.array_model.specs.declared.journal.Event.TheVariants.{Posted, Applied, Declined, Spare}
use Rattle.array_model.specs.Events.{AtEachFrom, count, is_spare, is_posted, is_applied, is_settled}
use Rattle.array_model.proofs.Journals.{count-append}
use Rattle.array_machine.specs.Setting.{Setting}
use Rattle.array_machine.specs.Volumes.{Volume}
use Rattle.array_machine.specs.Rounds.{AtExtended, AtAnchor, AtSync, Aim, Phase, Rest, Going, Ended, on_with, stepped, dropped}
use Rattle.array_machine.specs.Numbers.{without}
use Rattle.array_machine.specs.Control.{Control}
use Rattle.array_machine.specs.Changes.{Change, SpareBegins, SpareEnds, DiskFails, StateGoes, ClientMoves, PassMoves, ManagerMoves, IsSilent, GoesOnQuietly, SaysNothing, Applies, StepsOn, RoundBegins, RoundEnds, RoundLapses, MonitorKilled, MonitorResumes, entry_of}
use Rattle.array_machine.specs.States.{ToActiveAgain}
use Rattle.array_machine.specs.Puts.{put}
use Rattle.array_machine.specs.Machine.{World, entered, calls_after, Reached}
use Rattle.array_paths.specs.InTurn.{InTurn}
use Rattle.array_paths.specs.Comes.{Comes, ends_spare}
use Rattle.array_paths.specs.Effects.{Effect}
use Rattle.array_base.specs.Premises.{Premises}
use Rattle.array_base.specs.Opening.{Opening}
use Rattle.array_order.specs.UpdateOrder.{ComesNext}
use Rattle.array_order.proofs.Runs.{updates_in_order}
use Rattle.array_form.specs.StateCounts.{one_if}
use Rattle.array_form.specs.RoundCounts.{is_round, in_spare, just_applied, SpareCounts, KeepsRoundCounts}
use Rattle.array_form.specs.Behind.{Behind}
use Rattle.array_form.specs.Follow.{FollowsTurns}
use Rattle.array_form.proofs.Counting.{sees, count_one, count_same, one_at_most}
use Rattle.array_form.proofs.Uncalled.{uncalled}
use Rattle.array_form.proofs.AlongTurns.{along_turns}
use Rattle.array_form.proofs.Runs.{counted}

-- UPDATES

abbrev AtEachNext : List Entry → List Entry → Type 0
AtEachNext front rest = AtEachFrom (λ f e. ComesNext (count is_posted f) (count is_settled f) e.event) front rest

one_settled : (front : List Entry) (e : Entry) → ComesNext (count is_posted front) (count is_settled front) e.event
    → count is_settled front ≤ count is_posted front
    → count is_settled (front ++ e ∷ []) ≤ count is_posted (front ++ e ∷ [])
one_settled front e next le =
    let s = count-append is_settled front (e ∷ []) in
    let p = count-append is_posted front (e ∷ []) in
    at e.event refl next s p
  where
    at : (event : Event) → e.event ≡ event → ComesNext (count is_posted front) (count is_settled front) event
        → count is_settled (front ++ e ∷ []) ≡ count is_settled front + count is_settled (e ∷ [])
        → count is_posted (front ++ e ∷ []) ≡ count is_posted front + count is_posted (e ∷ [])
        → count is_settled (front ++ e ∷ []) ≤ count is_posted (front ++ e ∷ [])
    at (Applied n) is next s p =
        let one : count is_settled (e ∷ []) ≡ 1 = rw is refl in
        let none : count is_posted (e ∷ []) ≡ 0 = rw is refl in
        let less = next.1 in
        omega (arith, s, p, one, none, less)
    at (Declined n kind) is next s p =
        let one : count is_settled (e ∷ []) ≡ 1 = rw is refl in
        let none : count is_posted (e ∷ []) ≡ 0 = rw is refl in
        let less = next.1 in
        omega (arith, s, p, one, none, less)
    at (Posted n) is next s p =
        let none : count is_settled (e ∷ []) ≡ 0 = rw is refl in
        omega (arith, s, p, none, le)
    at _ is next s p =
        let none : count is_settled (e ∷ []) ≡ 0 = rw is refl in
        omega (arith, s, p, none, le)

settled_from : (front rest : List Entry) → AtEachNext front rest → count is_settled front ≤ count is_posted front
    → count is_settled (front ++ rest) ≤ count is_posted (front ++ rest)
settled_from front [] law le =
    let s = count-append is_settled front [] in
    let p = count-append is_posted front [] in
    omega (arith, s, p, le)
settled_from front (e ∷ es) law le =
    let more = settled_from (front ++ e ∷ []) es law.1 (one_settled front e law.0 le) in
    subst (λ j. count is_settled j ≤ count is_posted j) (append_assoc front (e ∷ []) es) more

-- SPARES

pub spare_on : (aim : Aim) (m : Laid) (left late : List ℕ) (done : Bool)
    → in_spare (on_with aim m left late done) ≡ not (is_round aim)
spare_on aim m [] late true = refl
spare_on aim m [] late false = refl
spare_on aim m (d ∷ ds) late done = refl

pub spare_dropped : (d : ℕ) (phase : Phase) → in_spare (dropped d phase) ≡ in_spare phase
spare_dropped d Rest = refl
spare_dropped d (Going aim m step [] late done) = refl
spare_dropped d (Going aim m step (e ∷ es) late done) = at (_)
  where
    at : (b : Bool) → in_spare (cond b (on_with aim m (without d es) (without d late) done)
        (Going aim m step (e ∷ without d es) (without d late) done)) ≡ not (is_round aim)
    at true = spare_on aim m (without d es) (without d late) done
    at false = refl

pub spare_stepped : (phase : Phase) → in_spare (stepped phase) ≡ in_spare phase
spare_stepped Rest = refl
spare_stepped (Going aim m step [] late done) = refl
spare_stepped (Going aim m AtExtended (d ∷ ds) late done) = refl
spare_stepped (Going aim m AtAnchor (d ∷ ds) late done) = refl
spare_stepped (Going aim m AtSync (d ∷ ds) late done) = spare_on aim m ds late true

module _ (S : Setting) where
  module _ (prev : Option Change) (c : Control) (n : ℕ) (journal : List Entry)
      (had : SpareCounts prev c.round.phase journal) where
    abbrev Then : Change → Type 0
    Then a = SpareCounts (Some a) (put S a c).round.phase (journal ++ entered n (entry_of S a))

    -- no spare is made and none begins
    aside : (a : Change) → sees is_spare (entry_of S a) ≡ false → sees is_applied (entry_of S a) ≡ false
        → just_applied (Some a) ≡ false → one_if (in_spare (put S a c).round.phase) ≤ one_if (in_spare c.round.phase)
        → Then a
    aside a no_spare no_update not_now less =
        let s = count_same is_spare journal n (entry_of S a) no_spare in
        let u = count_same is_applied journal n (entry_of S a) no_update in
        let x = ap one_if not_now in
        omega (arith, s, u, x, less, had)

    same : (a : Change) → sees is_spare (entry_of S a) ≡ false → sees is_applied (entry_of S a) ≡ false
        → just_applied (Some a) ≡ false → in_spare (put S a c).round.phase ≡ in_spare c.round.phase → Then a
    same a no_spare no_update not_now is =
        let x = ap one_if is in aside a no_spare no_update not_now (omega (arith, x))

    rests : (a : Change) → sees is_spare (entry_of S a) ≡ false → sees is_applied (entry_of S a) ≡ false
        → just_applied (Some a) ≡ false → in_spare (put S a c).round.phase ≡ false → Then a
    rests a no_spare no_update not_now is =
        let x = ap one_if is in aside a no_spare no_update not_now (omega (arith, x))

    applies : (new : _) (u : ℕ) → Then (ManagerMoves new (Applies u))
    applies new u =
        let event : Event = Applied u in
        let s = count_same is_spare journal n (Some event) refl in
        let a = count_one is_applied journal n event refl in
        omega (arith, s, a, had)

    begins_one : (d : ℕ) (m : Laid) → just_applied prev ≡ true → Then (SpareBegins d m)
    begins_one d m now =
        let s = count_same is_spare journal n None refl in
        let a = count_same is_applied journal n None refl in
        let x = ap one_if now in
        let one = one_at_most (in_spare (put S (SpareBegins d m) c).round.phase) in
        omega (arith, s, a, x, one, had)

    ends_one : (d : ℕ) → in_spare c.round.phase ≡ true → Then (SpareEnds d)
    ends_one d going =
        let event : Event = Spare (record { 0 = d }) in
        let s = count_one is_spare journal n event refl in
        let a = count_same is_applied journal n (Some event) refl in
        let x = ap one_if going in
        omega (arith, s, a, x, had)

  was_going : (t : InTurn) (c : Control) (d : ℕ) → Comes S t c (SpareEnds d) → in_spare c.round.phase ≡ true
  was_going t c _ (ends_spare d m step is) = ap in_spare is

  step_spares : (t : InTurn) (prev : Option Change) (more : List Change) (w : World) (call : Option Call) (x : Ended)
      (a : Change) → Effect S t w.control call x a → Behind S t.before w.control prev more a
      → SpareCounts prev w.control.round.phase w.journal
      → SpareCounts (Some a) (put S a w.control).round.phase
      (w.journal ++ entered (calls_after w.calls call) (entry_of S a))
  step_spares t prev more w call x (SpareBegins d m) effect behind had =
      begins_one prev w.control (calls_after w.calls call) w.journal had d m (ap just_applied behind.behind)
  step_spares t prev more w call x (SpareEnds d) effect behind had =
      ends_one prev w.control (calls_after w.calls call) w.journal had d (was_going t w.control d
      (uncalled S t w.control call x (SpareEnds d) effect (Spare (record { 0 = d })) refl refl).1)
  step_spares t prev more w call x (ManagerMoves new (Applies u)) effect behind had =
      applies prev w.control (calls_after w.calls call) w.journal had new u
  step_spares t prev more w call x (ManagerMoves new SaysNothing) effect behind had =
      same prev w.control (calls_after w.calls call) w.journal had (ManagerMoves new SaysNothing) refl refl refl refl
  step_spares t prev more w call x (StepsOn) effect behind had =
      same prev w.control (calls_after w.calls call) w.journal had StepsOn refl refl refl
      (spare_stepped w.control.round.phase)
  step_spares t prev more w call x (DiskFails d) effect behind had =
      same prev w.control (calls_after w.calls call) w.journal had (DiskFails d) refl refl refl
      (spare_dropped d w.control.round.phase)
  step_spares t prev more w call x (RoundBegins m) effect behind had =
      rests prev w.control (calls_after w.calls call) w.journal had (RoundBegins m) refl refl refl (spare_on _ m _ _ _)
  step_spares t prev more w call x (RoundEnds m) effect behind had =
      rests prev w.control (calls_after w.calls call) w.journal had (RoundEnds m) refl refl refl refl
  step_spares t prev more w call x RoundLapses effect behind had =
      rests prev w.control (calls_after w.calls call) w.journal had RoundLapses refl refl refl refl
  step_spares t prev more w call x MonitorKilled effect behind had =
      rests prev w.control (calls_after w.calls call) w.journal had MonitorKilled refl refl refl refl
  step_spares t prev more w call x (MonitorResumes d) effect behind had =
      rests prev w.control (calls_after w.calls call) w.journal had (MonitorResumes d) refl refl refl refl
  step_spares t prev more w call x (StateGoes v ToActiveAgain) effect behind had =
      same prev w.control (calls_after w.calls call) w.journal had (StateGoes v ToActiveAgain) refl refl refl refl
  step_spares t prev more w call x (ClientMoves k client IsSilent) effect behind had =
      same prev w.control (calls_after w.calls call) w.journal had (ClientMoves k client IsSilent) refl refl refl refl
  step_spares t prev more w call x (PassMoves v slots new GoesOnQuietly) effect behind had =
      same prev w.control (calls_after w.calls call) w.journal had (PassMoves v slots new GoesOnQuietly) refl refl refl
      refl
  step_spares t prev more w call x a effect behind had =
      same prev w.control (calls_after w.calls call) w.journal had a refl refl refl refl

  module _ (P : Premises S) (volumes : List Volume) (spares : List ℕ) (o : Opening S P volumes spares) where
    abbrev Q : InTurn → Option Change → List Change → World → Type 0
    Q t prev more w = SpareCounts prev w.control.round.phase w.journal

    -- a turn begins with nothing applied in it yet
    forgets : (prev : Option Change) (phase : Phase) (journal : List Entry) → SpareCounts prev phase journal
        → SpareCounts None phase journal
    forgets prev phase journal had = omega (arith, had)

    follows : FollowsTurns S P volumes spares Q
    follows = record {
      opens = omega arith;
      begins = λ t prev w who more had. forgets prev w.control.round.phase w.journal had;
      step = λ t prev more w call x a over behind had.
          step_spares t prev more w call x a over.effect behind had;
    }

    pub rounds_counted : (w : World) → Reached S volumes spares w → KeepsRoundCounts w.journal
    rounds_counted w run =
        let had : SpareCounts _ w.control.round.phase w.journal =
        (along_turns S P volumes spares o Q follows w run).1.2 in
        let phase = (counted S P volumes spares o w run).rounds.phase in
        record {
          ends = omega (arith, phase);
          spares = omega (arith, had);
          settled = settled_from [] w.journal (updates_in_order S P volumes spares o w run) (omega arith);
        }
