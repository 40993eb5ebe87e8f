-- In each run entries name disks of the bank, and volumes that were started.
use Rattle.std.proofs.Common.{◌≡◌, ℕ, ◌<◌, ◌==◌, ◌||◌, not, Bool, true, false, cond, List, [], ◌∷◌, ◌++◌, ap, ◌∙◌, subst, arith, Option, Some, ◌⊎◌, inl, inr}
use Rattle.std.specs.Prelude.{⊤}
use Rattle.std.specs.List.{AllByRecursion}
use Rattle.std.proofs.lemmas.Bool.Decides.{nat_tests}
use Rattle.device_log.specs.Log.{Call, What}
use Rattle.array_model.specs.Blocks.{Laid}
use Rattle.array_model.specs.declared.journal.Entry.{Entry}
use Rattle.array_model.proofs.Journals.{all-append}
use Rattle.array_machine.specs.Setting.{Setting}
use Rattle.array_machine.specs.Numbers.{has, without}
use Rattle.array_machine.specs.States.{IsReadonly, IsReadAuto, IsClean, StateWord, ToReady, ToPending, ToActive, ToActiveAgain, ToIdle, ToClean, state_after}
use Rattle.array_machine.specs.Volumes.{Slot, Pass, Volume, volume_at}
use Rattle.array_machine.specs.Rounds.{AtExtended, AtAnchor, AtSync, Aim, OfRound, OfSpare, Phase, Rest, Going, Ended, on_with, stepped, dropped, expects}
use Rattle.array_machine.specs.Faults.{fault_base, blocked_with, round_without}
use Rattle.array_machine.specs.Control.{Control}
use Rattle.array_machine.specs.Changes.{Change, StepsOn, DiskFails, StateGoes, ClientMoves, IsSilent, Submits, Acknowledges, PassMoves, ManagerMoves, ClientWord, UpdateWord, SaysNothing, Posts, Applies, Declines, PassWord, GoesOnQuietly, entry_of}
use Rattle.array_machine.specs.TakeoverTurns.{has_all}
use Rattle.array_machine.specs.Puts.{put}
use Rattle.array_machine.specs.Machine.{World, entered, calls_after, Reached}
use Rattle.array_paths.specs.InTurn.{InTurn, state_of}
use Rattle.array_paths.specs.PassMove.{slots_of, PassMove, opens, seats, reaches, closes, comes_to_its_end, loses, pass_after}
use Rattle.array_paths.specs.Comes.{MayFail, Comes, begins, begins_spare, ends, ends_spare, lapses, fails, unblocks, readies, pends, activates, again, idles, cleans, client, pass, manages, kills, takes_over, resumes, dies}
use Rattle.array_paths.specs.AtRows.{AtRows, by_client, by_pass, by_monitor, after_read}
use Rattle.array_paths.specs.Effects.{Effect, quiet, row, row_fails, steps, step_fails}
use Rattle.array_paths.specs.Ready.{Ready}
use Rattle.array_base.specs.Premises.{Premises}
use Rattle.array_base.specs.Opening.{Opening}
use Rattle.array_base.specs.Laws.{FollowsBase}
use Rattle.array_base.proofs.Targets.{or_cases, or_first, or_second}
use Rattle.array_base.proofs.Runs.{along_base}
use Rattle.array_told.proofs.Tells.{set_at, state_without, state_with_pass}
use Rattle.array_form.specs.Names.{NamesThere, NamesWhatIsThere, SpareIsThere, NamesSo}

-- LISTS AND PHASES

fewer : (d e : ℕ) (ds : List ℕ) → has d (without e ds) ≡ true → has d ds ≡ true
fewer d e [] is = is
fewer d e (x ∷ xs) is = at (x == e) is (fewer d e xs)
  where
    at : (b : Bool) → has d (cond (not b) (x ∷ without e xs) (without e xs)) ≡ true
        → (has d (without e xs) ≡ true → has d xs ≡ true) → (x == d || has d xs) ≡ true
    at true h more = or_second (x == d) (has d xs) (more h)
    at false h more = elim (or_cases (x == d) (has d (without e xs)) h) [
      | inl here ↦ or_first (x == d) (has d xs) here
      | inr later ↦ or_second (x == d) (has d xs) (more later)
    ]

module _ (count : ℕ) where
  abbrev AimIsThere : Aim → Type 0
  AimIsThere OfRound = ⊤
  AimIsThere (OfSpare d) = d < count

  aimed : (aim : Aim) (m : Laid) (step : _) (left late : List ℕ) (done : Bool)
      → SpareIsThere count (Going aim m step left late done) → AimIsThere aim
  aimed OfRound m step left late done h = tt
  aimed (OfSpare d) m step left late done h = h

  going : (aim : Aim) (m : Laid) (step : _) (left late : List ℕ) (done : Bool) → AimIsThere aim
      → SpareIsThere count (Going aim m step left late done)
  going OfRound m step left late done h = tt
  going (OfSpare d) m step left late done h = h

  on_there : (aim : Aim) (m : Laid) (left late : List ℕ) (done : Bool) → AimIsThere aim
      → SpareIsThere count (on_with aim m left late done)
  on_there aim m [] late true h = going aim m _ late [] true h
  on_there aim m [] late false h = going aim m _ [] late false h
  on_there aim m (d ∷ ds) late done h = going aim m _ (d ∷ ds) late done h

  stepped_there : (phase : Phase) → SpareIsThere count phase → SpareIsThere count (stepped phase)
  stepped_there Rest h = tt
  stepped_there (Going aim m step [] late done) h = h
  stepped_there (Going aim m AtExtended (d ∷ ds) late done) h =
      going aim m _ (d ∷ ds) late done (aimed aim m AtExtended (d ∷ ds) late done h)
  stepped_there (Going aim m AtAnchor (d ∷ ds) late done) h =
      going aim m _ (d ∷ ds) late done (aimed aim m AtAnchor (d ∷ ds) late done h)
  stepped_there (Going aim m AtSync (d ∷ ds) late done) h =
      on_there aim m ds late true (aimed aim m AtSync (d ∷ ds) late done h)

  dropped_there : (d : ℕ) (phase : Phase) → SpareIsThere count phase → SpareIsThere count (dropped d phase)
  dropped_there d Rest h = tt
  dropped_there d (Going aim m step [] late done) h =
      going aim m step [] (without d late) done (aimed aim m step [] late done h)
  dropped_there d (Going aim m step (e ∷ es) late done) h = at (e == d)
    where
      at : (b : Bool) → SpareIsThere count (cond b (on_with aim m (without d es) (without d late) done)
          (Going aim m step (e ∷ without d es) (without d late) done))
      at true = on_there aim m (without d es) (without d late) done (aimed aim m step (e ∷ es) late done h)
      at false = going aim m step (e ∷ without d es) (without d late) done (aimed aim m step (e ∷ es) late done h)

-- EFFECTS

module _ (S : Setting) (n : ℕ) (journal : List Entry) where
  abbrev After : Control → Change → Type 0
  After c a = NamesSo S (put S a c) (journal ++ entered n (entry_of S a))

  -- the entry, if there is one
  abbrev Says : Change → Type 0
  Says a = AllByRecursion (λ (e : Entry). NamesThere S.start e.event) (entered n (entry_of S a))

  abbrev StatesAre : Control → Type 0
  StatesAre c = (v : ℕ) → (state_of c v ≡ IsReadonly → ⊥) → S.start.is_started v ≡ true

  abbrev BlockedAre : List ℕ → Type 0
  BlockedAre blocked = (d : ℕ) → has d blocked ≡ true → d < S.start.disks.count

  so : (c : Control) (a : Change) → Says a → BlockedAre (put S a c).round.blocked
      → SpareIsThere S.start.disks.count (put S a c).round.phase → StatesAre (put S a c) → NamesSo S c journal
      → After c a
  so c a says blocked spare states had = record {
    law = all-append (λ (e : Entry). NamesThere S.start e.event) journal (entered n (entry_of S a)) had.law says;
    blocked = blocked;
    spare = spare;
    states = states;
  }

  same_states : (c : Control) (a : Change) → ((v : ℕ) → state_of (put S a c) v ≡ state_of c v) → StatesAre c
      → StatesAre (put S a c)
  same_states c a same had v other = had v (λ is. other (same v ∙ is))

  fault : (c : Control) (d : ℕ) → MayFail S c d → NamesSo S c journal → After c (DiskFails d)
  fault c d may had =
      so c (DiskFails d) (may.there, tt) (blocked (expects S (fault_base c.round) d))
      (dropped_there S.start.disks.count d c.round.phase had.spare)
      (same_states c (DiskFails d) (state_without S d (round_without S d c.round) 0 c.volumes) had.states) had
    where
      blocked : (b : Bool) → BlockedAre (blocked_with b d c.round.blocked)
      blocked true e is = elim (or_cases (d == e) (has e c.round.blocked) is) [
        | inl here ↦
            let same : d ≡ e = grind (arith, nat_tests, here) in
            subst (λ k. k < S.start.disks.count) same may.there
        | inr later ↦ had.blocked e later
      ]
      blocked false e is = had.blocked e is

  goes : (c : Control) (w : ℕ) (word : StateWord) → S.start.is_started w ≡ true → NamesSo S c journal
      → After c (StateGoes w word)
  goes c w word started had = so c (StateGoes w word) (says word) had.blocked had.spare states had
    where
      says : (word : StateWord) → Says (StateGoes w word)
      says ToReady = (started, tt)
      says ToPending = (started, tt)
      says ToActive = (started, tt)
      says ToActiveAgain = tt
      says ToIdle = (started, tt)
      says ToClean = (started, tt)

      states : StatesAre (put S (StateGoes w word) c)
      states v other =
          elim (set_at c.volumes w (record (volume_at c.volumes w) { state = state_after word }) v) [
            | inl here ↦ subst (λ u. S.start.is_started u ≡ true) here.0 started
            | inr there ↦ had.states v (λ is. other (ap (λ (x : Volume). x.state) there ∙ is))
          ]

  moves : (c : Control) (w : ℕ) (slots : List Slot) (new : Option Pass) (word : PassWord)
      → Says (PassMoves w slots new word) → NamesSo S c journal → After c (PassMoves w slots new word)
  moves c w slots new word says had =
      so c (PassMoves w slots new word) says had.blocked had.spare
      (same_states c (PassMoves w slots new word) (state_with_pass c.volumes w slots new) had.states) had

  move_says : (t : InTurn) (c : Control) (v : ℕ) (slots : List Slot) (new : Option Pass) (word : PassWord) → Ready S c
      → PassMove S t c v slots new word → Says (PassMoves v slots new word)
  move_says t c v _ _ _ ready (opens kind started was is has) = (ready.started v started, tt)
  move_says t c v _ _ _ ready (seats now started other) = (ready.started v started, tt)
  move_says t c v _ _ _ ready (reaches was is now started before after above) = (ready.started v started, tt)
  move_says t c v _ _ _ ready (closes was now started before after) = (ready.started v started, tt)
  move_says t c v _ _ _ ready (comes_to_its_end p going over) = tt
  move_says t c v _ _ _ ready (loses d p need what stored call is) = tt

  comes : (t : InTurn) (c : Control) (a : Change) → Comes S t c a → Ready S c → NamesSo S c journal → After c a
  comes t c a (begins m life rest target next) ready had =
      so c a (tt, tt) had.blocked (on_there S.start.disks.count OfRound m _ _ false tt) had.states had
  comes t c a (begins_spare d m life rest target may is listed large) ready had =
      so c a tt had.blocked (on_there S.start.disks.count (OfSpare d) m (d ∷ []) [] false may.there) had.states had
  comes t c a (ends m step is) ready had = so c a (tt, tt) had.blocked tt had.states had
  comes t c a (ends_spare d m step is) ready had =
      let there = subst (SpareIsThere S.start.disks.count) is had.spare in
      so c a (there, tt) had.blocked tt had.states had
  comes t c a (lapses aim m step late is) ready had = so c a tt had.blocked tt had.states had
  comes t c _ (fails d who may) ready had = fault c d may had
  comes t c a (unblocks d rest blocked ended unexpected) ready had =
      so c a (had.blocked d blocked, tt) (λ e is. had.blocked e (fewer e d c.round.blocked is)) had.spare had.states had
  comes t c _ (readies v started state rest ended) ready had = goes c v ToReady (ready.started v started) had
  comes t c _ (pends v sound state has_one) ready had = goes c v ToPending (had.states v (at state)) had
    where
      at : (state_of c v ≡ IsReadAuto) ⊎ (state_of c v ≡ IsClean) → state_of c v ≡ IsReadonly → ⊥
      at (inl is) readonly = cc (is, readonly)
      at (inr is) readonly = cc (is, readonly)
  comes t c _ (activates v runs state rest ended dirty) ready had =
      goes c v ToActive (ready.started v runs.started) had
  comes t c _ (again v sound state has_one) ready had =
      goes c v ToActiveAgain (had.states v (λ readonly. cc (state, readonly))) had
  comes t c _ (idles v who runs state none) ready had = goes c v ToIdle (ready.started v runs.started) had
  comes t c _ (cleans v runs state rest) ready had = goes c v ToClean (ready.started v runs.started) had
  comes t c _ (client k new word move) ready had =
      so c (ClientMoves k new word) (client_says word) had.blocked had.spare had.states had
    where
      client_says : (word : ClientWord) → Says (ClientMoves k new word)
      client_says IsSilent = tt
      client_says (Submits i) = (tt, tt)
      client_says (Acknowledges i answer) = (tt, tt)
  comes t c _ (pass v slots new word move) ready had =
      moves c v slots new word (move_says t c v slots new word ready move) had
  comes t c _ (manages new word move) ready had =
      so c (ManagerMoves new word) (update_says word) had.blocked had.spare had.states had
    where
      update_says : (word : UpdateWord) → Says (ManagerMoves new word)
      update_says SaysNothing = tt
      update_says (Posts u) = (tt, tt)
      update_says (Applies u) = (tt, tt)
      update_says (Declines u kind) = (tt, tt)
  comes t c a (kills who awake) ready had = so c a (tt, tt) had.blocked tt had.states had
  comes t c a (takes_over who life) ready had = so c a (tt, tt) had.blocked had.spare had.states had
  comes t c a (resumes d taking young) ready had = so c a tt had.blocked tt had.states had
  comes t c a (dies taking) ready had = so c a tt had.blocked had.spare had.states had

  rows : (c : Control) (d : ℕ) (what : What) (x : Ended) (a : Change) → AtRows S c d what x a → NamesSo S c journal
      → After c a
  rows c d _ _ a (by_client k i r need what x call) had = so c a tt had.blocked had.spare had.states had
  rows c d _ _ _ (by_pass v p need what x call) had =
      moves c v (slots_of c v) (Some (pass_after S c v p need x)) GoesOnQuietly tt had
  rows c d _ _ _ (by_monitor left seen found x life) had = at (has_all S (seen ++ x.got ∷ []))
    where
      at : (all : Bool) → After c (after_read S c d left (seen ++ x.got ∷ []) found all)
      at true = so c (after_read S c d left (seen ++ x.got ∷ []) found true) tt had.blocked had.spare had.states had
      at false = so c (after_read S c d left (seen ++ x.got ∷ []) found false) tt had.blocked had.spare had.states had

  names_effect : (t : InTurn) (c : Control) (call : Option Call) (x : Ended) (a : Change) → Effect S t c call x a
      → Ready S c → NamesSo S c journal → After c a
  names_effect t c _ _ _ (quiet x a come) ready had = comes t c a come ready had
  names_effect t c _ _ _ (row d what x a may ok went why) ready had = rows c d what x a why had
  names_effect t c _ _ _ (row_fails d what x may ok failed lost) ready had = fault c d may had
  names_effect t c _ _ _ (steps d m step x at went) ready had =
      so c StepsOn tt had.blocked (stepped_there S.start.disks.count c.round.phase had.spare) had.states had
  names_effect t c _ _ _ (step_fails d m step x at failed) ready had = fault c d at.may had

-- RUNS

module _ (S : Setting) (P : Premises S) (volumes : List Volume) (spares : List ℕ) (o : Opening S P volumes spares) where
  abbrev Q : InTurn → World → Type 0
  Q t w = NamesSo S w.control w.journal

  follows : FollowsBase S P volumes spares Q
  follows = record {
    opens = λ who. record {
      law = tt;
      blocked = λ d is. absurd cc;
      spare = tt;
      states = λ v other. absurd (other ((o.volumes_are v).state));
    };
    begins = λ t w who had. had;
    step = λ t w call x a over had.
        names_effect S (calls_after w.calls call) w.journal t w.control call x a over.effect over.ready had;
  }

  pub names_in_each : (w : World) → Reached S volumes spares w → NamesWhatIsThere S.start w.journal
  names_in_each w run = (along_base S P volumes spares o Q follows w run).1.law
