-- What the journal tells of the control state is kept by each effect.
use Rattle.std.proofs.Common.{◌≡◌, ℕ, zero, suc, ◌+◌, ◌==◌, ◌||◌, ◌&&◌, Bool, true, false, List, [], ◌∷◌, ◌++◌, refl, ap, sym, ◌∙◌, subst, arith, Option, Some, None, ◌⊎◌, inl, inr, slice_set, cond}
use Rattle.std.proofs.lemmas.Bool.Decides.{nat_tests}
use Rattle.device_log.specs.Log.{Call}
use Rattle.array_model.specs.declared.journal.Entry.{Entry}
use Rattle.array_model.specs.Events.{has as has_event, is_fault, is_faulty, is_live, live_at, live_from}
use Rattle.array_model.specs.Rounds.{ended, ended_from, ended_at}
use Rattle.array_model.proofs.Journals.{has-append}
use Rattle.array_machine.specs.Setting.{Setting}
use Rattle.array_machine.specs.Numbers.{has}
use Rattle.array_machine.specs.States.{State, StateWord, ToReady, ToPending, ToActive, ToActiveAgain, ToIdle, ToClean, state_after, is_live as is_live_state, IsReadonly, IsIdle, IsActive}
use Rattle.array_machine.specs.Volumes.{Slot, Pass, Volume, volume_at, has_disk}
use Rattle.array_machine.specs.Rounds.{Round}
use Rattle.array_machine.specs.Faults.{round_without, volumes_without, volume_lost, breaks}
use Rattle.array_machine.specs.Control.{Control}
use Rattle.array_machine.specs.Changes.{Change, StepsOn, RoundBegins, SpareBegins, RoundEnds, SpareEnds, RoundLapses, DiskFails, DiskUnblocks, StateGoes, ClientMoves, PassMoves, ManagerMoves, MonitorKilled, TakeoverStarts, TakeoverReads, MonitorResumes, MonitorDies, IsSilent, Submits, Acknowledges, GoesOnQuietly, OpensAt, Reaches, Closes, SaysNothing, Posts, Applies, Declines, entry_of}
use Rattle.array_machine.specs.Puts.{put, set_state, set_pass}
use Rattle.array_machine.specs.Machine.{entered, begins_at}
use Rattle.device_log.specs.Log.{What}
use Rattle.array_machine.specs.States.{IsPending, IsReadAuto, IsClean}
use Rattle.array_machine.specs.Rounds.{Ended}
use Rattle.array_machine.specs.TakeoverTurns.{has_all}
use Rattle.array_paths.specs.InTurn.{InTurn}
use Rattle.array_paths.specs.Comes.{Comes, begins, begins_spare, ends, ends_spare, lapses, fails, unblocks, readies, pends, activates, again, idles, cleans, client, pass, manages, kills, takes_over, resumes, dies}
use Rattle.array_paths.specs.AtRows.{AtRows, by_client, by_pass, by_monitor, after_read}
use Rattle.array_paths.specs.Effects.{Effect, quiet, row, row_fails, steps, step_fails}
use Rattle.array_told.specs.Told.{finished_generation, Tells, MayFollow, StateFollows}

-- LONGER JOURNALS

ended_more : (last : Option ℕ) (xs ys : List Entry) → ended_from last (xs ++ ys) ≡ ended_from (ended_from last xs) ys
ended_more last [] ys = refl
ended_more last (x ∷ xs) ys = ended_more (ended_at last x.event) xs ys

live_more : (v : ℕ) (live : Bool) (xs ys : List Entry) → live_from v live (xs ++ ys) ≡ live_from v
    (live_from v live xs) ys
live_more v live [] ys = refl
live_more v live (x ∷ xs) ys = live_more v (live_at v live x.event) xs ys

-- STATES

abbrev state_at : List Volume → ℕ → State
state_at volumes v = (volume_at volumes v).state

-- a disk's failure writes to no array state
pub state_without : (S : Setting) (d : ℕ) (r : Round) (n : ℕ) (volumes : List Volume) (v : ℕ)
    → (volume_at (volumes_without S d r n volumes) v).state ≡ (volume_at volumes v).state
state_without S d r n [] v = refl
state_without S d r n (x ∷ xs) zero = at (x.started && has_disk d x.slots)
  where
    at : (b : Bool) → (cond b (volume_lost S d n (x.broken || breaks S r n x.slots) x) x).state ≡ x.state
    at true = refl
    at false = refl
state_without S d r n (x ∷ xs) (suc v) = state_without S d r (n + 1) xs v

-- a volume that is set in the list, or another one
pub set_at : (volumes : List Volume) (w : ℕ) (x : Volume) (v : ℕ)
    → ((w ≡ v) × (volume_at (slice_set volumes w x) v ≡ x)) ⊎
    (volume_at (slice_set volumes w x) v ≡ volume_at volumes v)
set_at [] w x v = inr refl
set_at (y ∷ ys) zero x zero = inl (refl, refl)
set_at (y ∷ ys) zero x (suc v) = inr refl
set_at (y ∷ ys) (suc w) x zero = inr refl
set_at (y ∷ ys) (suc w) x (suc v) = elim (set_at ys w x v) [
  | inl here ↦ inl (ap suc here.0, here.1)
  | inr there ↦ inr there
]

set_state_at : (volumes : List Volume) (w : ℕ) (state : State) (v : ℕ)
    → ((w ≡ v) × ((volume_at (set_state volumes w state) v).state ≡ state))
    ⊎ ((volume_at (set_state volumes w state) v).state ≡ (volume_at volumes v).state)
set_state_at volumes w state v = elim (set_at volumes w (record (volume_at volumes w) { state = state }) v) [
  | inl here ↦ inl (here.0, ap (λ (x : Volume). x.state) here.1)
  | inr there ↦ inr (ap (λ (x : Volume). x.state) there)
]

pub state_with_pass : (volumes : List Volume) (w : ℕ) (slots : List Slot) (moved : Option Pass) (v : ℕ)
    → (volume_at (set_pass volumes w slots moved) v).state ≡ (volume_at volumes v).state
state_with_pass volumes w slots moved v =
    elim (set_at volumes w (record (volume_at volumes w) { slots = slots; pass = moved }) v) [
      | inl here ↦ ap (λ (x : Volume). x.state) here.1 ∙ ap (state_at volumes) here.0
      | inr there ↦ ap (λ (x : Volume). x.state) there
    ]

-- the volume that is set has the state, or isn't there
set_state_there : (volumes : List Volume) (w : ℕ) (state : State) (v : ℕ) → w ≡ v
    → ((volume_at (set_state volumes w state) v).state ≡ state)
    ⊎ ((volume_at (set_state volumes w state) v).state ≡ IsReadonly)
set_state_there volumes w state v same = subst (λ z. ((volume_at (set_state volumes w state) z).state ≡ state)
    ⊎ ((volume_at (set_state volumes w state) z).state ≡ IsReadonly)) same (at volumes w
    (record (volume_at volumes w) { state = state }) refl)
  where
    at : (vs : List Volume) (k : ℕ) (x : Volume) → x.state ≡ state
        → ((volume_at (slice_set vs k x) k).state ≡ state) ⊎ ((volume_at (slice_set vs k x) k).state ≡ IsReadonly)
    at [] k x is = inr refl
    at (y ∷ ys) zero x is = inl is
    at (y ∷ ys) (suc k) x is = at ys k x is

-- a word that isn't live leaves no volume live that wasn't, itself aside
module _ (volumes : List Volume) where
  abbrev is_live_at : List Volume → ℕ → Bool
  is_live_at vs v = is_live_state (volume_at vs v).state

  goes_dead : (w : ℕ) (state : State) (v : ℕ) (live : Bool) → is_live_state state ≡ false → live ≡ is_live_at volumes v
      → cond (w == v) false live ≡ is_live_at (set_state volumes w state) v
  goes_dead w state v live dead was = at (w == v) refl (set_state_at volumes w state v)
    where
      at : (b : Bool) → (w == v) ≡ b → ((w ≡ v) × ((volume_at (set_state volumes w state) v).state ≡ state))
          ⊎ ((volume_at (set_state volumes w state) v).state ≡ (volume_at volumes v).state)
          → cond b false live ≡ is_live_at (set_state volumes w state) v
      at true is (inl here) = sym (ap is_live_state here.1 ∙ dead)
      at true is (inr same) = out_of (set_state_there volumes w state v (grind (arith, nat_tests, is)))
        where
          out_of : ((volume_at (set_state volumes w state) v).state ≡ state)
              ⊎ ((volume_at (set_state volumes w state) v).state ≡ IsReadonly)
              → false ≡ is_live_at (set_state volumes w state) v
          out_of (inl h) = sym (ap is_live_state h ∙ dead)
          out_of (inr h) = sym (ap is_live_state h)
      at false is (inl here) = absurd (let same = here.0 in grind (arith, nat_tests, same, is))
      at false is (inr same) = was ∙ ap is_live_state (sym same)

  -- a word that is live comes where the volume was live, or where it is there
  stays_live : (w : ℕ) (state : State) (v : ℕ) → is_live_state state ≡ true → is_live_at volumes w ≡ true
      → is_live_at volumes v ≡ is_live_at (set_state volumes w state) v
  stays_live w state v live was = at (set_state_at volumes w state v)
    where
      at : ((w ≡ v) × ((volume_at (set_state volumes w state) v).state ≡ state))
          ⊎ ((volume_at (set_state volumes w state) v).state ≡ (volume_at volumes v).state)
          → is_live_at volumes v ≡ is_live_at (set_state volumes w state) v
      at (inl here) = sym (ap (is_live_at volumes) here.0) ∙ was ∙ sym live ∙ sym (ap is_live_state here.1)
      at (inr same) = ap is_live_state (sym same)

  becomes_live : (w : ℕ) (state : State) (v : ℕ) (live : Bool) → is_live_state state ≡ true
      → ((volume_at volumes w).state ≡ IsReadonly → ⊥) → live ≡ is_live_at volumes v
      → cond (w == v) true live ≡ is_live_at (set_state volumes w state) v
  becomes_live w state v live lives there was = at (w == v) refl (set_state_at volumes w state v)
    where
      at : (b : Bool) → (w == v) ≡ b → ((w ≡ v) × ((volume_at (set_state volumes w state) v).state ≡ state))
          ⊎ ((volume_at (set_state volumes w state) v).state ≡ (volume_at volumes v).state)
          → cond b true live ≡ is_live_at (set_state volumes w state) v
      at true is (inl here) = sym (ap is_live_state here.1 ∙ lives)
      at true is (inr same) = set (set_state_there volumes w state v (grind (arith, nat_tests, is)))
        where
          set : ((volume_at (set_state volumes w state) v).state ≡ state)
              ⊎ ((volume_at (set_state volumes w state) v).state ≡ IsReadonly)
              → true ≡ is_live_at (set_state volumes w state) v
          set (inl h) = sym (ap is_live_state h ∙ lives)
          set (inr h) =
              absurd (there (let e : w ≡ v = grind (arith, nat_tests, is) in ap (state_at volumes) e ∙ sym same ∙ h))
      at false is (inl here) = absurd (let same = here.0 in grind (arith, nat_tests, same, is))
      at false is (inr same) = was ∙ ap is_live_state (sym same)

-- ONE CHANGE

or_later : (a b : Bool) → (a || (b || false)) ≡ (b || a)
or_later true true = refl
or_later true false = refl
or_later false true = refl
or_later false false = refl

module _ (S : Setting) where
  -- an entry that tells nothing of this, with a control state that stays
  tells_same : (c c' : Control) (new : List Entry) (journal : List Entry) → c'.round.first ≡ c.round.first
      → c'.round.last ≡ c.round.last → c'.round.faults ≡ c.round.faults
      → ((v : ℕ) → (volume_at c'.volumes v).state ≡ (volume_at c.volumes v).state)
      → ((last : Option ℕ) → ended_from last new ≡ last) → ((d : ℕ) → is_faulty d new ≡ false)
      → ((v : ℕ) (live : Bool) → live_from v live new ≡ live) → Tells S c journal → Tells S c' (journal ++ new)
  tells_same c c' new journal first last faults states no_end no_fault no_word t = record {
    ends = ended_more None journal new ∙ no_end (ended journal) ∙ t.ends
        ∙ ap (λ f. finished_generation S f c.round) (sym first) ∙ generation c'.round.first;
    faults = λ d. has-append (is_fault d) journal new ∙ ap (λ b. has_event (is_fault d) journal || b) (no_fault d)
        ∙ or_false (is_faulty d journal) ∙ t.faults d ∙ ap (has d) (sym faults);
    lives = λ v. live_more v false journal new ∙ no_word v (is_live v journal) ∙ t.lives v ∙ ap is_live_state
        (sym (states v));
  }
    where
      or_false : (b : Bool) → (b || false) ≡ b
      or_false true = refl
      or_false false = refl

      generation : (f : Bool) → finished_generation S f c.round ≡ finished_generation S f c'.round
      generation true = refl
      generation false = ap (λ m. Some (S.start.words.generation m.anchor)) (sym last)

  tells_state : (c : Control) (w : ℕ) (word : StateWord) (n : ℕ) (journal : List Entry) → MayFollow
      (state_at c.volumes w) word
      → Tells S c journal → (v : ℕ)
      → is_live v (journal ++ entered n (entry_of S (StateGoes w word))) ≡ is_live_state
      (volume_at (set_state c.volumes w (state_after word)) v).state
  tells_state c w ToReady n journal may t v =
      live_more v false journal (entered n (entry_of S (StateGoes w ToReady))) ∙ goes_dead c.volumes w IsReadAuto v
      (is_live v journal) refl (t.lives v)
  tells_state c w ToPending n journal may t v =
      live_more v false journal (entered n (entry_of S (StateGoes w ToPending))) ∙ goes_dead c.volumes w IsPending v
      (is_live v journal) refl (t.lives v)
  tells_state c w ToClean n journal may t v =
      live_more v false journal (entered n (entry_of S (StateGoes w ToClean))) ∙ goes_dead c.volumes w IsClean v
      (is_live v journal) refl (t.lives v)
  tells_state c w ToActive n journal may t v = live_more v false journal (entered n (entry_of S (StateGoes w ToActive)))
      ∙ becomes_live c.volumes w IsActive v (is_live v journal) refl (λ h. let no = sym may ∙ h in absurd cc)
      (t.lives v)
  tells_state c w ToActiveAgain n journal may t v =
      live_more v false journal [] ∙ t.lives v ∙ stays_live c.volumes w IsActive v refl (ap is_live_state may)
  tells_state c w ToIdle n journal may t v =
      live_more v false journal (entered n (entry_of S (StateGoes w ToIdle))) ∙ t.lives v ∙ stays_live c.volumes w
      IsIdle v refl (ap is_live_state may)

  tells_word : (c : Control) (w : ℕ) (word : StateWord) (n : ℕ) (journal : List Entry) → MayFollow
      (state_at c.volumes w) word
      → Tells S c journal → Tells S (put S (StateGoes w word) c) (journal ++ entered n (entry_of S (StateGoes w word)))
  tells_word c w word n journal may t = record {
    ends = ended_more None journal (entered n (entry_of S (StateGoes w word))) ∙ no_end word (ended journal) ∙ t.ends;
    faults = λ d. has-append (is_fault d) journal (entered n (entry_of S (StateGoes w word)))
        ∙ ap (λ b. is_faulty d journal || b) (no_fault d word) ∙ or_none (is_faulty d journal) ∙ t.faults d;
    lives = tells_state c w word n journal may t;
  }
    where
      or_none : (b : Bool) → (b || false) ≡ b
      or_none true = refl
      or_none false = refl

      no_end : (x : StateWord) (last : Option ℕ) → ended_from last (entered n (entry_of S (StateGoes w x))) ≡ last
      no_end ToReady last = refl
      no_end ToPending last = refl
      no_end ToActive last = refl
      no_end ToActiveAgain last = refl
      no_end ToIdle last = refl
      no_end ToClean last = refl

      no_fault : (d : ℕ) (x : StateWord) → is_faulty d (entered n (entry_of S (StateGoes w x))) ≡ false
      no_fault d ToReady = refl
      no_fault d ToPending = refl
      no_fault d ToActive = refl
      no_fault d ToActiveAgain = refl
      no_fault d ToIdle = refl
      no_fault d ToClean = refl

  pub tells_change : (c : Control) (a : Change) → StateFollows c a → (n : ℕ) (journal : List Entry) → Tells S c journal
      → Tells S (put S a c) (journal ++ entered n (entry_of S a))
  tells_change c (DiskFails d) f n journal t = record {
    ends = ended_more None journal (entered n (entry_of S (DiskFails d))) ∙ t.ends ∙ generation c.round.first;
    faults = λ e. has-append (is_fault e) journal (entered n (entry_of S (DiskFails d)))
        ∙ or_later (is_faulty e journal) (d == e) ∙ ap (λ b. (d == e) || b) (t.faults e);
    lives = λ v. live_more v false journal (entered n (entry_of S (DiskFails d))) ∙ t.lives v
        ∙ ap is_live_state (sym (state_without S d (round_without S d c.round) 0 c.volumes v));
  }
    where
      generation : (b : Bool) → finished_generation S b c.round ≡ finished_generation S b (round_without S d c.round)
      generation true = refl
      generation false = refl
  tells_change c (RoundEnds m) f n journal t = record {
    ends = ended_more None journal (entered n (entry_of S (RoundEnds m)));
    faults =
        λ d. has-append (is_fault d) journal (entered n (entry_of S (RoundEnds m))) ∙ or_none (is_faulty d journal) ∙
        t.faults d;
    lives = λ v. live_more v false journal (entered n (entry_of S (RoundEnds m))) ∙ t.lives v;
  }
    where
      or_none : (b : Bool) → (b || false) ≡ b
      or_none true = refl
      or_none false = refl
  tells_change c (StateGoes w ToReady) f n journal t = tells_word c w ToReady n journal f t
  tells_change c (StateGoes w ToPending) f n journal t = tells_word c w ToPending n journal f t
  tells_change c (StateGoes w ToActive) f n journal t = tells_word c w ToActive n journal f t
  tells_change c (StateGoes w ToActiveAgain) f n journal t = tells_word c w ToActiveAgain n journal f t
  tells_change c (StateGoes w ToIdle) f n journal t = tells_word c w ToIdle n journal f t
  tells_change c (StateGoes w ToClean) f n journal t = tells_word c w ToClean n journal f t
  tells_change c (PassMoves w slots moved GoesOnQuietly) f n journal t =
      tells_same c (put S (PassMoves w slots moved GoesOnQuietly) c)
      (entered n (entry_of S (PassMoves w slots moved GoesOnQuietly))) journal
      refl refl refl (state_with_pass c.volumes w slots moved) (λ last. refl) (λ d. refl) (λ v live. refl) t
  tells_change c (PassMoves w slots moved (OpensAt first)) f n journal t =
      tells_same c (put S (PassMoves w slots moved (OpensAt first)) c)
      (entered n (entry_of S (PassMoves w slots moved (OpensAt first)))) journal
      refl refl refl (state_with_pass c.volumes w slots moved) (λ last. refl) (λ d. refl) (λ v live. refl) t
  tells_change c (PassMoves w slots moved (Reaches unit)) f n journal t =
      tells_same c (put S (PassMoves w slots moved (Reaches unit)) c)
      (entered n (entry_of S (PassMoves w slots moved (Reaches unit)))) journal
      refl refl refl (state_with_pass c.volumes w slots moved) (λ last. refl) (λ d. refl) (λ v live. refl) t
  tells_change c (PassMoves w slots moved Closes) f n journal t =
      tells_same c (put S (PassMoves w slots moved Closes) c)
      (entered n (entry_of S (PassMoves w slots moved Closes))) journal
      refl refl refl (state_with_pass c.volumes w slots moved) (λ last. refl) (λ d. refl) (λ v live. refl) t
  tells_change c StepsOn f n journal t =
      tells_same c (put S StepsOn c) (entered n (entry_of S StepsOn)) journal
      refl refl refl (λ v. refl) (λ last. refl) (λ d. refl) (λ v live. refl) t
  tells_change c (SpareBegins d m) f n journal t =
      tells_same c (put S (SpareBegins d m) c) (entered n (entry_of S (SpareBegins d m))) journal
      refl refl refl (λ v. refl) (λ last. refl) (λ d. refl) (λ v live. refl) t
  tells_change c RoundLapses f n journal t =
      tells_same c (put S RoundLapses c) (entered n (entry_of S RoundLapses)) journal
      refl refl refl (λ v. refl) (λ last. refl) (λ d. refl) (λ v live. refl) t
  tells_change c (TakeoverReads left seen found) f n journal t =
      tells_same c (put S (TakeoverReads left seen found) c) (entered n (entry_of S (TakeoverReads left seen found)))
      journal
      refl refl refl (λ v. refl) (λ last. refl) (λ d. refl) (λ v live. refl) t
  tells_change c (MonitorResumes d) f n journal t =
      tells_same c (put S (MonitorResumes d) c) (entered n (entry_of S (MonitorResumes d))) journal
      refl refl refl (λ v. refl) (λ last. refl) (λ d. refl) (λ v live. refl) t
  tells_change c MonitorDies f n journal t =
      tells_same c (put S MonitorDies c) (entered n (entry_of S MonitorDies)) journal
      refl refl refl (λ v. refl) (λ last. refl) (λ d. refl) (λ v live. refl) t
  tells_change c (ClientMoves k moved IsSilent) f n journal t =
      tells_same c (put S (ClientMoves k moved IsSilent) c) (entered n (entry_of S (ClientMoves k moved IsSilent)))
      journal
      refl refl refl (λ v. refl) (λ last. refl) (λ d. refl) (λ v live. refl) t
  tells_change c (ManagerMoves moved SaysNothing) f n journal t =
      tells_same c (put S (ManagerMoves moved SaysNothing) c)
      (entered n (entry_of S (ManagerMoves moved SaysNothing))) journal
      refl refl refl (λ v. refl) (λ last. refl) (λ d. refl) (λ v live. refl) t
  tells_change c (RoundBegins m) f n journal t =
      tells_same c (put S (RoundBegins m) c) (entered n (entry_of S (RoundBegins m))) journal
      refl refl refl (λ v. refl) (λ last. refl) (λ d. refl) (λ v live. refl) t
  tells_change c (SpareEnds d) f n journal t =
      tells_same c (put S (SpareEnds d) c) (entered n (entry_of S (SpareEnds d))) journal
      refl refl refl (λ v. refl) (λ last. refl) (λ d. refl) (λ v live. refl) t
  tells_change c (DiskUnblocks d) f n journal t =
      tells_same c (put S (DiskUnblocks d) c) (entered n (entry_of S (DiskUnblocks d))) journal
      refl refl refl (λ v. refl) (λ last. refl) (λ d. refl) (λ v live. refl) t
  tells_change c (ClientMoves k moved (Submits i)) f n journal t =
      tells_same c (put S (ClientMoves k moved (Submits i)) c)
      (entered n (entry_of S (ClientMoves k moved (Submits i)))) journal
      refl refl refl (λ v. refl) (λ last. refl) (λ d. refl) (λ v live. refl) t
  tells_change c (ClientMoves k moved (Acknowledges i answer)) f n journal t =
      tells_same c (put S (ClientMoves k moved (Acknowledges i answer)) c)
      (entered n (entry_of S (ClientMoves k moved (Acknowledges i answer)))) journal
      refl refl refl (λ v. refl) (λ last. refl) (λ d. refl) (λ v live. refl) t
  tells_change c (ManagerMoves moved (Posts u)) f n journal t =
      tells_same c (put S (ManagerMoves moved (Posts u)) c) (entered n (entry_of S (ManagerMoves moved (Posts u))))
      journal
      refl refl refl (λ v. refl) (λ last. refl) (λ d. refl) (λ v live. refl) t
  tells_change c (ManagerMoves moved (Applies u)) f n journal t =
      tells_same c (put S (ManagerMoves moved (Applies u)) c)
      (entered n (entry_of S (ManagerMoves moved (Applies u)))) journal
      refl refl refl (λ v. refl) (λ last. refl) (λ d. refl) (λ v live. refl) t
  tells_change c (ManagerMoves moved (Declines u kind)) f n journal t =
      tells_same c (put S (ManagerMoves moved (Declines u kind)) c)
      (entered n (entry_of S (ManagerMoves moved (Declines u kind)))) journal
      refl refl refl (λ v. refl) (λ last. refl) (λ d. refl) (λ v live. refl) t
  tells_change c MonitorKilled f n journal t =
      tells_same c (put S MonitorKilled c) (entered n (entry_of S MonitorKilled)) journal
      refl refl refl (λ v. refl) (λ last. refl) (λ d. refl) (λ v live. refl) t
  tells_change c (TakeoverStarts left) f n journal t =
      tells_same c (put S (TakeoverStarts left) c) (entered n (entry_of S (TakeoverStarts left))) journal
      refl refl refl (λ v. refl) (λ last. refl) (λ d. refl) (λ v live. refl) t

  -- EFFECTS

  at_rows_follows : (c : Control) (d : ℕ) (what : What) (x : Ended) (a : Change) → AtRows S c d what x a →
      StateFollows c a
  at_rows_follows c d _ _ _ (by_client k i r need what x call) = tt
  at_rows_follows c d _ _ _ (by_pass v p need what x call) = tt
  at_rows_follows c d _ _ _ (by_monitor left seen found x life) = at (has_all S (seen ++ x.got ∷ []))
    where
      at : (b : Bool) → StateFollows c (after_read S c d left (seen ++ x.got ∷ []) found b)
      at true = tt
      at false = tt

  coming_follows : (t : InTurn) (c : Control) (a : Change) → Comes S t c a → StateFollows c a
  coming_follows t c _ (activates v runs state rest ended dirty) = state
  coming_follows t c _ (again v sound state has) = state
  coming_follows t c _ (idles v who runs state none) = state
  coming_follows t c _ (client k new word move) = tt
  coming_follows t c _ (begins m life rest target next) = tt
  coming_follows t c _ (begins_spare d m life rest target may is listed large) = tt
  coming_follows t c _ (ends m step is) = tt
  coming_follows t c _ (ends_spare d m step is) = tt
  coming_follows t c _ (lapses aim m step late is) = tt
  coming_follows t c _ (fails d who may) = tt
  coming_follows t c _ (unblocks d rest blocked ended told) = tt
  coming_follows t c _ (readies v started state rest ended) = tt
  coming_follows t c _ (pends v sound state has) = tt
  coming_follows t c _ (cleans v runs state rest) = tt
  coming_follows t c _ (pass v slots new word move) = tt
  coming_follows t c _ (manages new word move) = tt
  coming_follows t c _ (kills who awake) = tt
  coming_follows t c _ (takes_over who killed) = tt
  coming_follows t c _ (resumes d taking high) = tt
  coming_follows t c _ (dies taking) = tt

  follows_of : (t : InTurn) (c : Control) (call : Option Call) (x : Ended) (a : Change) → Effect S t c call x a
      → StateFollows c a
  follows_of t c _ _ _ (quiet x a comes) = coming_follows t c a comes
  follows_of t c _ _ _ (row d what x a may call went why) = at_rows_follows c d what x a why
  follows_of t c _ _ _ (row_fails d what x may call failed lost) = tt
  follows_of t c _ _ _ (steps d m step x at went) = tt
  follows_of t c _ _ _ (step_fails d m step x at failed) = tt

  pub tells_effect : (t : InTurn) (c : Control) (call : Option Call) (x : Ended) (a : Change) → Effect S t c call x a
      → (n : ℕ) (journal : List Entry) → Tells S c journal → Tells S (put S a c) (journal ++ entered n (entry_of S a))
  tells_effect t c call x a e n journal told = tells_change c a (follows_of t c call x a e) n journal told

  -- when a run begins
  pub tells_open : (volumes : List Volume) (spares : List ℕ) → ((v : ℕ) → (volume_at volumes v).state ≡ IsReadonly)
      → Tells S (begins_at S volumes spares).control (begins_at S volumes spares).journal
  tells_open volumes spares shut = record {
    ends = refl;
    faults = λ d. refl;
    lives = λ v. sym (ap is_live_state (shut v));
  }
