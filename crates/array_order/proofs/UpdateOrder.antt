-- Each effect keeps the order of updates.
use Rattle.std.proofs.Common.{◌≡◌, ℕ, suc, ◌+◌, ◌<◌, ◌≤◌, Bool, true, false, List, [], ◌∷◌, ◌++◌, length, refl, ap, sym, ◌∙◌, subst, arith, Option}
use Rattle.std.specs.Prelude.{⊤}
use Rattle.std.proofs.lemmas.List.{length-append}
use Rattle.device_log.specs.Log.{Call, What}
use Rattle.array_model.specs.declared.journal.Entry.{Entry}
use Rattle.array_model.specs.declared.journal.Event.{Event}
use Rattle.array_model.specs.declared.journal.Event.TheVariants.{Posted, Applied, Declined}
use Rattle.array_model.specs.Events.{AtEachFrom, count, is_posted, is_settled}
use Rattle.array_model.proofs.Journals.{at_each_more, count-append}
use Rattle.array_machine.specs.Setting.{Setting}
use Rattle.array_machine.specs.States.{ToReady, ToPending, ToActive, ToActiveAgain, ToIdle, ToClean}
use Rattle.array_machine.specs.Managers.{Update, Manager}
use Rattle.array_machine.specs.Rounds.{Ended}
use Rattle.array_machine.specs.Control.{Control}
use Rattle.array_machine.specs.TakeoverTurns.{has_all}
use Rattle.array_machine.specs.Changes.{Change, StepsOn, RoundBegins, SpareBegins, RoundEnds, SpareEnds, RoundLapses, DiskFails, DiskUnblocks, StateGoes, ClientMoves, PassMoves, ManagerMoves, MonitorKilled, TakeoverStarts, TakeoverReads, MonitorResumes, MonitorDies, IsSilent, Submits, Acknowledges, GoesOnQuietly, OpensAt, Reaches, Closes, UpdateWord, SaysNothing, Posts, Applies, Declines, update_entry, entry_of}
use Rattle.array_machine.specs.Puts.{put, put_manager}
use Rattle.array_machine.specs.Machine.{entered}
use Rattle.array_paths.specs.InTurn.{InTurn}
use Rattle.array_paths.specs.Comes.{Comes, begins, begins_spare, ends, ends_spare, lapses, fails, unblocks, readies, pends, activates, again, idles, cleans, client, pass, manages, kills, takes_over, resumes, dies, ManagerMove, IsTaken}
use Rattle.array_paths.specs.AtRows.{AtRows, by_client, by_pass, by_monitor, after_read}
use Rattle.array_paths.specs.Effects.{Effect, quiet, row, row_fails, steps, step_fails}
use Rattle.array_order.specs.UpdateOrder.{ComesNext, UpdatesInOrder, AreNumbered}

-- what a journal says of updates, and what is on its way
pub record Handed (m : Manager) (journal : List Entry) : Type 0 where
  pub law : UpdatesInOrder journal
  pub posted : count is_posted journal ≡ m.posted
  pub queue : AreNumbered (count is_settled journal) m.queue m.posted
  pub few : length m.queue ≤ 4

-- NUMBERS IN A QUEUE

numbered_length : (from : ℕ) (us : List Update) (to : ℕ) → AreNumbered from us to → from + length us ≡ to
numbered_length from [] to h = (let same : from + 0 ≡ from = omega arith in same) ∙ h
numbered_length from (u ∷ us) to h =
    (let same : from + suc (length us) ≡ from + 1 + length us = omega arith in same)
    ∙ numbered_length (from + 1) us to h.1

numbered_more : (from : ℕ) (us : List Update) (to : ℕ) (u : Update) → AreNumbered from us to → u.number ≡ to
    → AreNumbered from (us ++ u ∷ []) (to + 1)
numbered_more from [] to u h is = (is ∙ sym h, ap (λ n. n + 1) h)
numbered_more from (x ∷ us) to u h is = (h.0, numbered_more (from + 1) us to u h.1 is)

-- the entries behind a front come next
abbrev AllBehind : List Entry → List Entry → Type 0
AllBehind front new =
    AtEachFrom (λ f e. ComesNext (count is_posted f) (count is_settled f) e.event) front new

-- ONE CHANGE

module _ (S : Setting) where
  -- the first update is taken, and its number is entered
  taken_on : (c : Control) (new : Manager) (n : ℕ) (journal : List Entry) (u : ℕ) (event : Event)
      → is_posted event ≡ false → is_settled event ≡ true → IsTaken c new u
      → (u ≡ count is_settled journal → count is_settled journal < count is_posted journal
      → ComesNext (count is_posted journal) (count is_settled journal) event)
      → Handed c.manager journal → Handed new (journal ++ record { stamp = n; event = event } ∷ [])
  taken_on c new n journal u event no_post settles move comes h =
      at (subst (λ q. AreNumbered (count is_settled journal) q c.manager.posted) move.first h.queue)
      (subst (λ q. length q ≤ 4) move.first h.few)
    where
      posts : count is_posted (journal ++ record { stamp = n; event = event } ∷ []) ≡ count is_posted journal
      posts = let more = count-append is_posted journal (record { stamp = n; event = event } ∷ []) in
          let none : count is_posted (record { stamp = n; event = event } ∷ []) ≡ 0 = rw no_post refl in omega
          (arith, more, none)

      ends_one : count is_settled (journal ++ record { stamp = n; event = event } ∷ []) ≡ count is_settled journal + 1
      ends_one = let more = count-append is_settled journal (record { stamp = n; event = event } ∷ []) in
          let one : count is_settled (record { stamp = n; event = event } ∷ []) ≡ 1 = rw settles refl in omega
          (arith, more, one)

      at : (move.update.number ≡ count is_settled journal) × AreNumbered (count is_settled journal + 1) new.queue
          c.manager.posted
          → suc (length new.queue) ≤ 4 → Handed new (journal ++ record { stamp = n; event = event } ∷ [])
      at q few = record {
        law = at_each_more _ journal (record { stamp = n; event = event } ∷ []) h.law (
          comes (sym move.number ∙ q.0)
              (let long = numbered_length (count is_settled journal + 1) new.queue c.manager.posted q.1 in let was =
              h.posted in omega (arith, long, was)),
          tt,
        );
        posted = posts ∙ h.posted ∙ sym move.posted;
        queue = subst (λ k. AreNumbered k new.queue new.posted) (sym ends_one)
            (subst (AreNumbered (count is_settled journal + 1) new.queue) (sym move.posted) q.1);
        few = omega (arith, few);
      }

  -- nothing of an update is entered, and the manager keeps what is on its way
  aside : (c : Control) (a : Change) (n : ℕ) (journal : List Entry)
      → count is_posted (entered n (entry_of S a)) ≡ 0 → count is_settled (entered n (entry_of S a)) ≡ 0
      → ((front : List Entry) → AllBehind front (entered n (entry_of S a)))
      → (put_manager a c.manager).queue ≡ c.manager.queue → (put_manager a c.manager).posted ≡ c.manager.posted
      → Handed c.manager journal → Handed (put_manager a c.manager) (journal ++ entered n (entry_of S a))
  aside c a n journal no_post no_settled lawful queue posted h = record {
    law = at_each_more _ journal (entered n (entry_of S a)) h.law (lawful journal);
    posted =
        let more = count-append is_posted journal (entered n (entry_of S a)) in
        let was = h.posted in
        omega (arith, more, no_post, was, posted);
    queue =
        let more : count is_settled (journal ++ entered n (entry_of S a)) ≡ count is_settled journal
        =
        count-append is_settled journal (entered n (entry_of S a)) ∙ ap (λ k. count is_settled journal + k)
        no_settled ∙ (let none : count is_settled journal + 0 ≡ count is_settled journal = omega arith in
        none) in
        subst (λ k. AreNumbered k (put_manager a c.manager).queue (put_manager a c.manager).posted) (sym more)
        (subst (λ q. AreNumbered (count is_settled journal) q (put_manager a c.manager).posted) (sym queue)
        (subst (AreNumbered (count is_settled journal) c.manager.queue) (sym posted) h.queue));
    few = subst (λ q. length q ≤ 4) (sym queue) h.few;
  }

  said : (c : Control) (new : Manager) (n : ℕ) (journal : List Entry) (word : UpdateWord) → ManagerMove S c new word
      → Handed c.manager journal → Handed new (journal ++ entered n (update_entry word))
  said c new n journal SaysNothing move h = record {
    law = at_each_more _ journal [] h.law tt;
    posted =
        let more = count-append is_posted journal [] in let was = h.posted in let same = move.1 in omega
        (arith, more, was, same);
    queue = at (count is_settled (journal ++ [])) (count-append is_settled journal []);
    few = subst (λ q. length q ≤ 4) (sym move.0) h.few;
  }
    where
      at : (k : ℕ) → k ≡ count is_settled journal + 0 → AreNumbered k new.queue new.posted
      at k is =
          let same : k ≡ count is_settled journal = omega (arith, is) in
          subst (λ k. AreNumbered k new.queue new.posted) (sym same)
          (subst (λ q. AreNumbered (count is_settled journal) q new.posted) (sym move.0)
          (subst (AreNumbered (count is_settled journal) c.manager.queue) (sym move.1) h.queue))
  said c new n journal (Posts u) move h = record {
    law = at_each_more _ journal (record { stamp = n; event = Posted u } ∷ []) h.law (
      (
        move.number ∙ sym h.posted,
        (let long = numbered_length (count is_settled journal) c.manager.queue c.manager.posted h.queue in
            let was = h.posted in let few = move.few in omega (arith, long, was, few)),
      ),
      tt,
    );
    posted =
        let more = count-append is_posted journal (record { stamp = n; event = Posted u } ∷ []) in
        let was = h.posted in let next = move.next in omega (arith, more, was, next);
    queue = at (count is_settled (journal ++ record { stamp = n; event = Posted u } ∷ []))
        (count-append is_settled journal (record { stamp = n; event = Posted u } ∷ []));
    few =
        let long = length-append c.manager.queue
        (record { number = u; seen = S.start.words.generation c.round.book.anchor; want = move.want } ∷ []) in
        let is = ap (λ (q : List Update). length q) move.queue in
        let few = move.few in
        omega (arith, long, is, few);
  }
    where
      at : (k : ℕ) → k ≡ count is_settled journal + 0 → AreNumbered k new.queue new.posted
      at k is =
          let same : k ≡ count is_settled journal = omega (arith, is) in
          subst (λ k. AreNumbered k new.queue new.posted) (sym same)
          (subst (λ q. AreNumbered (count is_settled journal) q new.posted) (sym move.queue)
          (subst (AreNumbered (count is_settled journal) _) (sym move.next)
          (numbered_more (count is_settled journal) c.manager.queue c.manager.posted _ h.queue move.number)))
  said c new n journal (Applies u) move h = taken_on c new n journal u (Applied u) refl refl move (λ x y. (x, y)) h
  said c new n journal (Declines u kind) move h =
      taken_on c new n journal u (Declined u kind) refl refl move (λ x y. (x, y)) h

  -- what a change does to the manager and its updates
  abbrev pub UpdateStep : Control → Change → Type 0
  UpdateStep c (ManagerMoves new word) = ManagerMove S c new word
  UpdateStep c _ = ⊤

  pub handed_change : (c : Control) (a : Change) → UpdateStep c a → (n : ℕ) (journal : List Entry)
      → Handed c.manager journal → Handed (put S a c).manager (journal ++ entered n (entry_of S a))
  handed_change c (ManagerMoves new word) move n journal h = said c new n journal word move h
  handed_change c StepsOn move n journal h = aside c StepsOn n journal refl refl (λ f. tt) refl refl h
  handed_change c (SpareBegins d m) move n journal h =
      aside c (SpareBegins d m) n journal refl refl (λ f. tt) refl refl h
  handed_change c RoundLapses move n journal h = aside c RoundLapses n journal refl refl (λ f. tt) refl refl h
  handed_change c (TakeoverReads left seen found) move n journal h =
      aside c (TakeoverReads left seen found) n journal refl refl (λ f. tt) refl refl h
  handed_change c (MonitorResumes d) move n journal h =
      aside c (MonitorResumes d) n journal refl refl (λ f. tt) refl refl h
  handed_change c MonitorDies move n journal h = aside c MonitorDies n journal refl refl (λ f. tt) refl refl h
  handed_change c (StateGoes v ToActiveAgain) move n journal h =
      aside c (StateGoes v ToActiveAgain) n journal refl refl (λ f. tt) refl refl h
  handed_change c (PassMoves v slots moved GoesOnQuietly) move n journal h =
      aside c (PassMoves v slots moved GoesOnQuietly) n journal refl refl (λ f. tt) refl refl h
  handed_change c (ClientMoves k moved IsSilent) move n journal h =
      aside c (ClientMoves k moved IsSilent) n journal refl refl (λ f. tt) refl refl h
  handed_change c (RoundBegins m) move n journal h =
      aside c (RoundBegins m) n journal refl refl (λ f. (tt, tt)) refl refl h
  handed_change c (RoundEnds m) move n journal h = aside c (RoundEnds m) n journal refl refl (λ f. (tt, tt)) refl refl h
  handed_change c (SpareEnds d) move n journal h = aside c (SpareEnds d) n journal refl refl (λ f. (tt, tt)) refl refl h
  handed_change c (DiskFails d) move n journal h = aside c (DiskFails d) n journal refl refl (λ f. (tt, tt)) refl refl h
  handed_change c (DiskUnblocks d) move n journal h =
      aside c (DiskUnblocks d) n journal refl refl (λ f. (tt, tt)) refl refl h
  handed_change c (StateGoes v ToReady) move n journal h =
      aside c (StateGoes v ToReady) n journal refl refl (λ f. (tt, tt)) refl refl h
  handed_change c (StateGoes v ToPending) move n journal h =
      aside c (StateGoes v ToPending) n journal refl refl (λ f. (tt, tt)) refl refl h
  handed_change c (StateGoes v ToActive) move n journal h =
      aside c (StateGoes v ToActive) n journal refl refl (λ f. (tt, tt)) refl refl h
  handed_change c (StateGoes v ToIdle) move n journal h =
      aside c (StateGoes v ToIdle) n journal refl refl (λ f. (tt, tt)) refl refl h
  handed_change c (StateGoes v ToClean) move n journal h =
      aside c (StateGoes v ToClean) n journal refl refl (λ f. (tt, tt)) refl refl h
  handed_change c (ClientMoves k moved (Submits i)) move n journal h =
      aside c (ClientMoves k moved (Submits i)) n journal refl refl (λ f. (tt, tt)) refl refl h
  handed_change c (ClientMoves k moved (Acknowledges i answer)) move n journal h =
      aside c (ClientMoves k moved (Acknowledges i answer)) n journal refl refl (λ f. (tt, tt)) refl refl h
  handed_change c (PassMoves v slots moved (OpensAt first)) move n journal h =
      aside c (PassMoves v slots moved (OpensAt first)) n journal refl refl (λ f. (tt, tt)) refl refl h
  handed_change c (PassMoves v slots moved (Reaches unit)) move n journal h =
      aside c (PassMoves v slots moved (Reaches unit)) n journal refl refl (λ f. (tt, tt)) refl refl h
  handed_change c (PassMoves v slots moved Closes) move n journal h =
      aside c (PassMoves v slots moved Closes) n journal refl refl (λ f. (tt, tt)) refl refl h
  handed_change c MonitorKilled move n journal h = aside c MonitorKilled n journal refl refl (λ f. (tt, tt)) refl refl h
  handed_change c (TakeoverStarts left) move n journal h =
      aside c (TakeoverStarts left) n journal refl refl (λ f. (tt, tt)) refl refl h

  at_rows_step : (c : Control) (d : ℕ) (what : What) (x : Ended) (a : Change) → AtRows S c d what x a → UpdateStep c a
  at_rows_step c d _ _ _ (by_client k i r need what x call) = tt
  at_rows_step c d _ _ _ (by_pass v p need what x call) = tt
  at_rows_step c d _ _ _ (by_monitor left seen found x life) = at (has_all S (seen ++ x.got ∷ []))
    where
      at : (b : Bool) → UpdateStep c (after_read S c d left (seen ++ x.got ∷ []) found b)
      at true = tt
      at false = tt

  coming_step : (t : InTurn) (c : Control) (a : Change) → Comes S t c a → UpdateStep c a
  coming_step t c _ (manages new word move) = move
  coming_step t c _ (client k new word move) = tt
  coming_step t c _ (begins m life rest target next) = tt
  coming_step t c _ (begins_spare d m life rest target may is listed large) = tt
  coming_step t c _ (ends m step is) = tt
  coming_step t c _ (ends_spare d m step is) = tt
  coming_step t c _ (lapses aim m step late is) = tt
  coming_step t c _ (fails d who may) = tt
  coming_step t c _ (unblocks d rest blocked ended told) = tt
  coming_step t c _ (readies v started state rest ended) = tt
  coming_step t c _ (pends v sound state has) = tt
  coming_step t c _ (activates v runs state rest ended dirty) = tt
  coming_step t c _ (again v sound state has) = tt
  coming_step t c _ (idles v who runs state none) = tt
  coming_step t c _ (cleans v runs state rest) = tt
  coming_step t c _ (pass v slots new word move) = tt
  coming_step t c _ (kills who awake) = tt
  coming_step t c _ (takes_over who killed) = tt
  coming_step t c _ (resumes d taking high) = tt
  coming_step t c _ (dies taking) = tt

  pub update_step : (t : InTurn) (c : Control) (call : Option Call) (x : Ended) (a : Change) → Effect S t c call x a
      → UpdateStep c a
  update_step t c _ _ _ (quiet x a comes) = coming_step t c a comes
  update_step t c _ _ _ (row d what x a may call went why) = at_rows_step c d what x a why
  update_step t c _ _ _ (row_fails d what x may call failed lost) = tt
  update_step t c _ _ _ (steps d m step x at went) = tt
  update_step t c _ _ _ (step_fails d m step x at failed) = tt
