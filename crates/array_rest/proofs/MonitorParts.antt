-- The monitor's turns, and the manager's, are made of such changes.
use Rattle.std.proofs.Common.{◌≡◌, ℕ, zero, suc, ◌+◌, nat_le, Bool, true, false, List, [], ◌∷◌, ◌++◌, refl, ap, sym, ◌∙◌, subst, Option, Some, None, ◌⊎◌, inl, inr, cond, slice_set}
use Rattle.std.specs.Prelude.{slice_get}
use Rattle.units.specs.declared.disk.Sector.{Sector}
use Rattle.device_log.specs.Log.{What, Read}
use Rattle.array_model.specs.Blocks.{Laid}
use Rattle.array_model.specs.Renewal.{FitsGeneration}
use Rattle.array_machine.specs.Setting.{Setting}
use Rattle.array_machine.specs.States.{IsReadAuto, ToReady, ToActive, ToClean}
use Rattle.array_machine.specs.Volumes.{volume_at}
use Rattle.array_machine.specs.Rounds.{Ended, OfRound, Phase, Rest, Going, Life, Lives, Killed, Takes, Dead, lives, GoesOn, Round, on_with, targets, late_targets, has_target, dropped, ending, what_of}
use Rattle.array_machine.specs.Clients.{client_at}
use Rattle.array_machine.specs.Managers.{AskState, IsPosted, IsApplied, IsSettled, Want, OfAsk, OfSpareDisk, Update, Manager}
use Rattle.array_machine.specs.Control.{Control}
use Rattle.array_machine.specs.Changes.{OpensAt, Change, StepsOn, RoundBegins, SpareBegins, DiskFails, DiskUnblocks, StateGoes, PassMoves, ManagerMoves, TakeoverReads, MonitorResumes, MonitorDies, SaysNothing, Posts, Applies}
use Rattle.array_machine.specs.Puts.{set_ask, put}
use Rattle.array_machine.specs.Turns.{may_call, call_if, calling}
use Rattle.array_machine.specs.RoundEnds.{pass_from, and_ended, called}
use Rattle.array_machine.specs.Updates.{Verdict, Refuses, EditsBook, WritesSpare, taken, applied_block, apply_verdict, apply_if, verdict_of}
use Rattle.array_machine.specs.MonitorTurns.{Deed, Nothing, ReadiesVolume, LetsWrites, UnblocksDisk, CleansVolume, BeginsRound, next_block, opens_pass, rest_changes, deed_of, monitor_at}
use Rattle.array_machine.specs.TakeoverTurns.{best_of, resume_if, resumes, resumes_now, and_resumed, given_generation, has_all, found_with, read_place, read_changes, taking}
use Rattle.array_machine.specs.ManagerTurns.{to_post, first_unposted, posted_with, posts, manages_by, managing, living}
use Rattle.array_machine.specs.Machine.{Monitor}
use Rattle.array_paths.specs.Comes.{Comes, readies}
use Rattle.array_paths.specs.Effects.{quiet, Path, goes_on}
use Rattle.array_paths.specs.Follows.{in_turn}
use Rattle.array_paths.specs.Ready.{Ready}
use Rattle.array_paths.specs.InTurn.{InTurn}
use Rattle.array_paths.proofs.Tests.{PathOf}
use Rattle.array_paths.proofs.TakeoverPaths.{living_path}
use Rattle.array_base.specs.Premises.{MayBeBook, Premises}
use Rattle.array_rest.specs.Between.{IsQueued, AsksAreQueued, Kept, TurnIsOver}
use Rattle.array_rest.proofs.Begun.{begun_goes_on}
use Rattle.array_rest.proofs.Changes.{state_same}
use Rattle.array_rest.proofs.PassSteps.{opened_stands}
use Rattle.array_rest.proofs.Turns.{on_goes, MayEnd, over_may, fault_may, step_may, Turns, over, next, ended_turn}

-- ASKS

-- an ask of a list of which one was set: it is that one, or stands as it did
ask_set : (asks : List AskState) (j i : ℕ) (state a : AskState) → slice_get (slice_set asks j state) i ≡ Some a
    → ((j ≡ i) × (state ≡ a)) ⊎ ((slice_get asks i ≡ Some a) × (j ≡ i → ⊥))
ask_set [] j i state a is = absurd cc
ask_set (x ∷ xs) zero zero state a is = inl (refl, cc is)
ask_set (x ∷ xs) zero (suc i) state a is = inr (is, λ same. cc same)
ask_set (x ∷ xs) (suc j) zero state a is = inr (is, λ same. cc same)
ask_set (x ∷ xs) (suc j) (suc i) state a is = elim (ask_set xs j i state a is) [
  | inl here ↦ inl (ap suc here.0, here.1)
  | inr there ↦ inr (there.0, λ same. there.1 (cc same))
]

-- the same of the ask that an update is of
want_set : (asks : List AskState) (want : Want) (state : AskState) (i : ℕ) (a : AskState)
    → slice_get (set_ask asks want state) i ≡ Some a
    → ((want ≡ OfAsk i) × (state ≡ a)) ⊎ ((slice_get asks i ≡ Some a) × (want ≡ OfAsk i → ⊥))
want_set asks (OfAsk j) state i a is = elim (ask_set asks j i state a is) [
  | inl here ↦ inl (ap OfAsk here.0, here.1)
  | inr there ↦ inr (there.0, λ same. there.1 (cc same))
]
want_set asks (OfSpareDisk d index) state i a is = inr (is, λ same. cc same)

queued_front : (i : ℕ) (us more : List Update) → IsQueued i us → IsQueued i (us ++ more)
queued_front i [] more q = absurd q
queued_front i (u ∷ us) more (inl here) = inl here
queued_front i (u ∷ us) more (inr later) = inr (queued_front i us more later)

queued_last : (i : ℕ) (us : List Update) (u : Update) → u.want ≡ OfAsk i → IsQueued i (us ++ u ∷ [])
queued_last i [] u is = inl is
queued_last i (x ∷ us) u is = inr (queued_last i us u is)

-- the first update is taken
taken_queued : (m : Manager) (u : Update) (rest : List Update) (state : AskState) (applied : Option ℕ)
    → m.queue ≡ u ∷ rest → (state ≡ IsPosted → ⊥) → AsksAreQueued m → AsksAreQueued (taken m u rest state applied)
taken_queued m u rest state applied queue other h i is = elim (want_set m.asks u.want state i IsPosted is) [
  | inl here ↦ absurd (other here.1)
  | inr there ↦ elim (subst (IsQueued i) queue (h i there.0)) [
    | inl first ↦ absurd (there.1 first)
    | inr later ↦ later
  ]
]

-- an update is posted
posted_queued : (S : Setting) (c : Control) (want : Want) → AsksAreQueued c.manager
    → AsksAreQueued (posted_with S c want)
posted_queued S c want h i is = elim (want_set c.manager.asks want IsPosted i IsPosted is) [
  | inl here ↦ queued_last i c.manager.queue _ here.0
  | inr there ↦ queued_front i c.manager.queue _ (h i there.0)
]

-- an ask that is applied was
was_applied : (asks : List AskState) (want : Want) (state : AskState) (i : ℕ) → (state ≡ IsApplied → ⊥)
    → slice_get (set_ask asks want state) i ≡ Some IsApplied → slice_get asks i ≡ Some IsApplied
was_applied asks want state i other is = elim (want_set asks want state i IsApplied is) [
  | inl here ↦ absurd (other here.1)
  | inr there ↦ there.0
]

-- PATHS

-- why the first of some changes comes, and the others behind it
first_comes : {S : Setting} {t : InTurn} {c : Control} {x : Ended} {a : Change} {more : List Change}
    → Path S t c None x (a ∷ more) → Comes S t c a
first_comes (goes_on (quiet _ _ comes) path) = comes

then_path : {S : Setting} {t : InTurn} {c : Control} {x : Ended} {a : Change} {more : List Change}
    → Path S t c None x (a ∷ more) → Path S t (put S a c) None x more
then_path (goes_on effect path) = path

module _ (S : Setting) (P : Premises S) (c : Control) (kept : Kept S c) (ends : TurnIsOver S c) where
  abbrev may : MayEnd S c
  may = over_may S c ends

  -- THE MONITOR WHERE NOTHING GOES ON

  module _ (book : MayBeBook S P.edits.formed c.round.book) (alive : c.round.life ≡ Lives) where
    begun : (t : InTurn) (d : Control) → d.round ≡ c.round → (m : Laid) → Comes S t d (RoundBegins m)
        → ending (on_with OfRound m (targets S d.round m) (late_targets S d.round m) false) ≡ GoesOn
    begun t d same m comes =
        begun_goes_on S P t d (subst (λ (r : Round). MayBeBook S P.edits.formed r.book) (sym same) book) m comes

    -- a round that begins in a control state with the round and the clients of this one
    begins_turn : (t : InTurn) (d : Control) → d.round ≡ c.round → d.clients ≡ c.clients → (m : Laid)
        → Comes S t d (RoundBegins m) → Turns S d (RoundBegins m ∷ [])
    begins_turn t d same clients m comes = next (RoundBegins m) tt (over (record {
      goes_on = begun t d same m comes;
      halted = λ dead. absurd (let live = ap lives (ap (λ (r : Round). r.life) same ∙ alive) in cc (live, dead));
      submitted = λ k i is. may.submitted k i (ap (λ xs. (client_at xs k).job) (sym clients) ∙ is);
      applied = λ rest. absurd (on_goes OfRound m (targets S d.round m) (late_targets S d.round m) false rest);
    }))

    verdict_turn : (t : InTurn) (x : Ended) (u : Update) (rest : List Update) → c.manager.queue ≡ u ∷ rest
        → (v : Verdict) → Path S t c None x (apply_verdict S c u rest v) → Turns S c (apply_verdict S c u rest v)
    verdict_turn t x u rest queue (Refuses kind) path =
        next _ (taken_queued c.manager u rest IsSettled c.manager.applied queue (λ bad. cc bad) kept.queued)
        (over (record {
          goes_on = ends.goes_on;
          halted = ends.halted;
          submitted = ends.submitted;
          applied = λ at_rest i is.
              ends.applied at_rest i (was_applied c.manager.asks u.want IsSettled i (λ bad. cc bad) is);
        }))
    verdict_turn t x u rest queue (EditsBook edits) path =
        let new = taken c.manager u rest IsApplied (Some (c.round.note + 1)) in
        next (ManagerMoves new (Applies u.number))
        (taken_queued c.manager u rest IsApplied (Some (c.round.note + 1)) queue (λ bad. cc bad) kept.queued)
        (begins_turn t (put S (ManagerMoves new (Applies u.number)) c) refl refl (applied_block S c edits)
        (first_comes (then_path path)))
    verdict_turn t x u rest queue (WritesSpare d) path =
        next _
        (taken_queued c.manager u rest IsApplied (Some (S.start.words.generation c.round.book.anchor)) queue
        (λ bad. cc bad) kept.queued)
        (next (SpareBegins d (S.spare c.round.book d)) tt (over (record {
          goes_on = refl;
          halted = λ dead. absurd (let live = ap lives alive in cc (live, dead));
          submitted = ends.submitted;
          applied = λ at_rest. absurd (cc at_rest);
        })))

    update_turn : (t : InTurn) (x : Ended) (target : Bool) (queue : List Update) → c.manager.queue ≡ queue
        → Path S t c None x (apply_if S c target queue) → Turns S c (apply_if S c target queue)
    update_turn t x true [] is path = over ends
    update_turn t x true (u ∷ rest) is path = verdict_turn t x u rest is (verdict_of S c u.seen u.want) path
    update_turn t x false [] is path = over ends
    update_turn t x false (u ∷ rest) is path = over ends

    -- a volume is made ready, and its pass opens
    opens_turn : (v : ℕ) → (volume_at c.volumes v).started ≡ true → (kind : Option ℕ)
        → Turns S (put S (StateGoes v ToReady) c) (opens_pass S c v kind)
    opens_turn v started None = over ends
    opens_turn v started (Some kind) =
        let same = state_same S c kept v IsReadAuto v in
        let slots = (volume_at c.volumes v).slots in
        let p = pass_from (S.start.words.unit c.round.book v) in
        next (PassMoves v slots (Some p) (OpensAt _))
        (record {
          started = same.started ∙ started;
          same = sym same.slots;
          stands = opened_stands S c.round.faults slots v p refl refl refl;
          free = λ row lock. absurd (cc lock);
        })
        (over ends)

    started_of : (t : InTurn) (v : ℕ) → Comes S t c (StateGoes v ToReady) → (volume_at c.volumes v).started ≡ true
    started_of t v (readies _ started state rest ended) = started

    deed_turn : (t : InTurn) (x : Ended) (deed : Deed) → Path S t c None x (rest_changes S c deed)
        → Turns S c (rest_changes S c deed)
    deed_turn t x Nothing path = update_turn t x (has_target S c.round) c.manager.queue refl path
    deed_turn t x (ReadiesVolume v) path =
        next (StateGoes v ToReady) tt
        (opens_turn v (started_of t v (first_comes path)) (S.start.words.pass c.round.book v))
    deed_turn t x (LetsWrites v) path = next (StateGoes v ToActive) tt (over ends)
    deed_turn t x (UnblocksDisk d) path = next (DiskUnblocks d) tt (over ends)
    deed_turn t x (CleansVolume v) path = next (StateGoes v ToClean) tt (over ends)
    deed_turn t x BeginsRound path = begins_turn t c refl refl (next_block S c) (first_comes path)

  -- A CALL

  call_turn : (d : ℕ) (what : What) (x : Ended) (changes : List Change) → Turns S c changes
      → Turns S c (call_if (may_call S c.round d) (calling d what x changes)).changes
  call_turn d what x changes turns = at (may_call S c.round d)
    where
      at : (b : Bool) → Turns S c (call_if b (calling d what x changes)).changes
      at true = turns
      at false = over ends

  pub fault_turn : (d : ℕ) → Turns S c (and_ended S c (DiskFails d))
  fault_turn d = next (DiskFails d) tt (ended_turn S (put S (DiskFails d) c) (fault_may S c d may))

  step_turn : (d : ℕ) (went : Bool) → Turns S c (called S c went d (and_ended S c StepsOn))
  step_turn d true = next StepsOn tt (ended_turn S (put S StepsOn c) (step_may S c may))
  step_turn d false = fault_turn d

  -- A TAKEOVER

  -- where nothing goes on a turn may end
  resting_over : (e : Control) → e.round.phase ≡ Rest → MayEnd S e → TurnIsOver S e
  resting_over e rest m = record {
    goes_on = ap ending rest;
    halted = m.halted;
    submitted = m.submitted;
    applied = m.applied;
  }

  resume_turn : (e : Control) → e.round.phase ≡ Rest → MayEnd S e → (d : ℕ) (young : Bool)
      → Turns S e (resume_if d young ∷ [])
  resume_turn e rest m d true = next (MonitorResumes d) tt (over (record {
    goes_on = refl;
    halted = λ dead. refl;
    submitted = m.submitted;
    applied = λ at_rest. m.applied rest;
  }))
  resume_turn e rest m d false = next MonitorDies tt (over (record {
    goes_on = ap ending rest;
    halted = λ dead. rest;
    submitted = m.submitted;
    applied = m.applied;
  }))

  resumes_turn : (e f : Control) → e.round.phase ≡ Rest → MayEnd S e → (found : List ℕ)
      → Turns S e (resumes S f.round found)
  resumes_turn e f rest m [] = next MonitorDies tt (over (record {
    goes_on = ap ending rest;
    halted = λ dead. rest;
    submitted = m.submitted;
    applied = m.applied;
  }))
  resumes_turn e f rest m (d ∷ ds) =
      let best = best_of S f.round d ds in
      resume_turn e rest m best
      (nat_le (S.start.words.generation f.round.last.anchor) (given_generation S f.round best))

  resumed_turn : (e : Control) → e.round.phase ≡ Rest → MayEnd S e → (life : Life)
      → Turns S e (resumes_now S e.round life)
  resumed_turn e rest m Lives = over (resting_over e rest m)
  resumed_turn e rest m Killed = over (resting_over e rest m)
  resumed_turn e rest m (Takes [] seen found) = resumes_turn e e rest m found
  resumed_turn e rest m (Takes (d ∷ ds) seen found) = over (resting_over e rest m)
  resumed_turn e rest m Dead = over (resting_over e rest m)

  -- the monitor goes on reading, or has read a disk
  reads_may : (left : List ℕ) (seen : List Sector) (found : List ℕ) → c.round.phase ≡ Rest
      → MayEnd S (put S (TakeoverReads left seen found) c)
  reads_may left seen found rest = record {
    halted = λ dead. rest;
    submitted = ends.submitted;
    applied = ends.applied;
  }

  read_turn : (went : Bool) (d : ℕ) (ds : List ℕ) (seen : List Sector) (found : List ℕ) → c.round.phase ≡ Rest
      → Turns S c (read_changes S c went d ds seen found)
  read_turn true d ds seen found rest = at (has_all S seen)
    where
      at : (b : Bool)
          → Turns S c
          (cond b (and_resumed S c (TakeoverReads ds [] (found_with S c.round d seen found)))
          (TakeoverReads (d ∷ ds) seen found ∷ []))
      at true =
          let a = TakeoverReads ds [] (found_with S c.round d seen found) in
          next a tt
          (resumed_turn (put S a c) rest (reads_may ds [] (found_with S c.round d seen found) rest)
          (put S a c).round.life)
      at false =
          next (TakeoverReads (d ∷ ds) seen found) tt
          (over (resting_over (put S (TakeoverReads (d ∷ ds) seen found) c) rest (reads_may (d ∷ ds) seen found rest)))
  read_turn false d ds seen found rest =
      let e = put S (DiskFails d) c in
      next (DiskFails d) tt (resumed_turn e (ap (dropped d) rest) (fault_may S c d may) e.round.life)

  taking_turn : (x : Ended) (left : List ℕ) (seen : List Sector) (found : List ℕ) → c.round.phase ≡ Rest
      → Turns S c (taking S c x left seen found).changes
  taking_turn x [] seen found rest = resumes_turn c c rest may found
  taking_turn x (d ∷ ds) seen found rest =
      call_turn d (Read (read_place S d seen)) x (read_changes S c x.went d ds (seen ++ x.got ∷ []) found)
      (read_turn x.went d ds (seen ++ x.got ∷ []) found rest)

  -- THE MONITOR

  pub living_turn : MayBeBook S P.edits.formed c.round.book → Ready S c → FitsGeneration (c.round.note + 1)
      → (x : Ended) (life : Life) → c.round.life ≡ life → Turns S c (living S c x life).changes
  living_turn book ready fits x Lives is = at c.round.phase refl
    where
      at : (phase : Phase) → c.round.phase ≡ phase → Turns S c (monitor_at S c x phase).changes
      at Rest rest =
          deed_turn book is (in_turn c Monitor) _ (deed_of S c)
          (subst (λ p. PathOf S (in_turn c Monitor) c (monitor_at S c x p)) rest
          (living_path S (in_turn c Monitor) ready fits x Lives is))
      at (Going aim m step [] late done) phase = over ends
      at (Going aim m step (d ∷ left) late done) phase =
          call_turn d (what_of S x m step d) x (called S c x.went d (and_ended S c StepsOn)) (step_turn d x.went)
  living_turn book ready fits x Killed is = over ends
  living_turn book ready fits x (Takes left seen found) is =
      taking_turn x left seen found (ends.halted (ap lives is))
  living_turn book ready fits x Dead is = over ends

  -- THE MANAGER

  post_turn : (want : Option Want) → Turns S c (posts S c want)
  post_turn None = over ends
  post_turn (Some want) =
      next (ManagerMoves (posted_with S c want) (Posts c.manager.posted)) (posted_queued S c want kept.queued)
      (over (record {
        goes_on = ends.goes_on;
        halted = ends.halted;
        submitted = ends.submitted;
        applied = λ at_rest i is.
            ends.applied at_rest i (was_applied c.manager.asks want IsPosted i (λ bad. cc bad) is);
      }))

  manages_turn : (returned : ℕ) → Turns S c (manages_by S c returned)
  manages_turn zero = post_turn (to_post S c (first_unposted 0 c.manager.asks) c.manager.queue)
  manages_turn (suc n) = next (ManagerMoves (record c.manager { returned = n }) SaysNothing) kept.queued (over ends)

  pub managing_turn : (alive : Bool) → Turns S c (managing S c alive).changes
  managing_turn true = manages_turn c.manager.returned
  managing_turn false = over ends
