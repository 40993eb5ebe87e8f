-- Each change but the end of a round keeps what holds of locks, passes, updates and slots.
use Rattle.std.proofs.Common.{◌≡◌, ℕ, zero, suc, ◌+◌, ◌==◌, ◌&&◌, not, Bool, true, false, List, [], ◌∷◌, map, refl, ap, sym, ◌∙◌, subst, arith, Option, Some, None, ◌⊎◌, inl, inr, eqb-true}
use Rattle.std.specs.Prelude.{slice_get, slice_set}
use Rattle.std.specs.Option.{option_map_or}
use Rattle.std.proofs.lemmas.Bool.{and_parts}
use Rattle.array_machine.specs.Setting.{Setting}
use Rattle.array_machine.specs.States.{State, state_after}
use Rattle.array_machine.specs.Volumes.{Slot, disk_in, Pass, Volume, volume_at}
use Rattle.array_machine.specs.Operations.{volume_of, the_place}
use Rattle.array_machine.specs.Clients.{Job, NoJob, Submitted, Busy, Client, client_at}
use Rattle.array_machine.specs.Managers.{AskState, IsUnposted, IsPosted, IsApplied, IsSettled, Manager}
use Rattle.array_machine.specs.Control.{Control}
use Rattle.array_machine.specs.Changes.{Change, StepsOn, RoundBegins, SpareBegins, RoundEnds, SpareEnds, RoundLapses, DiskFails, DiskUnblocks, StateGoes, ClientMoves, PassMoves, ManagerMoves, MonitorKilled, TakeoverStarts, TakeoverReads, MonitorResumes, MonitorDies, ClientWord, PassWord}
use Rattle.array_machine.specs.Locks.{holds, locked_from, pass_holds, is_locked}
use Rattle.array_machine.specs.Puts.{ask_ended, ask_killed, set_state, put}
use Rattle.array_machine.specs.RoundEnds.{has_other}
use Rattle.array_paths.specs.InTurn.{job_of}
use Rattle.array_base.proofs.Slots.{volume_set}
use Rattle.array_base.proofs.Targets.{or_neither}
use Rattle.array_rest.specs.Between.{AsksAreQueued, PassStands, Keeps, Kept, JobIsFree, PassGoes, IsFine}
use Rattle.array_rest.proofs.Parts.{not_true, same_or_not, client_set, clients_set_length}
use Rattle.array_rest.proofs.Failures.{kept_fault}

-- ASKS

-- an ask that is posted was, behind the end of what goes on and behind a kill
pub posted_ended : (asks : List AskState) (i : ℕ) → slice_get (map ask_ended asks) i ≡ Some IsPosted
    → slice_get asks i ≡ Some IsPosted
posted_ended [] i is = absurd cc
posted_ended (IsUnposted ∷ more) zero is = absurd cc
posted_ended (IsPosted ∷ more) zero is = refl
posted_ended (IsApplied ∷ more) zero is = absurd cc
posted_ended (IsSettled ∷ more) zero is = absurd cc
posted_ended (a ∷ more) (suc i) is = posted_ended more i is

posted_killed : (asks : List AskState) (i : ℕ) → slice_get (map ask_killed asks) i ≡ Some IsPosted
    → slice_get asks i ≡ Some IsPosted
posted_killed [] i is = absurd cc
posted_killed (IsUnposted ∷ more) zero is = absurd cc
posted_killed (IsPosted ∷ more) zero is = refl
posted_killed (IsApplied ∷ more) zero is = absurd cc
posted_killed (IsSettled ∷ more) zero is = absurd cc
posted_killed (a ∷ more) (suc i) is = posted_killed more i is

module _ (S : Setting) (c : Control) (k : Kept S c) where
  -- THE MANAGER

  with_manager : (m : Manager) → AsksAreQueued m
      → Keeps S c.round.faults c.round.last c.volumes c.clients m
  with_manager m queued = record {
    count = k.count;
    queued = queued;
    there = k.there;
    locks = k.locks;
    passes = k.passes;
    started = k.started;
    seated = k.seated;
  }

  -- VOLUMES

  -- a volume with the slots, the pass and the start that another has
  pub record SameBody (x y : Volume) : Type 0 where
    pub slots : y.slots ≡ x.slots
    pub pass : y.pass ≡ x.pass
    pub started : y.started ≡ x.started

  with_volumes : (volumes : List Volume)
      → ((v : ℕ) → SameBody (volume_at c.volumes v) (volume_at volumes v))
      → Keeps S c.round.faults c.round.last volumes c.clients c.manager
  with_volumes volumes same = record {
    count = k.count;
    queued = k.queued;
    there = λ v s d is. k.there v s d (sym (ap (λ slots. disk_in slots s) (same v).slots) ∙ is);
    locks = record {
      one = k.locks.one;
      pass = λ v row j held. ap (pass_holds row) (same v).pass ∙ k.locks.pass v row j held;
    };
    passes = λ v p is.
        subst (λ slots. PassStands S c.round.faults slots v p) (sym (same v).slots)
        (k.passes v p (sym (same v).pass ∙ is));
    started = λ v is. (same v).pass ∙ k.started v (sym (same v).started ∙ is);
    seated = λ v is.
        ap (has_other S (S.start.words.slots c.round.last v)) (same v).slots
        ∙ k.seated v (sym (same v).started ∙ is);
  }

  pub state_same : (v : ℕ) (state : State) (w : ℕ)
      → SameBody (volume_at c.volumes w) (volume_at (set_state c.volumes v state) w)
  state_same v state w =
      elim (volume_set c.volumes v (record (volume_at c.volumes v) { state = state }) w) [
        | inl here ↦ record {
          slots =
              ap (λ (x : Volume). x.slots) here.1 ∙ ap (λ u. (volume_at c.volumes u).slots) here.0;
          pass = ap (λ (x : Volume). x.pass) here.1 ∙ ap (λ u. (volume_at c.volumes u).pass) here.0;
          started =
              ap (λ (x : Volume). x.started) here.1 ∙ ap (λ u. (volume_at c.volumes u).started) here.0;
        }
        | inr other ↦ record {
          slots = ap (λ (x : Volume). x.slots) other;
          pass = ap (λ (x : Volume). x.pass) other;
          started = ap (λ (x : Volume). x.started) other;
        }
      ]

  -- CLIENTS

  -- where a row isn't locked for client j, no other client holds it
  pub others_free : (v row j from : ℕ) (clients : List Client) → locked_from S v row j from clients ≡ false → (l : ℕ)
      → ((from + l) == j) ≡ false → holds S v row (client_at clients l).job ≡ false
  others_free v row j from [] free l other = refl
  others_free v row j from (x ∷ xs) free zero other =
      let both = or_neither (not (from == j) && holds S v row x.job) (locked_from S v row j (from + 1) xs) free in
      let same : from + 0 ≡ from = omega arith in
      first (from == j) (sym (ap (λ n. n == j) same) ∙ other) both.0
    where
      first : (same : Bool) → same ≡ false → (not same && holds S v row x.job) ≡ false → holds S v row x.job ≡ false
      first true is h = absurd (cc is)
      first false is h = h
  others_free v row j from (x ∷ xs) free (suc l) other =
      let both = or_neither (not (from == j) && holds S v row x.job) (locked_from S v row j (from + 1) xs) free in
      let same : from + suc l ≡ from + 1 + l = omega arith in
      others_free v row j (from + 1) xs both.1 l (sym (ap (λ n. n == j) same) ∙ other)

  -- what holds of a job that comes to hold a row
  record FindsFree (v row j : ℕ) : Type 0 where
    others : (l : ℕ) → (l == j) ≡ false → holds S v row (job_of c l) ≡ false
    pass : pass_holds row (volume_at c.volumes v).pass ≡ false

  finds_free : (j : ℕ) (job : Job) → JobIsFree S c j job → (v row : ℕ) → holds S v row job ≡ true → FindsFree v row j
  finds_free j NoJob free v row held = absurd cc
  finds_free j (Submitted i) free v row held = absurd cc
  finds_free j (Busy i r) free v row held =
      let outer = and_parts (r.begun && (volume_of S i == v)) ((the_place S i).row == row) held in
      let inner = and_parts r.begun (volume_of S i == v) outer.0 in
      let on = eqb-true (volume_of S i) v inner.1 in
      let at_row = eqb-true (the_place S i).row row outer.1 in
      let is_free : is_locked S c v row j ≡ false = subst (λ u. is_locked S c u row j ≡ false) on
      (subst (λ n. is_locked S c (volume_of S i) n j ≡ false) at_row (free inner.0)) in
      let both = or_neither (locked_from S v row j 0 c.clients) (pass_holds row (volume_at c.volumes v).pass) is_free in
      record {
        others = λ l other. others_free v row j 0 c.clients both.0 l
            (let same : 0 + l ≡ l = omega arith in ap (λ n. n == j) same ∙ other);
        pass = both.1;
      }

  kept_client : (j : ℕ) (new : Client) (word : ClientWord) → JobIsFree S c j new.job
      → Kept S (put S (ClientMoves j new word) c)
  kept_client j new word free = record {
    count = clients_set_length c.clients j new ∙ k.count;
    queued = k.queued;
    there = k.there;
    locks = record { one = λ v row l m a b. at l m v row a b (client_set c.clients j new l) (client_set c.clients j new m); pass = passes };
    passes = k.passes;
    started = k.started;
    seated = k.seated;
  }
    where
      now : (l v row : ℕ) → holds S v row (client_at (slice_set c.clients j new) l).job ≡ true
          → client_at (slice_set c.clients j new) l ≡ new → holds S v row new.job ≡ true
      now l v row held is = sym (ap (λ (x : Client). holds S v row x.job) is) ∙ held

      was : (l v row : ℕ) → holds S v row (client_at (slice_set c.clients j new) l).job ≡ true
          → client_at (slice_set c.clients j new) l ≡ client_at c.clients l
          → holds S v row (client_at c.clients l).job ≡ true
      was l v row held is = sym (ap (λ (x : Client). holds S v row x.job) is) ∙ held

      -- the new job holds a row that an old one holds: it is the same client's
      meets : (v row l : ℕ) → holds S v row new.job ≡ true → holds S v row (client_at c.clients l).job ≡ true → l ≡ j
      meets v row l mine theirs = elim (same_or_not l j) [
        | inl same ↦ same
        | inr other ↦ absurd (let none = (finds_free j new.job free v row mine).others l other in cc (none, theirs))
      ]

      at : (l m v row : ℕ) → holds S v row (client_at (slice_set c.clients j new) l).job ≡ true
          → holds S v row (client_at (slice_set c.clients j new) m).job ≡ true
          → ((j ≡ l) × (client_at (slice_set c.clients j new) l ≡ new))
          ⊎ (client_at (slice_set c.clients j new) l ≡ client_at c.clients l)
          → ((j ≡ m) × (client_at (slice_set c.clients j new) m ≡ new))
          ⊎ (client_at (slice_set c.clients j new) m ≡ client_at c.clients m) → l ≡ m
      at l m v row a b (inl here) (inl there) = sym here.0 ∙ there.0
      at l m v row a b (inl here) (inr old) =
          sym here.0 ∙ sym (meets v row m (now l v row a here.1) (was m v row b old))
      at l m v row a b (inr old) (inl there) =
          meets v row l (now m v row b there.1) (was l v row a old) ∙ there.0
      at l m v row a b (inr old) (inr same) = k.locks.one v row l m (was l v row a old) (was m v row b same)

      passes : (v row l : ℕ) → holds S v row (client_at (slice_set c.clients j new) l).job ≡ true
          → pass_holds row (volume_at c.volumes v).pass ≡ false
      passes v row l held = elim (client_set c.clients j new l) [
        | inl here ↦ (finds_free j new.job free v row (now l v row held here.1)).pass
        | inr old ↦ k.locks.pass v row l (was l v row held old)
      ]

  -- PASSES

  -- the row that a lock is of
  lock_row : (lock : Option ℕ) (row : ℕ) → option_map_or (λ r. r == row) lock false ≡ true → lock ≡ Some row
  lock_row None row is = absurd cc
  lock_row (Some r) row is = ap Some (eqb-true r row is)

  kept_pass : (v : ℕ) (slots : List Slot) (p : Pass) (word : PassWord) → PassGoes S c v slots p
      → Kept S (put S (PassMoves v slots (Some p) word) c)
  kept_pass v slots p word goes = record {
    count = k.count;
    queued = k.queued;
    there = λ w s d is. k.there w s d (sym (ap (λ xs. disk_in xs s) (same_slots w)) ∙ is);
    locks = record { one = k.locks.one; pass = λ w row j held. not_true _ (λ is. apart w row j held is) };
    passes = λ w q is. subst (λ xs. PassStands S c.round.faults xs w q) (sym (same_slots w)) (stands w q is);
    started = λ w is. stopped w is;
    seated = λ w is.
        ap (has_other S (S.start.words.slots c.round.last w)) (same_slots w)
        ∙ k.seated w (sym (same_started w) ∙ is);
  }
    where
      new : Volume
      new = record (volume_at c.volumes v) { slots = slots; pass = Some p }

      same_slots : (w : ℕ) → (volume_at (slice_set c.volumes v new) w).slots ≡ (volume_at c.volumes w).slots
      same_slots w = elim (volume_set c.volumes v new w) [
        | inl here ↦
            ap (λ (x : Volume). x.slots) here.1 ∙ goes.same ∙ ap (λ u. (volume_at c.volumes u).slots) here.0
        | inr other ↦ ap (λ (x : Volume). x.slots) other
      ]

      same_started : (w : ℕ) → (volume_at (slice_set c.volumes v new) w).started ≡ (volume_at c.volumes w).started
      same_started w = elim (volume_set c.volumes v new w) [
        | inl here ↦ ap (λ (x : Volume). x.started) here.1 ∙ ap (λ u. (volume_at c.volumes u).started) here.0
        | inr other ↦ ap (λ (x : Volume). x.started) other
      ]

      apart : (w row j : ℕ) → holds S w row (client_at c.clients j).job ≡ true
          → pass_holds row (volume_at (slice_set c.volumes v new) w).pass ≡ true → ⊥
      apart w row j held is = elim (volume_set c.volumes v new w) [
        | inl here ↦
            let mine : holds S v row (client_at c.clients j).job ≡ true
            = subst (λ u. holds S u row (client_at c.clients j).job ≡ true) (sym here.0) held in
            let lock = lock_row p.lock row (sym (ap (λ (x : Volume). pass_holds row x.pass) here.1) ∙ is) in
            elim (goes.free row lock) [
              | inl had ↦ let none = k.locks.pass v row j mine in cc (none, had)
              | inr free ↦ let none = free j in cc (none, mine)
            ]
        | inr other ↦
            let none = k.locks.pass w row j held in
            let had = sym (ap (λ (x : Volume). pass_holds row x.pass) other) ∙ is in
            cc (none, had)
      ]

      stands : (w : ℕ) (q : Pass) → (volume_at (slice_set c.volumes v new) w).pass ≡ Some q
          → PassStands S c.round.faults (volume_at c.volumes w).slots w q
      stands w q is = elim (volume_set c.volumes v new w) [
        | inl here ↦
            let same : p ≡ q = cc (sym (ap (λ (x : Volume). x.pass) here.1) ∙ is) in
            subst (λ u. PassStands S c.round.faults (volume_at c.volumes u).slots u q) here.0
            (subst (PassStands S c.round.faults (volume_at c.volumes v).slots v) same
            (subst (λ xs. PassStands S c.round.faults xs v p) goes.same goes.stands))
        | inr other ↦ k.passes w q (sym (ap (λ (x : Volume). x.pass) other) ∙ is)
      ]

      stopped : (w : ℕ) → (volume_at (slice_set c.volumes v new) w).started ≡ false
          → (volume_at (slice_set c.volumes v new) w).pass ≡ None
      stopped w is = elim (volume_set c.volumes v new w) [
        | inl here ↦ absurd (let was = goes.started in let never = sym (ap (λ (x : Volume). x.started) here.1) ∙ is in cc (was, never))
        | inr other ↦
            ap (λ (x : Volume). x.pass) other ∙ k.started w (sym (ap (λ (x : Volume). x.started) other) ∙ is)
      ]

  -- EACH CHANGE

  pub kept_change : (a : Change) → IsFine S c a → Kept S (put S a c)
  kept_change StepsOn fine = k
  kept_change (RoundBegins m) fine = k
  kept_change (SpareBegins d m) fine = k
  kept_change (RoundEnds m) fine = absurd fine
  kept_change (SpareEnds d) fine =
      with_manager (put S (SpareEnds d) c).manager (λ i is. k.queued i (posted_ended c.manager.asks i is))
  kept_change RoundLapses fine =
      with_manager (put S RoundLapses c).manager (λ i is. k.queued i (posted_ended c.manager.asks i is))
  kept_change (DiskFails d) fine = kept_fault S c d k
  kept_change (DiskUnblocks d) fine = k
  kept_change (StateGoes v word) fine =
      with_volumes (set_state c.volumes v (state_after word)) (state_same v (state_after word))
  kept_change (ClientMoves j new word) fine = kept_client j new word fine.0
  kept_change (PassMoves v slots None word) fine = absurd fine
  kept_change (PassMoves v slots (Some p) word) fine = kept_pass v slots p word fine
  kept_change (ManagerMoves new word) fine = with_manager new fine
  kept_change MonitorKilled fine =
      with_manager (put S MonitorKilled c).manager (λ i is. k.queued i (posted_killed c.manager.asks i is))
  kept_change (TakeoverStarts left) fine = k
  kept_change (TakeoverReads left seen found) fine = k
  kept_change (MonitorResumes d) fine = k
  kept_change MonitorDies fine = k
