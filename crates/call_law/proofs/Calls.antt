-- A run makes few calls: what is begun and submitted bounds what may still be called.
use Rattle.std.proofs.Common.{◌≡◌, ℕ, zero, suc, ◌+◌, ◌*◌, ◌<◌, ◌≤◌, ◌==◌, ◌||◌, Bool, true, false, List, [], ◌∷◌, ◌++◌, length, refl, ap, sym, ◌∙◌, subst, arith, ◌⊎◌, inl, inr, Option, Some, None, slice_set}
use Rattle.units.specs.declared.disk.Sector.{Sector}
use Rattle.device_log.specs.Log.{Call, What}
use Rattle.array_model.specs.declared.journal.Entry.{Entry}
use Rattle.array_model.specs.declared.journal.Event.{Event}
use Rattle.array_model.specs.Renewal.{FitsGeneration}
use Rattle.stage_machine.specs.Setting.{Setting, Renews, has_disk}
use Rattle.stage_machine.specs.Opens.{StandsOnAll}
use Rattle.stage_machine.specs.Rounds.{Step, AtAnchor, AtSync, Phase, Rest, Going}
use Rattle.stage_machine.specs.States.{asked_events}
use Rattle.stage_machine.specs.Jobs.{JobStep, Waiting, Writing, Syncing, Written, Got, Job, NoJob, Busy, Client, client_at, Need, NoNeed, Reads, Writes, Syncs, after_write, after_sync}
use Rattle.stage_machine.specs.Machine.{Control, need_now, Out, World, Action, Reached, opens, goes, idle, call_of, call_unless, got_of, turned, turned_unless, stamped, calls_after}
use Rattle.stage_machine.proofs.Turns.{Turns, turns_of, Has, AsksFor, anchor, settle, put, sync, get, nothing, fails, anchors, settles, ends, begins, readies, actives, cleans, rests, pasts, asks_read, asks_write, puts, syncs, gets, acks}
use Rattle.stage_machine.proofs.Clients.{Mine, mine_reached, of_job, at_start, there_left, there_busy, NeedIn, need_in}
use Rattle.stage_machine.proofs.Stands.{GoodRound, good_reached, fitted}
use Rattle.answer_law.proofs.Values.{needs, reads_waits, writes_from, syncs_from}

-- WHAT MAY STILL BE CALLED

abbrev round_left : Phase → ℕ
round_left Rest = 0
round_left (Going m step []) = 0
round_left (Going m AtAnchor (d ∷ ds)) = 2 + 2 * length ds
round_left (Going m AtSync (d ∷ ds)) = 1 + 2 * length ds

abbrev step_left : Setting → JobStep → ℕ
step_left S Waiting = 2 * length S.members
step_left S (Writing left) = length left + length S.members
step_left S (Syncing left) = length left
step_left S Written = 0
step_left S (Got value) = 0

abbrev job_left : Setting → Job → ℕ
job_left S NoJob = 0
job_left S (Busy i step) = step_left S step

abbrev clients_left : Setting → List Client → ℕ
clients_left S [] = 0
clients_left S (x ∷ xs) = job_left S x.job + clients_left S xs

abbrev left_of : Setting → Control → ℕ
left_of S c = round_left c.round.phase + clients_left S c.clients

-- one client is set
set_left : (S : Setting) (clients : List Client) (k : ℕ) (x : Client) → k < length clients
    → clients_left S (slice_set clients k x) + job_left S (client_at clients k).job ≡ clients_left S clients + job_left S x.job
set_left S [] k x lt = absurd (omega (arith, lt))
set_left S (y ∷ ys) zero x lt = omega arith
set_left S (y ∷ ys) (suc k) x lt = let more = set_left S ys k x (omega (arith, lt)) in omega (arith, more)

-- WHAT IS ALLOWED: so many calls for each entry

abbrev allowed : ℕ → List Entry → ℕ
allowed b [] = 0
allowed b (e ∷ es) = b + allowed b es

allowed-append : (b : ℕ) (xs ys : List Entry) → allowed b (xs ++ ys) ≡ allowed b xs + allowed b ys
allowed-append b [] ys = omega arith
allowed-append b (x ∷ xs) ys = let more = allowed-append b xs ys in omega (arith, more)

pub allowed_is : (b : ℕ) (xs : List Entry) → allowed b xs ≡ b * length xs
allowed_is b [] = omega arith
allowed_is b (x ∷ xs) = let more = allowed_is b xs in omega (arith, more)

-- A TURN

some_member : (d : ℕ) (ms : List ℕ) → has_disk d ms ≡ true → 1 ≤ length ms
some_member d [] h = absurd cc
some_member d (m ∷ ms) h = omega arith

-- while no call has failed, what was called and what may still be called is allowed; what was called always is
record Spent (S : Setting) (c : Control) (calls most : ℕ) : Type 0 where
  alive : c.failed ≡ None → calls + left_of S c ≤ most
  all : calls ≤ most

both : (S : Setting) (c : Control) (calls most : ℕ) → calls + left_of S c ≤ most → Spent S c calls most
both S c calls most le = record { alive = λ live. le; all = omega (arith, le) }

module _ (S : Setting) (b : ℕ) (rounds : 2 * length S.targets ≤ b) (writes : 2 * length S.members ≤ b)
    (c : Control) (good : GoodRound S c.round) (mine : Mine S c) (calls most : ℕ) (old : calls + left_of S c ≤ most) where
  job_is_left : (k : ℕ) (left : List ℕ) (job : Job) → Has c k left job → job_left S (client_at c.clients k).job ≡ job_left S job
  job_is_left k left job here = ap (λ (x : Client). job_left S x.job) here

  -- a job's client is set to another job
  next_left : (k : ℕ) (left rest : List ℕ) (job next : Job) → Has c k left job → k < length c.clients
      → clients_left S (slice_set c.clients k (record { left = rest; job = next })) + job_left S job ≡ clients_left S c.clients + job_left S next
  next_left k left rest job next here lt =
      let set = set_left S c.clients k (record { left = rest; job = next }) lt in
      let was = job_is_left k left job here in
      omega (arith, set, was)

  in_job : (k i : ℕ) (left : List ℕ) (step : JobStep) → Has c k left (Busy i step) → job_left S (Busy i step) ≤ clients_left S c.clients
  in_job k i left step here =
      let set = next_left k left left (Busy i step) NoJob here (there_busy c k i left step here) in
      omega (arith, set)

  needs_member : (k i : ℕ) (left : List ℕ) (step : JobStep) (need : Need) → Has c k left (Busy i step) → need_now S c k i step ≡ need → NeedIn S.members need
  needs_member k i left step need here is = subst (NeedIn S.members) is (need_in S c k i step (of_job S c k i left step mine here).inside)

  -- the writes that are left, and one less
  put_left : (k i : ℕ) (left : List ℕ) (step : JobStep) (d : ℕ) (ds : List ℕ) → Has c k left (Busy i step) → need_now S c k i step ≡ Writes d ds
      → step_left S step ≡ 1 + step_left S (after_write S ds)
  put_left k i left step d ds here need = elim (writes_from S c k i step d ds (needs S c k i step _ need (λ none. absurd cc))) [
    | inl waits ↦
        let all : length S.members ≡ length (d ∷ ds) = ap (λ (ms : List ℕ). length ms) waits.1 in
        let was : step_left S step ≡ 2 * length S.members = ap (step_left S) waits.0 in
        was ∙ of_all ds (omega (arith, all))
    | inr writing ↦
        let was : step_left S step ≡ length (d ∷ ds) + length S.members = ap (step_left S) writing in
        let more = of_left ds in
        omega (arith, was, more)
  ]
    where
      of_all : (ds : List ℕ) → length S.members ≡ 1 + length ds → 2 * length S.members ≡ 1 + step_left S (after_write S ds)
      of_all [] count = omega (arith, count)
      of_all (e ∷ es) count = omega (arith, count)

      of_left : (ds : List ℕ) → 1 + length ds + length S.members ≡ 1 + step_left S (after_write S ds)
      of_left [] = omega arith
      of_left (e ∷ es) = omega arith

  sync_left : (k i : ℕ) (left : List ℕ) (step : JobStep) (d : ℕ) (ds : List ℕ) → Has c k left (Busy i step) → need_now S c k i step ≡ Syncs d ds
      → step_left S step ≡ 1 + step_left S (after_sync ds)
  sync_left k i left step d ds here need =
      let was : step_left S step ≡ length (d ∷ ds) = ap (step_left S) (syncs_from S c k i step d ds (needs S c k i step _ need (λ none. absurd cc))) in
      let more = at ds in
      omega (arith, was, more)
    where
      at : (ds : List ℕ) → 1 + length ds ≡ 1 + step_left S (after_sync ds)
      at [] = refl
      at (e ∷ es) = omega arith

  get_left : (k i : ℕ) (left : List ℕ) (step : JobStep) (d : ℕ) → Has c k left (Busy i step) → need_now S c k i step ≡ Reads d → 1 ≤ step_left S step
  get_left k i left step d here need =
      let waits : step ≡ Waiting = reads_waits S c k i step d (needs S c k i step _ need (λ none. absurd cc)) in
      let some = some_member d S.members (needs_member k i left step _ here need) in
      let count : step_left S step ≡ 2 * length S.members = ap (step_left S) waits in
      omega (arith, some, count)

  -- what is asked for may still be called
  asked_left : (d : ℕ) (what : What) → AsksFor S c d what → 1 ≤ left_of S c
  asked_left _ _ (anchor m d ds stored is) = let left = ap round_left is in omega (arith, left)
  asked_left _ _ (settle m d ds is) = let left = ap round_left is in omega (arith, left)
  asked_left _ _ (put k i left step d ds stored here need) =
      let inside = in_job k i left step here in let one = put_left k i left step d ds here need in omega (arith, inside, one)
  asked_left _ _ (sync k i left step d ds here need) =
      let inside = in_job k i left step here in let one = sync_left k i left step d ds here need in omega (arith, inside, one)
  asked_left _ _ (get k i left step d here need) =
      let inside = in_job k i left step here in let one = get_left k i left step d here need in omega (arith, inside, one)

  spent_turns : (got : Sector) (n : ℕ) {call : Option Call} {es : List Event} {next : Control} → Turns S c got call es next
      → Spent S next (calls_after calls call) (most + allowed b (stamped n es))
  spent_turns got n nothing = both S c calls _ (omega (arith, old))
  spent_turns got n (fails d what asked) =
      let one = asked_left d what asked in
      record { alive = λ live. absurd (let dead : Some d ≡ None = live in cc dead); all = omega (arith, old, one) }
  spent_turns got n (anchors m d ds is) = let left = ap round_left is in both S _ _ _ (omega (arith, old, left))
  spent_turns got n (settles m d e ds is) = let left = ap round_left is in both S _ _ _ (omega (arith, old, left))
  spent_turns got n (ends m d is) = let left = ap round_left is in both S _ _ _ (omega (arith, old, left))
  spent_turns got n (begins d ds is some why) =
      let left = ap round_left is in
      let count : length S.targets ≡ length (d ∷ ds) = ap (λ (ts : List ℕ). length ts) (sym good.working ∙ some) in
      both S _ _ _ (omega (arith, old, left, count, rounds))
  spent_turns got n (readies is s t) = both S _ _ _ (omega (arith, old))
  spent_turns got n (actives is s t r) = both S _ _ _ (omega (arith, old))
  spent_turns got n (cleans is s t) = both S _ _ _ (omega (arith, old))
  spent_turns got n (rests t calm) = both S _ _ _ (omega (arith, old))
  spent_turns got n (pasts k i rest here none) =
      let set = next_left k (i ∷ rest) rest NoJob NoJob here (there_left c k i rest NoJob here) in
      both S _ _ _ (omega (arith, old, set))
  spent_turns got n (asks_read k i rest place here is w ready) =
      let set = next_left k (i ∷ rest) rest NoJob (Busy i Waiting) here (there_left c k i rest NoJob here) in
      both S _ _ _ (omega (arith, old, set, writes))
  spent_turns got n (asks_write k i rest place here is w ready) =
      let set = next_left k (i ∷ rest) rest NoJob (Busy i Waiting) here (there_left c k i rest NoJob here) in
      both S _ _ _ (omega (arith, old, set, writes))
  spent_turns got n (puts k i left step d ds here need) =
      let set = next_left k left left (Busy i step) (Busy i (after_write S ds)) here (there_busy c k i left step here) in
      let one = put_left k i left step d ds here need in
      both S _ _ _ (omega (arith, old, set, one))
  spent_turns got n (syncs k i left step d ds here need) =
      let set = next_left k left left (Busy i step) (Busy i (after_sync ds)) here (there_busy c k i left step here) in
      let one = sync_left k i left step d ds here need in
      both S _ _ _ (omega (arith, old, set, one))
  spent_turns got n (gets k i left step d here need) =
      let set = next_left k left left (Busy i step) (Busy i (Got got)) here (there_busy c k i left step here) in
      let one = get_left k i left step d here need in
      both S _ _ _ (omega (arith, old, set, one))
  spent_turns got n (acks k i left step answer here need) =
      let set = next_left k left left (Busy i step) NoJob here (there_busy c k i left step here) in
      both S _ _ _ (omega (arith, old, set))

-- RUNS

module _ (S : Setting) (renews : Renews S) (on : StandsOnAll S) (b : ℕ) (rounds : 2 * length S.targets ≤ b) (writes : 2 * length S.members ≤ b) where
  -- at first no client has a job
  none_left : (clients : List Client) → ((k : ℕ) → job_left S (client_at clients k).job ≡ 0) → clients_left S clients ≡ 0
  none_left [] none = refl
  none_left (x ∷ xs) none = let first = none 0 in let more = none_left xs (λ k. none (suc k)) in omega (arith, first, more)

  spent_reached : (w : World) → FitsGeneration w.control.round.note → Reached S w → Spent S w.control w.calls (allowed b w.journal)
  spent_reached w fits opens =
      let none = none_left w.control.clients (λ k. elim (at_start S k) [
        | inl first ↦ ap (λ (x : Client). job_left S x.job) first.1
        | inr past ↦ ap (λ (x : Client). job_left S x.job) past.1
      ]) in
      both S w.control 0 0 (omega (arith, none))
  spent_reached w fits (goes {w = v} r a) =
      let before = fitted S v a fits in
      let old = spent_reached v before r in
      let n = calls_after v.calls (call_of S v.control a) in
      subst (Spent S (turned S v.control a).next (calls_after v.calls (call_of S v.control a)))
      (sym (allowed-append b v.journal (stamped n (turned S v.control a).events))) (at before old n v.control.failed refl)
    where
      at : FitsGeneration v.control.round.note → Spent S v.control v.calls (allowed b v.journal) → (n : ℕ) → (failed : Option ℕ) → v.control.failed ≡ failed
          → Spent S (turned S v.control a).next (calls_after v.calls (call_of S v.control a)) (allowed b v.journal + allowed b (stamped n (turned S v.control a).events))
      at before old n None live =
          spent_turns S b rounds writes v.control (good_reached S renews on v before r) (mine_reached S v r) v.calls (allowed b v.journal) (old.alive live) (got_of a) n (turns_of S v.control a)
      at before old n (Some d) is =
          let no_call : call_of S v.control a ≡ None = ap (call_unless S v.control a) is in
          let same : turned S v.control a ≡ idle v.control = ap (turned_unless S v.control a) is in
          subst (λ (x : Option Call). Spent S (turned S v.control a).next (calls_after v.calls x) (allowed b v.journal + allowed b (stamped n (turned S v.control a).events))) (sym no_call)
          (subst (λ (o : Out). Spent S o.next v.calls (allowed b v.journal + allowed b (stamped n o.events))) (sym same)
          (record { alive = λ live. absurd (cc (live, is)); all = let most = old.all in omega (arith, most) }))

pub few_reached : (S : Setting) → Renews S → StandsOnAll S → (b : ℕ) → 2 * length S.targets ≤ b → 2 * length S.members ≤ b
    → (w : World) → FitsGeneration w.control.round.note → Reached S w → w.calls ≤ b * length w.journal
few_reached S renews on b rounds writes w fits r =
    subst (λ most. w.calls ≤ most) (allowed_is b w.journal) (spent_reached S renews on b rounds writes w fits r).all
