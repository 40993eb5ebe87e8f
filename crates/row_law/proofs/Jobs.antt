-- What was called for each job, kept by each turn.
use Rattle.std.proofs.Common.{◌≡◌, ℕ, ◌≤◌, ◌==◌, Bool, true, false, List, [], ◌∷◌, ◌++◌, length, refl, ap, sym, ◌∙◌, subst, arith, inl, inr, Option, Some, None, slice_set, length-append}
use Rattle.std.specs.Prelude.{⊤}
use Rattle.std.proofs.lemmas.Bool.Decides.{nat_tests}
use Rattle.std.proofs.lemmas.List.{append-nil}
use Rattle.std.proofs.lemmas.Option.{slice_get_within}
use Rattle.units.specs.declared.disk.Sector.{Sector}
use Rattle.device_log.specs.Log.{Call, What, Read, Write, Sync}
use Rattle.array_model.specs.declared.journal.Entry.{Entry}
use Rattle.array_model.specs.declared.journal.Event.{Event}
use Rattle.array_model.specs.declared.journal.Event.TheVariants.{Submit, Ack}
use Rattle.array_model.specs.declared.journal.Answer.TheVariants.{Past}
use Rattle.array_model.specs.Events.{has as has_event, is_submit}
use Rattle.array_model.specs.Moments.{AllBelow}
use Rattle.array_model.specs.AnswerLaw.{submitted_from}
use Rattle.array_model.specs.RowCalls.{WentAt, IsWrittenOn}
use Rattle.stage_machine.specs.Setting.{Setting, has_disk}
use Rattle.stage_machine.specs.Opens.{IsFirstVolume}
use Rattle.stage_machine.specs.States.{State, IsReadonly, IsReadAuto, IsClean, IsPending, IsActive, IsIdle, asked_events}
use Rattle.stage_machine.specs.Jobs.{JobStep, Waiting, Writing, Syncing, Written, Got, Job, NoJob, Busy, Client, row_at, value_at, holds_by, Reads, Writes, Syncs, after_write, after_sync}
use Rattle.stage_machine.specs.Machine.{Control, need_now, World, Reached, opens, goes, got_of, stamped, calls_after, log_after}
use Rattle.stage_machine.proofs.Turns.{Turns, turns_of, Has, AsksFor, anchor, settle, put, sync, get, nothing, fails, anchors, settles, ends, begins, readies, actives, cleans, rests, pasts, asks_read, asks_write, puts, syncs, gets, acks}
use Rattle.stage_machine.proofs.Clients.{Mine, mine_reached, of_job, Each, each_set, there_left, there_busy, at_start, NeedIn, need_in, one_submit}
use Rattle.stage_machine.proofs.Moments.{counted_reached}
use Rattle.stage_machine.proofs.Targets.{call}
use Rattle.answer_law.proofs.Locks.{job_of}
use Rattle.answer_law.proofs.Rows.{at_row, slice_get-append, last_call, submitted-append, submitted_same, submitted_most}
use Rattle.answer_law.proofs.Values.{needs, writes_from, syncs_from}
use Rattle.answer_law.proofs.Law.{job_is, not_submitted}
use Rattle.row_law.proofs.Stays.{Leaves, Stays, stays_more, unwritten, asked_leaves}

-- A member was written for operation i, and no call behind that wrote the row on it; it was synced behind that; one was
-- read.

pub record IsPut (S : Setting) (log : List Call) (i since d : ℕ) : Type 0 where
  pub write : ℕ
  pub from : since ≤ write
  pub written : WentAt log write d (Write (at_row S (row_at S i)) (value_at S i ∷ []) 1)
  pub stays : Stays S log i write d

abbrev pub IsSynced : Setting → List Call → (i since d : ℕ) → Type 0
IsSynced S log i since d = IsWrittenOn log since (length log) d (at_row S (row_at S i)) (value_at S i)

pub record IsGot (S : Setting) (log : List Call) (i since : ℕ) : Type 0 where
  pub read : ℕ
  pub disk : ℕ
  pub member : has_disk disk S.members ≡ true
  pub from : since ≤ read
  pub went : WentAt log read disk (Read (at_row S (row_at S i)))

-- of each member but those left
abbrev pub OnBut : Setting → List ℕ → (ℕ → Type 0) → Type 0
OnBut S left P = (d : ℕ) → has_disk d S.members ≡ true → has_disk d left ≡ false → P d

pub record PutBut (S : Setting) (log : List Call) (i since : ℕ) (left : List ℕ) : Type 0 where
  pub disk : ℕ
  pub member : has_disk disk S.members ≡ true
  pub put : OnBut S left (IsPut S log i since)

pub record SyncedBut (S : Setting) (log : List Call) (i since : ℕ) (left : List ℕ) : Type 0 where
  pub disk : ℕ
  pub member : has_disk disk S.members ≡ true
  pub put : OnBut S [] (IsPut S log i since)
  pub synced : OnBut S left (IsSynced S log i since)

abbrev pub StepCalls : Setting → List Call → (i since : ℕ) → JobStep → Type 0
StepCalls S log i since Waiting = ⊤
StepCalls S log i since (Writing left) = PutBut S log i since left
StepCalls S log i since (Syncing left) = SyncedBut S log i since left
StepCalls S log i since Written = SyncedBut S log i since []
StepCalls S log i since (Got value) = IsGot S log i since

abbrev pub JobCalls : Setting → List Call → List Entry → Job → Type 0
JobCalls S log journal NoJob = ⊤
JobCalls S log journal (Busy i step) = StepCalls S log i (submitted_from i 0 journal) step

abbrev pub Calls : Setting → List Call → List Entry → List Client → Type 0
Calls S log journal clients = Each (λ k client. JobCalls S log journal client.job) clients

-- A LONGER LOG

pub went_more : (log : List Call) (x : Option Call) (k d : ℕ) (what : What) → WentAt log k d what → WentAt (log_after log x) k d what
went_more log None k d what h = h
went_more log (Some x) k d what h = slice_get-append log (x ∷ []) k (slice_get_within log k _ h) ∙ h

module _ (S : Setting) (log : List Call) (x : Option Call) (i since : ℕ) where
  put_more : (d : ℕ) → Leaves S x i d → IsPut S log i since d → IsPut S (log_after log x) i since d
  put_more d leaves h = record {
    write = h.write;
    from = h.from;
    written = went_more log x h.write d _ h.written;
    stays = stays_more S log x i h.write d leaves h.stays;
  }

  synced_more : (d : ℕ) → Leaves S x i d → IsSynced S log i since d → IsSynced S (log_after log x) i since d
  synced_more d leaves h =
      let synced : WentAt (log_after log x) h.sync d Sync = went_more log x h.sync d Sync h.synced in
      let before : Stays S log i h.write d = λ k call behind is on. h.stays k call behind (slice_get_within log k call is) is on in
      let after : Stays S (log_after log x) i h.write d = stays_more S log x i h.write d leaves before in
      record {
        write = h.write;
        sync = h.sync;
        from = h.from;
        behind = h.behind;
        until = slice_get_within (log_after log x) h.sync _ synced;
        written = went_more log x h.write d _ h.written;
        synced = synced;
        stays = λ k call behind until is on. after k call behind is on;
      }

  syncing_more : (left : List ℕ) → OnBut S [] (Leaves S x i) → SyncedBut S log i since left → SyncedBut S (log_after log x) i since left
  syncing_more left leaves h = record {
    disk = h.disk;
    member = h.member;
    put = λ d member out. put_more d (leaves d member out) (h.put d member out);
    synced = λ d member out. synced_more d (leaves d member refl) (h.synced d member out);
  }

  -- a call that writes the row on no member that the job has written leaves what was called for the job
  step_more : (step : JobStep) → (holds_by S (row_at S i) i step ≡ true → OnBut S (unwritten step) (Leaves S x i))
      → StepCalls S log i since step → StepCalls S (log_after log x) i since step
  step_more Waiting leaves h = tt
  step_more (Writing left) leaves h = record { disk = h.disk; member = h.member; put = λ d member out. put_more d (leaves itself d member out) (h.put d member out) }
    where
      itself : (row_at S i == row_at S i) ≡ true
      itself = grind (arith, nat_tests)
  step_more (Syncing left) leaves h = syncing_more left (leaves itself) h
    where
      itself : (row_at S i == row_at S i) ≡ true
      itself = grind (arith, nat_tests)
  step_more Written leaves h = syncing_more [] (leaves itself) h
    where
      itself : (row_at S i == row_at S i) ≡ true
      itself = grind (arith, nat_tests)
  step_more (Got value) leaves h = record { read = h.read; disk = h.disk; member = h.member; from = h.from; went = went_more log x h.read h.disk _ h.went }

-- EACH TURN

-- of each job that holds its row: the call writes the row on no member that the job has written
abbrev pub EachLeaves : Setting → List Client → Option Call → Type 0
EachLeaves S clients x =
    (j i : ℕ) (step : JobStep) → job_of clients j ≡ Busy i step → holds_by S (row_at S i) i step ≡ true
    → OnBut S (unwritten step) (Leaves S x i)

pub step_calls : (S : Setting) (log : List Call) (journal : List Entry) (c : Control) → Calls S log journal c.clients
    → (k i : ℕ) (left : List ℕ) (step : JobStep) → Has c k left (Busy i step) → StepCalls S log i (submitted_from i 0 journal) step
step_calls S log journal c calls k i left step here = subst (JobCalls S log journal) (job_is c k left (Busy i step) here) (calls k)

module _ (S : Setting) (volume : IsFirstVolume S) (log : List Call) (journal : List Entry) (c : Control) (n : ℕ) (mine : Mine S c) (count : n ≡ length log) (stamps : AllBelow n journal)
    (old : Calls S log journal c.clients) where
  job_more : (x : Option Call) (new : List Entry) (job : Job) → ((i : ℕ) (step : JobStep) → job ≡ Busy i step → has_event (is_submit i) new ≡ false)
      → ((i : ℕ) (step : JobStep) → job ≡ Busy i step → holds_by S (row_at S i) i step ≡ true → OnBut S (unwritten step) (Leaves S x i))
      → JobCalls S log journal job → JobCalls S (log_after log x) (journal ++ new) job
  job_more x new NoJob none leaves h = tt
  job_more x new (Busy i step) none leaves h =
      let since : submitted_from i 0 journal ≡ submitted_from i 0 (journal ++ new) = sym (submitted-append i 0 journal new ∙ submitted_same i (submitted_from i 0 journal) new (none i step refl)) in
      subst (λ z. StepCalls S (log_after log x) i z step) since (step_more S log x i (submitted_from i 0 journal) step (leaves i step refl) h)

  -- the clients are the same, and no job's operation is submitted
  more : (x : Option Call) (new : List Entry) → ((j i : ℕ) (step : JobStep) → job_of c.clients j ≡ Busy i step → has_event (is_submit i) new ≡ false)
      → EachLeaves S c.clients x → Calls S (log_after log x) (journal ++ new) c.clients
  more x new none leaves j = job_more x new (job_of c.clients j) (none j) (leaves j) (old j)

  same : (x : Option Call) (new : List Entry) → ((i : ℕ) → has_event (is_submit i) new ≡ false) → EachLeaves S c.clients x → Calls S (log_after log x) (journal ++ new) c.clients
  same x new none leaves = more x new (λ j i step is. none i) leaves

  no_call : EachLeaves S c.clients None
  no_call j i step busy holding d member out = tt

  call_leaves : (e : ℕ) (what : What) (went : Bool) → AsksFor S c e what → EachLeaves S c.clients (Some (call e what went))
  call_leaves e what went asked j i step busy holding d member out on = asked_leaves S volume c mine e what asked j i step busy holding d member out on

  -- A SUBMIT

  not_again : (k i : ℕ) (rest : List ℕ) → Has c k (i ∷ rest) NoJob → (j m : ℕ) (step : JobStep) → job_of c.clients j ≡ Busy m step → (i == m) ≡ false
  not_again k i rest here j m step is = at (j == k) refl
    where
      at : (b : Bool) → (j == k) ≡ b → (i == m) ≡ false
      at true e = absurd (
          let idle : job_of c.clients k ≡ NoJob = job_is c k (i ∷ rest) NoJob here in
          let own : j ≡ k = grind (arith, nat_tests, e) in
          let busy : NoJob ≡ Busy m step = sym (ap (job_of c.clients) own ∙ idle) ∙ is in
          cc busy)
      at false e = not_submitted S c k i rest mine here j (λ own. absurd (let equal : (j == k) ≡ true = grind (arith, nat_tests, own) in cc (equal, e))) m step is

  submits : (new : List Entry) (k i : ℕ) (rest : List ℕ) (job : Job) → Has c k (i ∷ rest) NoJob → ((m : ℕ) → (i == m) ≡ false → has_event (is_submit m) new ≡ false)
      → JobCalls S log (journal ++ new) job → Calls S log (journal ++ new) (slice_set c.clients k (record { left = rest; job = job }))
  submits new k i rest job here none calls =
      each_set (λ j client. JobCalls S log (journal ++ new) client.job) c.clients k (record { left = rest; job = job }) (there_left c k i rest NoJob here)
      (more None new (λ j m step is. none m (not_again k i rest here j m step is)) no_call) calls

  -- A CALL FOR A JOB

  since_now : (i : ℕ) → submitted_from i 0 journal ≤ length log
  since_now i = subst (λ z. submitted_from i 0 journal ≤ z) count (submitted_most i 0 n journal (omega arith) stamps)

  calls_for : (e : ℕ) (what : What) (k i : ℕ) (left : List ℕ) (step next : JobStep) → Has c k left (Busy i step) → AsksFor S c e what
      → StepCalls S (log ++ call e what true ∷ []) i (submitted_from i 0 journal) next
      → Calls S (log ++ call e what true ∷ []) (journal ++ []) (slice_set c.clients k (record { left = left; job = Busy i next }))
  calls_for e what k i left step next here asked calls =
      each_set (λ j client. JobCalls S (log ++ call e what true ∷ []) (journal ++ []) client.job) c.clients k (record { left = left; job = Busy i next }) (there_busy c k i left step here)
      (same (Some (call e what true)) [] (λ m. refl) (call_leaves e what true asked))
      (subst (λ z. StepCalls S (log ++ call e what true ∷ []) i (submitted_from i 0 z) next) (sym (append-nil journal)) calls)

  -- a member is written
  put_but : (k i : ℕ) (left : List ℕ) (step : JobStep) (d : ℕ) (ds : List ℕ) → Has c k left (Busy i step) → need_now S c k i step ≡ Writes d ds → OnBut S (d ∷ ds) (IsPut S log i (submitted_from i 0 journal))
  put_but k i left step d ds here need = elim (writes_from S c k i step d ds (needs S c k i step _ need (λ none. absurd cc))) [
    | inl waits ↦ λ e member out. absurd (let inside : has_disk e (d ∷ ds) ≡ true = subst (λ ms. has_disk e ms ≡ true) waits.1 member in cc (inside, out))
    | inr writes ↦ (subst (StepCalls S log i (submitted_from i 0 journal)) writes (step_calls S log journal c old k i left step here)).put
  ]

  put_calls : (k i : ℕ) (left : List ℕ) (step : JobStep) (d : ℕ) (ds : List ℕ) → Has c k left (Busy i step) → need_now S c k i step ≡ Writes d ds
      → StepCalls S (log ++ call d (Write (at_row S (row_at S i)) (value_at S i ∷ []) 1) true ∷ []) i (submitted_from i 0 journal) (after_write S ds)
  put_calls k i left step d ds here need = next ds put
    where
      y : Call
      y = call d (Write (at_row S (row_at S i)) (value_at S i ∷ []) 1) true

      is_member : has_disk d S.members ≡ true
      is_member = (subst (NeedIn S.members) need (need_in S c k i step (of_job S c k i left step mine here).inside)).0

      -- it is the last call
      none_behind : Stays S (log ++ y ∷ []) i (length log) d
      none_behind m later behind is on = absurd (let within = slice_get_within (log ++ y ∷ []) m later is in omega (arith, behind, within, length-append log (y ∷ [])))

      put : OnBut S ds (IsPut S (log ++ y ∷ []) i (submitted_from i 0 journal))
      put e member out = at (d == e) refl
        where
          at : (b : Bool) → (d == e) ≡ b → IsPut S (log ++ y ∷ []) i (submitted_from i 0 journal) e
          at true is =
              let equal : d ≡ e = grind (arith, nat_tests, is) in
              subst (IsPut S (log ++ y ∷ []) i (submitted_from i 0 journal)) equal (record { write = length log; from = since_now i; written = last_call log y; stays = none_behind })
          at false is =
              put_more S log (Some y) i (submitted_from i 0 journal) e (λ on. absurd (let equal : (d == e) ≡ true = grind (arith, nat_tests, on) in cc (equal, is)))
              (put_but k i left step d ds here need e member (rw (is, out) refl))

      next : (ds : List ℕ) → OnBut S ds (IsPut S (log ++ y ∷ []) i (submitted_from i 0 journal)) → StepCalls S (log ++ y ∷ []) i (submitted_from i 0 journal) (after_write S ds)
      next [] put = record { disk = d; member = is_member; put = put; synced = λ e member out. absurd (cc (member, out)) }
      next (e ∷ es) put = record { disk = d; member = is_member; put = put }

  -- a member is synced
  sync_calls : (k i : ℕ) (left : List ℕ) (step : JobStep) (d : ℕ) (ds : List ℕ) → Has c k left (Busy i step) → need_now S c k i step ≡ Syncs d ds
      → StepCalls S (log ++ call d Sync true ∷ []) i (submitted_from i 0 journal) (after_sync ds)
  sync_calls k i left step d ds here need = next ds synced
    where
      y : Call
      y = call d Sync true

      before : SyncedBut S log i (submitted_from i 0 journal) (d ∷ ds)
      before = subst (StepCalls S log i (submitted_from i 0 journal)) (syncs_from S c k i step d ds (needs S c k i step _ need (λ none. absurd cc))) (step_calls S log journal c old k i left step here)

      is_member : has_disk d S.members ≡ true
      is_member = (subst (NeedIn S.members) need (need_in S c k i step (of_job S c k i left step mine here).inside)).0

      now : IsSynced S (log ++ y ∷ []) i (submitted_from i 0 journal) d
      now =
          let p : IsPut S log i (submitted_from i 0 journal) d = before.put d is_member refl in
          let synced : WentAt (log ++ y ∷ []) (length log) d Sync = last_call log y in
          let after : Stays S (log ++ y ∷ []) i p.write d = stays_more S log (Some y) i p.write d (λ on. tt) p.stays in
          record {
            write = p.write;
            sync = length log;
            from = p.from;
            behind = slice_get_within log p.write _ p.written;
            until = slice_get_within (log ++ y ∷ []) (length log) y synced;
            written = went_more log (Some y) p.write d _ p.written;
            synced = synced;
            stays = λ m later behind until is on. after m later behind is on;
          }

      synced : OnBut S ds (IsSynced S (log ++ y ∷ []) i (submitted_from i 0 journal))
      synced e member out = at (d == e) refl
        where
          at : (b : Bool) → (d == e) ≡ b → IsSynced S (log ++ y ∷ []) i (submitted_from i 0 journal) e
          at true is = let equal : d ≡ e = grind (arith, nat_tests, is) in subst (IsSynced S (log ++ y ∷ []) i (submitted_from i 0 journal)) equal now
          at false is = synced_more S log (Some y) i (submitted_from i 0 journal) e (λ on. tt) (before.synced e member (rw (is, out) refl))

      all : (left : List ℕ) → OnBut S left (IsSynced S (log ++ y ∷ []) i (submitted_from i 0 journal)) → SyncedBut S (log ++ y ∷ []) i (submitted_from i 0 journal) left
      all left synced = record {
        disk = before.disk;
        member = before.member;
        put = λ e member out. put_more S log (Some y) i (submitted_from i 0 journal) e (λ on. tt) (before.put e member out);
        synced = synced;
      }

      next : (ds : List ℕ) → OnBut S ds (IsSynced S (log ++ y ∷ []) i (submitted_from i 0 journal)) → StepCalls S (log ++ y ∷ []) i (submitted_from i 0 journal) (after_sync ds)
      next [] synced = all [] synced
      next (e ∷ es) synced = all (e ∷ es) synced

  -- a member is read
  get_calls : (k i : ℕ) (left : List ℕ) (step : JobStep) (d : ℕ) (got : Sector) → Has c k left (Busy i step) → need_now S c k i step ≡ Reads d
      → StepCalls S (log ++ call d (Read (at_row S (row_at S i))) true ∷ []) i (submitted_from i 0 journal) (Got got)
  get_calls k i left step d got here need = record {
    read = length log;
    disk = d;
    member = subst (NeedIn S.members) need (need_in S c k i step (of_job S c k i left step mine here).inside);
    from = since_now i;
    went = last_call log (call d (Read (at_row S (row_at S i))) true);
  }

  -- ALL TURNS

  pub calls_turns : (got : Sector) {x : Option Call} {es : List Event} {next : Control} → Turns S c got x es next → Calls S (log_after log x) (journal ++ stamped (calls_after n x) es) next.clients
  calls_turns got nothing = same None [] (λ i. refl) no_call
  calls_turns got (fails d what asked) = same (Some (call d what false)) [] (λ i. refl) (call_leaves d what false asked)
  calls_turns got (anchors m d ds is) = same (Some (call d _ true)) [] (λ i. refl) (call_leaves d _ true (anchor m d ds 1 is))
  calls_turns got (settles m d e ds is) = same (Some (call d Sync true)) [] (λ i. refl) (call_leaves d Sync true (settle m d (e ∷ ds) is))
  calls_turns got (ends m d is) = same (Some (call d Sync true)) _ (λ i. refl) (call_leaves d Sync true (settle m d [] is))
  calls_turns got (begins d ds is some why) = same None _ (λ i. refl) no_call
  calls_turns got (readies is s t) = same None _ (λ i. refl) no_call
  calls_turns got (actives is s t r) = same None _ (λ i. refl) no_call
  calls_turns got (cleans is s t) = same None _ (λ i. refl) no_call
  calls_turns got (rests t calm) = same None _ (λ i. refl) no_call
  calls_turns got (pasts k i rest here none) = submits (stamped n (Submit i ∷ Ack i Past ∷ [])) k i rest NoJob here (λ m apart. rw apart refl) tt
  calls_turns got (asks_read k i rest place here is w ready) = submits (stamped n (Submit i ∷ [])) k i rest (Busy i Waiting) here (λ m apart. rw apart refl) tt
  calls_turns got (asks_write k i rest place here is w ready) = submits (stamped n (Submit i ∷ asked_events c.state)) k i rest (Busy i Waiting) here (one_submit n i c.state) tt
  calls_turns got (puts k i left step d ds here need) = calls_for d _ k i left step (after_write S ds) here (put k i left step d ds 1 here need) (put_calls k i left step d ds here need)
  calls_turns got (syncs k i left step d ds here need) = calls_for d _ k i left step (after_sync ds) here (sync k i left step d ds here need) (sync_calls k i left step d ds here need)
  calls_turns got (gets k i left step d here need) = calls_for d _ k i left step (Got got) here (get k i left step d here need) (get_calls k i left step d got here need)
  calls_turns got (acks k i left step answer here need) =
      each_set (λ j client. JobCalls S log (journal ++ stamped n (Ack i answer ∷ [])) client.job) c.clients k (record { left = left; job = NoJob }) (there_busy c k i left step here)
      (same None (stamped n (Ack i answer ∷ [])) (λ m. refl) no_call) tt

-- EACH RUN

pub calls_reached : (S : Setting) → IsFirstVolume S → (w : World) → Reached S w → Calls S w.log w.journal w.control.clients
calls_reached S volume w opens = λ k. elim (at_start S k) [
  | inl first ↦ subst (λ (x : Client). JobCalls S [] [] x.job) (sym first.1) tt
  | inr past ↦ subst (λ (x : Client). JobCalls S [] [] x.job) (sym past.1) tt
]
calls_reached S volume w (goes {w = v} r a) =
    let counted = counted_reached S v r in
    calls_turns S volume v.log v.journal v.control v.calls (mine_reached S v r) counted.calls counted.below (calls_reached S volume v r) (got_of a) (turns_of S v.control a)
