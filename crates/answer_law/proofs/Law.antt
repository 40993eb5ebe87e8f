-- The answer law, kept by each turn.
use Rattle.std.proofs.Common.{◌≡◌, ◌≢◌, ℕ, ◌<◌, ◌≤◌, ◌==◌, Bool, true, false, List, [], ◌∷◌, ◌++◌, length, refl, ap, sym, ◌∙◌, subst, arith, inl, inr, Option, Some, None, slice_set, length-append}
use Rattle.std.proofs.lemmas.Bool.Decides.{nat_tests}
use Rattle.std.proofs.lemmas.List.{append-nil}
use Rattle.units.specs.declared.disk.Sector.{Sector}
use Rattle.device_log.specs.Log.{Call, What, Read, Write, Sync}
use Rattle.array_model.specs.declared.script.OpKind.{OpKind}
use Rattle.array_model.specs.declared.script.OpKind.TheVariants.{Write as OpWrite, Read as OpRead, Whole as OpWhole}
use Rattle.array_model.specs.declared.journal.Entry.{Entry}
use Rattle.array_model.specs.declared.journal.Event.{Event}
use Rattle.array_model.specs.declared.journal.Event.TheVariants.{Submit, Ack}
use Rattle.array_model.specs.declared.journal.Answer.{Answer}
use Rattle.array_model.specs.declared.journal.Answer.TheVariants.{Done, Value, Past}
use Rattle.array_model.specs.Script.{kind_at, is_of_client}
use Rattle.units.specs.Places.{anchor_place}
use Rattle.array_model.specs.Blocks.{Laid}
use Rattle.array_model.specs.Placement.{placement_of}
use Rattle.array_model.specs.Events.{AtEachFrom, has as has_event, is_submit}
use Rattle.array_model.specs.Moments.{AllBelow}
use Rattle.array_model.specs.Content.{is_still_unsure}
use Rattle.array_model.specs.AnswerLaw.{ValueAt, ValueOf, IsValue, IsGivenAt, IsGiven, submitted_from}
use Rattle.stage_machine.specs.Setting.{Setting, has_disk}
use Rattle.stage_machine.specs.Opens.{AsksFirst, IsFirstVolume}
use Rattle.stage_machine.specs.States.{State, IsReadonly, IsReadAuto, IsClean, IsPending, IsActive, IsIdle, asked_events}
use Rattle.stage_machine.specs.Jobs.{JobStep, Waiting, Written, Got, Job, NoJob, Busy, Client, client_at, the_shape, sector_in, row_at, row_in, value_at, is_write, holds, Need, NoNeed, Reads, Writes, Answers, after_write, after_sync}
use Rattle.stage_machine.specs.Machine.{Control, need_now, GaveOf, stamped, calls_after, log_after}
use Rattle.stage_machine.proofs.Turns.{Turns, Has, nothing, fails, anchors, settles, ends, begins, readies, actives, cleans, rests, pasts, asks_read, asks_write, puts, syncs, gets, acks}
use Rattle.stage_machine.proofs.Clients.{Mine, of_left, of_job, IsJob, at_set, there_left, there_busy, row_below, NeedIn, need_in, kind_first, one_submit}
use Rattle.stage_machine.proofs.Targets.{call}
use Rattle.answer_law.proofs.Order.{not_other}
use Rattle.answer_law.proofs.JobKinds.{Fits, fits_of, is_read_kind}
use Rattle.answer_law.proofs.Locks.{job_of, alone_now}
use Rattle.answer_law.proofs.Rows.{stood, at_row, Spares, spares_read, spares_sync, spares_write, stood_spared, stood_put, other_row, anchor_spares, con, unsure, Plain, plain_con, plain_unsure, row_is, done_here, done_there, sure_there, given_now, submitted_most}
use Rattle.answer_law.proofs.Values.{WrittenBut, StepVals, JobVals, writes_row, NoWriter, Vals, needs, written_but, written_all, answers_from, reads_waits, writes_own, writes_after_write, writes_after_sync, writes_holds, no_writer_back, carry_job, given_later}

-- CALM TURNS: no row is written, and no write is acknowledged as done

pub record Calm (S : Setting) (log more : List Call) (new : List Entry) : Type 0 where
  pub stood_same : (row d : ℕ) → row < (the_shape S).size → has_disk d S.members ≡ true → stood S more d row ≡ stood S log d row
  pub plain : Plain S new

module _ (S : Setting) (volume : IsFirstVolume S) where
  -- entries that are no acks of done writes
  plain_none : Plain S []
  plain_none = record { content_same = λ row x. refl; none_done = λ row. refl }

  calm_none : (log : List Call) (new : List Entry) → Plain S new → Calm S log log new
  calm_none log new plain = record { stood_same = λ row d below member. refl; plain = plain }

  calm_call : (log : List Call) (e : ℕ) (what : What) (went : Bool) (new : List Entry) → ((row d : ℕ) → row < (the_shape S).size → has_disk d S.members ≡ true → e ≡ d → Spares (at_row S row) what) → Plain S new
      → Calm S log (log ++ call e what went ∷ []) new
  calm_call log e what went new spares plain = record {
    stood_same = λ row d below member. stood_spared S log e d row what went (spares row d below member);
    plain = plain;
  }

  module _ (log : List Call) (journal : List Entry) (c : Control) (mine : Mine S c) (old : Vals S log journal c.clients) where
    -- the job of a client is carried over a calm turn that doesn't submit its operation
    calm_job : (x : Option Call) (new : List Entry) → Calm S log (log_after log x) new → (j : ℕ) → ((i : ℕ) (step : JobStep) → job_of c.clients j ≡ Busy i step → has_event (is_submit i) new ≡ false)
        → JobVals S (log_after log x) (journal ++ new) (job_of c.clients j)
    calm_job x new calm j none = carry_job S log journal (log_after log x) (journal ++ new) (job_of c.clients j)
        (λ i step is held.
        let job : IsJob S j i step = of_job S c j i (client_at c.clients j).left step mine (ap (λ (z : Job). record { left = (client_at c.clients j).left; job = z }) is) in
        let below = row_below S volume.level i job.place job.placed in
        record {
          stood_same = λ d member. calm.stood_same (row_at S i) d below member;
          con_same = plain_con S journal new calm.plain (row_at S i);
          unsure_same = plain_unsure S journal new calm.plain (row_at S i);
          given = λ v given. given_later S log journal new x i v (none i step is) given;
        })
        (old.jobs j)

    -- the clients are the same
    calm_same : (x : Option Call) (new : List Entry) → Calm S log (log_after log x) new → ((i : ℕ) → has_event (is_submit i) new ≡ false) → Vals S (log_after log x) (journal ++ new) c.clients
    calm_same x new calm none = record {
      jobs = λ j. calm_job x new calm j (λ i step is. none i);
      free = λ row d below no_writer member sure.
          calm.stood_same row d below member
          ∙ old.free row d below no_writer member (sym (plain_unsure S journal new calm.plain row) ∙ sure)
          ∙ sym (plain_con S journal new calm.plain row);
    }

    -- one client is set
    calm_set : (x : Option Call) (new : List Entry) → Calm S log (log_after log x) new → (k : ℕ) (client : Client) → k < length c.clients
        → ((j : ℕ) → j ≢ k → (i : ℕ) (step : JobStep) → job_of c.clients j ≡ Busy i step → has_event (is_submit i) new ≡ false)
        → JobVals S (log_after log x) (journal ++ new) client.job
        → ((row : ℕ) → writes_row S row client.job ≡ false → writes_row S row (job_of c.clients k) ≡ false)
        → Vals S (log_after log x) (journal ++ new) (slice_set c.clients k client)
    calm_set x new calm k client lt none here back = record {
      jobs = λ j. elim (at_set c.clients k client j lt) [
        | inl same ↦ subst (λ (z : Client). JobVals S (log_after log x) (journal ++ new) z.job) (sym same.1) here
        | inr other ↦ subst (λ (z : Client). JobVals S (log_after log x) (journal ++ new) z.job) (sym other.1) (calm_job x new calm j (none j other.0))
      ];
      free = λ row d below no_writer member sure.
          calm.stood_same row d below member
          ∙ old.free row d below (no_writer_back S c.clients k client row lt (back row) no_writer) member (sym (plain_unsure S journal new calm.plain row) ∙ sure)
          ∙ sym (plain_con S journal new calm.plain row);
    }

-- A SUBMIT OF ANOTHER CLIENT

pub job_is : (c : Control) (k : ℕ) (left : List ℕ) (job : Job) → Has c k left job → job_of c.clients k ≡ job
job_is c k left job has_disk = ap (λ (x : Client). x.job) has_disk

-- no other client's job is of an operation that client k submits
pub not_submitted : (S : Setting) (c : Control) (k i : ℕ) (rest : List ℕ) → Mine S c → Has c k (i ∷ rest) NoJob → (j : ℕ) → j ≢ k → (m : ℕ) (step : JobStep) → job_of c.clients j ≡ Busy m step → (i == m) ≡ false
not_submitted S c k i rest mine here j apart m step is = at (i == m) refl
  where
    job : IsJob S j m step
    job = of_job S c j m (client_at c.clients j).left step mine (ap (λ (z : Job). record { left = (client_at c.clients j).left; job = z }) is)

    other : is_of_client S.asked.ops j i ≡ false
    other = not_other S.asked.ops j k i (of_left S c k i rest NoJob mine here) apart

    at : (b : Bool) → (i == m) ≡ b → (i == m) ≡ false
    at true e = absurd (
        let same : m ≡ i = grind (arith, nat_tests, e) in
        let own : is_of_client S.asked.ops j i ≡ true = subst (λ z. is_of_client S.asked.ops j z ≡ true) same job.mine in
        cc (own, other))
    at false e = e

-- EACH TURN

module _ (S : Setting) (asks : AsksFirst S) (volume : IsFirstVolume S) (log : List Call) (journal : List Entry) (c : Control) (got : Sector) (n : ℕ)
    (mine : Mine S c) (fits : Fits S c) (count : n ≡ length log) (stamps : AllBelow n journal) (old : Vals S log journal c.clients) where
  step_vals : (k i : ℕ) (left : List ℕ) (step : JobStep) → Has c k left (Busy i step) → StepVals S log journal i step
  step_vals k i left step here = subst (JobVals S log journal) (job_is c k left (Busy i step) here) (old.jobs k)

  row_inside_size : (k i : ℕ) (left : List ℕ) (step : JobStep) → Has c k left (Busy i step) → row_at S i < (the_shape S).size
  row_inside_size k i left step here = let job = of_job S c k i left step mine here in row_below S volume.level i job.place job.placed

  -- a job that needs something isn't of a row that another job holds
  others_rows : (k i : ℕ) (left : List ℕ) (step : JobStep) (need : Need) → need_now S c k i step ≡ need → (NoNeed ≡ need → ⊥)
      → (j : ℕ) → j ≢ k → (m : ℕ) (other : JobStep) → job_of c.clients j ≡ Busy m other → holds S (row_at S m) (job_of c.clients j) ≡ true → (row_at S i == row_at S m) ≡ false
  others_rows k i left step need is some j apart m other busy held = at (row_at S i == row_at S m) refl
    where
      at : (b : Bool) → (row_at S i == row_at S m) ≡ b → (row_at S i == row_at S m) ≡ false
      at true e = absurd (
          let same : row_at S i ≡ row_at S m = grind (arith, nat_tests, e) in
          let free : holds S (row_at S m) (job_of c.clients j) ≡ false = subst (λ z. holds S z (job_of c.clients j) ≡ false) same (alone_now S c k i step need is some j apart) in
          cc (free, held))
      at false e = e

  -- A ROW IS WRITTEN

  put_but : (k i : ℕ) (left : List ℕ) (step : JobStep) (e : ℕ) (ds : List ℕ) → Has c k left (Busy i step) → need_now S c k i step ≡ Writes e ds
      → WrittenBut S (log ++ call e (Write (at_row S (row_at S i)) (value_at S i ∷ []) 1) true ∷ []) i ds
  put_but k i left step e ds here need d member out = at (e == d) refl
    where
      before : WrittenBut S log i (e ∷ ds)
      before = written_but S c k i log journal step e ds (needs S c k i step _ need (λ none. absurd cc)) (step_vals k i left step here)

      at : (b : Bool) → (e == d) ≡ b → stood S (log ++ call e (Write (at_row S (row_at S i)) (value_at S i ∷ []) 1) true ∷ []) d (row_at S i) ≡ value_at S i
      at true is =
          let same : e ≡ d = grind (arith, nat_tests, is) in
          subst (λ z. stood S (log ++ call e (Write (at_row S (row_at S i)) (value_at S i ∷ []) 1) true ∷ []) z (row_at S i) ≡ value_at S i) same (stood_put S log e (row_at S i) (value_at S i))
      at false is =
          let unlike : e ≡ d → ⊥ = λ same. absurd (let yes_same : (e == d) ≡ true = grind (arith, nat_tests, same) in cc (yes_same, is)) in
          stood_spared S log e d (row_at S i) (Write (at_row S (row_at S i)) (value_at S i ∷ []) 1) true (λ same. absurd (unlike same))
          ∙ before d member (rw (is, out) refl)

  after_write_vals : (more : List Call) (later : List Entry) (i : ℕ) (ds : List ℕ) → WrittenBut S more i ds → StepVals S more later i (after_write S ds)
  after_write_vals more later i [] h = h
  after_write_vals more later i (d ∷ ds) h = h

  after_sync_vals : (more : List Call) (later : List Entry) (i : ℕ) (ds : List ℕ) → WrittenBut S more i [] → StepVals S more later i (after_sync ds)
  after_sync_vals more later i [] h = h
  after_sync_vals more later i (d ∷ ds) h = h

  vals_put : (k i : ℕ) (left : List ℕ) (step : JobStep) (e : ℕ) (ds : List ℕ) → Has c k left (Busy i step) → need_now S c k i step ≡ Writes e ds
      → Vals S (log ++ call e (Write (at_row S (row_at S i)) (value_at S i ∷ []) 1) true ∷ []) (journal ++ []) (slice_set c.clients k (record { left = left; job = Busy i (after_write S ds) }))
  vals_put k i left step e ds here need = record {
    jobs = λ j. elim (at_set c.clients k client j lt) [
      | inl same ↦ subst (λ (z : Client). JobVals S more (journal ++ []) z.job) (sym same.1) (after_write_vals more (journal ++ []) i ds (put_but k i left step e ds here need))
      | inr other ↦ subst (λ (z : Client). JobVals S more (journal ++ []) z.job) (sym other.1)
          (carry_job S log journal more (journal ++ []) (job_of c.clients j)
          (λ m step2 is held. record {
            stood_same = λ d member. stood_there (row_at S m) (others_rows k i left step _ need (λ none. absurd cc) j other.0 m step2 is held) d;
            con_same = plain_con S journal [] (plain_none S volume) (row_at S m);
            unsure_same = plain_unsure S journal [] (plain_none S volume) (row_at S m);
            given = λ v given. given_later S log journal [] (Some (call e (Write (at_row S (row_at S i)) (value_at S i ∷ []) 1) true)) m v refl given;
          })
          (old.jobs j))
    ];
    free = λ row d below no_writer member sure.
        let apart : (row_at S i == row) ≡ false = own row no_writer in
        stood_there row apart d
        ∙ old.free row d below (no_writer_back S c.clients k client row lt (λ h. ap (writes_row S row) (job_is c k left (Busy i step) here) ∙ writes_own S row i step apart) no_writer) member
        (sym (plain_unsure S journal [] (plain_none S volume) row) ∙ sure)
        ∙ sym (plain_con S journal [] (plain_none S volume) row);
  }
    where
      client : Client
      client = record { left = left; job = Busy i (after_write S ds) }

      more : List Call
      more = log ++ call e (Write (at_row S (row_at S i)) (value_at S i ∷ []) 1) true ∷ []

      lt : k < length c.clients
      lt = there_busy c k i left step here

      stood_there : (row : ℕ) → (row_at S i == row) ≡ false → (d : ℕ) → stood S (log ++ call e (Write (at_row S (row_at S i)) (value_at S i ∷ []) 1) true ∷ []) d row ≡ stood S log d row
      stood_there row apart d = stood_spared S log e d row (Write (at_row S (row_at S i)) (value_at S i ∷ []) 1) true (λ same. spares_write _ 1 _ (other_row S (row_at S i) row apart))

      own : (row : ℕ) → NoWriter S (slice_set c.clients k (record { left = left; job = Busy i (after_write S ds) })) row → (row_at S i == row) ≡ false
      own row no_writer = elim (at_set c.clients k (record { left = left; job = Busy i (after_write S ds) }) k (there_busy c k i left step here)) [
        | inl same ↦ sym (writes_after_write S row i ds) ∙ sym (ap (λ (y : Client). writes_row S row y.job) same.1) ∙ no_writer k
        | inr other ↦ absurd (other.0 refl)
      ]

  -- A WRITE IS DONE

  vals_done : (k i : ℕ) (left : List ℕ) → Has c k left (Busy i Written) → need_now S c k i Written ≡ Answers Done
      → Vals S log (journal ++ record { stamp = n; event = Ack i Done } ∷ []) (slice_set c.clients k (record { left = left; job = NoJob }))
  vals_done k i left here need = record {
    jobs = λ j. elim (at_set c.clients k (record { left = left; job = NoJob }) j lt) [
      | inl same ↦ subst (λ (z : Client). JobVals S log later z.job) (sym same.1) tt
      | inr other ↦ subst (λ (z : Client). JobVals S log later z.job) (sym other.1)
          (carry_job S log journal log later (job_of c.clients j)
          (λ m step2 is held.
          let apart = others_rows k i left Written _ need (λ none. absurd cc) j other.0 m step2 is held in
          record {
            stood_same = λ d member. refl;
            con_same = done_there S asks volume i job.place job.placed a_write n journal (row_at S m) apart;
            unsure_same = sure_there S asks volume i job.place job.placed a_write n journal (row_at S m) apart;
            given = λ v given. given_later S log journal (record { stamp = n; event = Ack i Done } ∷ []) None m v refl given;
          })
          (old.jobs j))
    ];
    free = λ row d below no_writer member sure. at row d below no_writer member sure (row_at S i == row) refl;
  }
    where
      later : List Entry
      later = journal ++ record { stamp = n; event = Ack i Done } ∷ []

      lt : k < length c.clients
      lt = there_busy c k i left Written here

      job : IsJob S k i Written
      job = of_job S c k i left Written mine here

      a_write : is_write S i ≡ true
      a_write = fits_of S c k i left Written fits here

      at : (row d : ℕ) → row < (the_shape S).size → NoWriter S (slice_set c.clients k (record { left = left; job = NoJob })) row → has_disk d S.members ≡ true
          → unsure S (journal ++ record { stamp = n; event = Ack i Done } ∷ []) row ≡ false
          → (b : Bool) → (row_at S i == row) ≡ b → stood S log d row ≡ con S (journal ++ record { stamp = n; event = Ack i Done } ∷ []) row
      at row d below no_writer member sure true is =
          let same : row_at S i ≡ row = grind (arith, nat_tests, is) in
          subst (λ z. stood S log d z ≡ con S (journal ++ record { stamp = n; event = Ack i Done } ∷ []) z) same
          (step_vals k i left Written here d member refl ∙ sym (done_here S asks volume i job.place job.placed a_write n journal))
      at row d below no_writer member sure false apart =
          old.free row d below
          (no_writer_back S c.clients k (record { left = left; job = NoJob }) row lt (λ h. ap (writes_row S row) (job_is c k left (Busy i Written) here) ∙ apart) no_writer) member
          (sym (sure_there S asks volume i job.place job.placed a_write n journal row apart) ∙ sure)
          ∙ sym (done_there S asks volume i job.place job.placed a_write n journal row apart)

  -- A VALUE IS READ

  got_vals : (k i : ℕ) (left : List ℕ) (step : JobStep) (d : ℕ) → Has c k left (Busy i step) → need_now S c k i step ≡ Reads d → got ≡ stood S log d (row_at S i)
      → StepVals S (log ++ call d (Read (at_row S (row_at S i))) true ∷ []) (journal ++ []) i (Got got)
  got_vals k i left step d here need gave = (
    (λ sure. gave ∙ old.free (row_at S i) d (row_inside_size k i left step here) quiet member (sym (plain_unsure S journal [] (plain_none S volume) (row_at S i)) ∙ sure)
        ∙ sym (plain_con S journal [] (plain_none S volume) (row_at S i))),
    given_now S log d (row_at S i) (submitted_from i 0 (journal ++ [])) (length (log ++ call d (Read (at_row S (row_at S i))) true ∷ [])) got since
        (omega (arith, length-append log (call d (Read (at_row S (row_at S i))) true ∷ []))) gave,
  )
    where
      member : has_disk d S.members ≡ true
      member = subst (NeedIn S.members) need (need_in S c k i step (of_job S c k i left step mine here).inside)

      waits : step ≡ Waiting
      waits = reads_waits S c k i step d (needs S c k i step _ need (λ none. absurd cc))

      quiet : NoWriter S c.clients (row_at S i)
      quiet j = at (j == k) refl
        where
          at : (b : Bool) → (j == k) ≡ b → writes_row S (row_at S i) (job_of c.clients j) ≡ false
          at true is =
              let same : j ≡ k = grind (arith, nat_tests, is) in
              subst (λ z. writes_row S (row_at S i) (job_of c.clients z) ≡ false) (sym same) (ap (writes_row S (row_at S i)) (job_is c k left (Busy i step) here ∙ ap (Busy i) waits))
          at false is =
              let unlike : j ≢ k = λ same. absurd (let yes_same : (j == k) ≡ true = grind (arith, nat_tests, same) in cc (yes_same, is)) in
              writes_holds S (row_at S i) (job_of c.clients j) (alone_now S c k i step _ need (λ none. absurd cc) j unlike)

      since : submitted_from i 0 (journal ++ []) ≤ length log
      since = subst (λ z. submitted_from i 0 z ≤ length log) (sym (append-nil journal)) (subst (λ z. submitted_from i 0 journal ≤ z) count (submitted_most i 0 n journal (omega arith) stamps))

  -- ALL TURNS

  same_none : (new : List Entry) → Plain S new → ((i : ℕ) → has_event (is_submit i) new ≡ false) → Vals S log (journal ++ new) c.clients
  same_none new plain none = calm_same S volume log journal c mine old None new (calm_none S volume log new plain) none

  same_call : (e : ℕ) (what : What) (went : Bool) (new : List Entry) → ((row d : ℕ) → row < (the_shape S).size → has_disk d S.members ≡ true → e ≡ d → Spares (at_row S row) what)
      → Plain S new → ((i : ℕ) → has_event (is_submit i) new ≡ false) → Vals S (log ++ call e what went ∷ []) (journal ++ new) c.clients
  same_call e what went new spares plain none = calm_same S volume log journal c mine old (Some (call e what went)) new (calm_call S volume log e what went new spares plain) none

  -- a client with no job submits an operation
  submits : (new : List Entry) (k i : ℕ) (rest : List ℕ) (job : Job) → Has c k (i ∷ rest) NoJob → Plain S new → ((m : ℕ) → (i == m) ≡ false → has_event (is_submit m) new ≡ false)
      → JobVals S log (journal ++ new) job → Vals S log (journal ++ new) (slice_set c.clients k (record { left = rest; job = job }))
  submits new k i rest job here plain none vals =
      calm_set S volume log journal c mine old None new (calm_none S volume log new plain) k (record { left = rest; job = job }) (there_left c k i rest NoJob here)
      (λ j apart m step is. none m (not_submitted S c k i rest mine here j apart m step is))
      vals
      (λ row h. ap (writes_row S row) (job_is c k (i ∷ rest) NoJob here))

  anchor_away : (m : Laid) (e : ℕ) (row d : ℕ) → row < (the_shape S).size → has_disk d S.members ≡ true → e ≡ d → Spares (at_row S row) (Write (anchor_place (S.start.disks.sectors e)) (m.anchor ∷ []) 1)
  anchor_away m e row d below member same =
      subst (λ z. Spares (at_row S row) (Write (anchor_place (S.start.disks.sectors z)) (m.anchor ∷ []) 1)) (sym same) (anchor_spares S volume d row 1 m.anchor below (volume.members d member).target)

  -- a value is answered
  vals_value : (k i : ℕ) (left : List ℕ) (v : Sector) → Has c k left (Busy i (Got v))
      → Vals S log (journal ++ record { stamp = n; event = Ack i (Value v) } ∷ []) (slice_set c.clients k (record { left = left; job = NoJob }))
  vals_value k i left v here =
      calm_set S volume log journal c mine old None (record { stamp = n; event = Ack i (Value v) } ∷ []) (calm_none S volume log (record { stamp = n; event = Ack i (Value v) } ∷ []) (record { content_same = λ row x. refl; none_done = λ row. refl })) k
      (record { left = left; job = NoJob }) (there_busy c k i left (Got v) here)
      (λ j apart m step is. refl) tt
      (λ row h. ap (writes_row S row) (job_is c k left (Busy i (Got v)) here))

  vals_acks : (k i : ℕ) (left : List ℕ) (step : JobStep) (answer : Answer) → Has c k left (Busy i step) → need_now S c k i step ≡ Answers answer
      → Vals S log (journal ++ record { stamp = n; event = Ack i answer } ∷ []) (slice_set c.clients k (record { left = left; job = NoJob }))
  vals_acks k i left step answer here need = elim (answers_from S c k i step answer (needs S c k i step _ need (λ none. absurd cc))) [
    | inl done ↦
        let written : Has c k left (Busy i Written) = subst (λ z. Has c k left (Busy i z)) done.0 here in
        let need_done : need_now S c k i Written ≡ Answers Done = subst (λ z. need_now S c k i z ≡ Answers Done) done.0 (need ∙ ap Answers done.1) in
        subst (λ z. Vals S log (journal ++ record { stamp = n; event = Ack i z } ∷ []) (slice_set c.clients k (record { left = left; job = NoJob }))) (sym done.1) (vals_done k i left written need_done)
    | inr value ↦
        let has_value : Has c k left (Busy i (Got value.0)) = subst (λ z. Has c k left (Busy i z)) value.1 here in
        subst (λ z. Vals S log (journal ++ record { stamp = n; event = Ack i z } ∷ []) (slice_set c.clients k (record { left = left; job = NoJob }))) (sym value.2) (vals_value k i left value.0 has_value)
  ]

  plain_state : (i : ℕ) (state : State) → Plain S (record { stamp = n; event = Submit i } ∷ stamped n (asked_events state))
  plain_state i IsReadonly = record { content_same = λ row x. refl; none_done = λ row. refl }
  plain_state i IsReadAuto = record { content_same = λ row x. refl; none_done = λ row. refl }
  plain_state i IsClean = record { content_same = λ row x. refl; none_done = λ row. refl }
  plain_state i IsPending = record { content_same = λ row x. refl; none_done = λ row. refl }
  plain_state i IsActive = record { content_same = λ row x. refl; none_done = λ row. refl }
  plain_state i IsIdle = record { content_same = λ row x. refl; none_done = λ row. refl }

  pub vals_turns : {call : Option Call} {es : List Event} {next : Control} → Turns S c got call es next → GaveOf S log got call → next.failed ≡ None
      → Vals S (log_after log call) (journal ++ stamped (calls_after n call) es) next.clients
  vals_turns nothing gave alive = same_none [] (plain_none S volume) (λ i. refl)
  vals_turns (fails d what asked) gave alive = absurd cc
  vals_turns (anchors m d ds is) gave alive = same_call d _ true [] (anchor_away m d) (plain_none S volume) (λ i. refl)
  vals_turns (settles m d e ds is) gave alive = same_call d Sync true [] (λ row x below member same. spares_sync) (plain_none S volume) (λ i. refl)
  vals_turns (ends m d is) gave alive = same_call d Sync true _ (λ row x below member same. spares_sync) (record { content_same = λ row x. refl; none_done = λ row. refl }) (λ i. refl)
  vals_turns (begins d ds is some why) gave alive = same_none _ (record { content_same = λ row x. refl; none_done = λ row. refl }) (λ i. refl)
  vals_turns (readies is s t) gave alive = same_none _ (record { content_same = λ row x. refl; none_done = λ row. refl }) (λ i. refl)
  vals_turns (actives is s t r) gave alive = same_none _ (record { content_same = λ row x. refl; none_done = λ row. refl }) (λ i. refl)
  vals_turns (cleans is s t) gave alive = same_none _ (record { content_same = λ row x. refl; none_done = λ row. refl }) (λ i. refl)
  vals_turns (rests t calm) gave alive = same_none _ (record { content_same = λ row x. refl; none_done = λ row. refl }) (λ i. refl)
  vals_turns (pasts k i rest here none) gave alive =
      submits (record { stamp = n; event = Submit i } ∷ record { stamp = n; event = Ack i Past } ∷ []) k i rest NoJob here (record { content_same = λ row x. refl; none_done = λ row. refl }) (λ m apart. rw apart refl) tt
  vals_turns (asks_read k i rest place here is w ready) gave alive =
      submits (record { stamp = n; event = Submit i } ∷ []) k i rest (Busy i Waiting) here (record { content_same = λ row x. refl; none_done = λ row. refl }) (λ m apart. rw apart refl) tt
  vals_turns (asks_write k i rest place here is w ready) gave alive =
      submits (record { stamp = n; event = Submit i } ∷ stamped n (asked_events c.state)) k i rest (Busy i Waiting) here (plain_state i c.state) (one_submit n i c.state) tt
  vals_turns (puts k i left step d ds here need) gave alive = vals_put k i left step d ds here need
  vals_turns (syncs k i left step d ds here need) gave alive =
      let before = written_all S c k i log journal step d ds (needs S c k i step _ need (λ none. absurd cc)) (step_vals k i left step here) in
      let calm = calm_call S volume log d Sync true [] (λ row x below member same. spares_sync) (plain_none S volume) in
      calm_set S volume log journal c mine old (Some (call d Sync true)) [] calm k (record { left = left; job = Busy i (after_sync ds) }) (there_busy c k i left step here)
      (λ j apart m other is. refl)
      (after_sync_vals (log ++ call d Sync true ∷ []) (journal ++ []) i ds (λ x member out. calm.stood_same (row_at S i) x (row_inside_size k i left step here) member ∙ before x member out))
      (λ row h. ap (writes_row S row) (job_is c k left (Busy i step) here) ∙ writes_own S row i step (sym (writes_after_sync S row i ds) ∙ h))
  vals_turns (gets k i left step d here need) gave alive =
      let waits = reads_waits S c k i step d (needs S c k i step _ need (λ none. absurd cc)) in
      calm_set S volume log journal c mine old (Some (call d (Read (at_row S (row_at S i))) true)) [] (calm_call S volume log d (Read (at_row S (row_at S i))) true [] (λ row x below member same. spares_read _) (plain_none S volume)) k
      (record { left = left; job = Busy i (Got got) }) (there_busy c k i left step here)
      (λ j apart m other is. refl)
      (got_vals k i left step d here need (gave (at_row S (row_at S i)) refl refl))
      (λ row h. ap (writes_row S row) (job_is c k left (Busy i step) here ∙ ap (Busy i) waits))
  vals_turns (acks k i left step answer here need) gave alive = vals_acks k i left step answer here need

  -- AN ANSWER

  value_of : (k i : ℕ) (left : List ℕ) (v : Sector) → Has c k left (Busy i (Got v)) → ValueOf S.start S.asked.ops log journal n i v (kind_at S.asked.ops i)
  value_of k i left v here = by (kind_at S.asked.ops i) refl (fits_of S c k i left (Got v) fits here)
    where
      job : IsJob S k i (Got v)
      job = of_job S c k i left (Got v) mine here

      vals : StepVals S log journal i (Got v)
      vals = step_vals k i left (Got v) here

      at : (b : Bool) → unsure S journal (row_at S i) ≡ b → (placement_of (the_shape S) (row_at S i) ≡ Some job.place) → IsValue S.start S.asked.ops log journal n i 0 (row_at S i) v b
      at false sure place = vals.0 sure
      at true doubt place =
          let row : row_at S i ≡ job.place.row = ap row_in job.placed in
          subst (λ p. IsGivenAt S.start log 0 p (submitted_from i 0 journal) n v) (sym place)
          (inl (subst (λ z. IsGiven S.start log 0 z (submitted_from i 0 journal) n v) row (subst (λ z. IsGiven S.start log 0 (row_at S i) (submitted_from i 0 journal) z v) (sym count) vals.1)))

      by : (kind : Option OpKind) → kind_at S.asked.ops i ≡ kind → is_read_kind kind ≡ true → ValueOf S.start S.asked.ops log journal n i v kind
      by None is r = absurd cc
      by (Some (OpWrite w s value)) is r = absurd cc
      by (Some (OpRead w s)) is r =
          let zero_is : w.0 ≡ 0 = kind_first S.asked.ops i (OpRead w s) asks.volumes is in
          let sector : row_at S i ≡ s = row_is S volume.level i job.place job.placed ∙ ap sector_in is in
          let place : placement_of (the_shape S) (row_at S i) ≡ Some job.place = ap (placement_of (the_shape S)) (row_is S volume.level i job.place job.placed) ∙ job.placed in
          subst (λ a. IsValue S.start S.asked.ops log journal n i a s v (is_still_unsure S.start S.asked.ops journal a s)) (sym zero_is)
          (subst (λ b. IsValue S.start S.asked.ops log journal n i 0 b v (is_still_unsure S.start S.asked.ops journal 0 b)) sector (at (unsure S journal (row_at S i)) refl place))
      by (Some (OpWhole w)) is r = absurd cc

  values_ack : (k i : ℕ) (left : List ℕ) (step : JobStep) (answer : Answer) → Has c k left (Busy i step) → need_now S c k i step ≡ Answers answer → ValueAt S.start S.asked.ops log journal n (Ack i answer)
  values_ack k i left step answer here need = elim (answers_from S c k i step answer (needs S c k i step _ need (λ none. absurd cc))) [
    | inl done ↦ subst (λ z. ValueAt S.start S.asked.ops log journal n (Ack i z)) (sym done.1) tt
    | inr value ↦
        let has_value : Has c k left (Busy i (Got value.0)) = subst (λ z. Has c k left (Busy i z)) value.1 here in
        subst (λ z. ValueAt S.start S.asked.ops log journal n (Ack i z)) (sym value.2) (value_of k i left value.0 has_value)
  ]

  pub values_turns : {call : Option Call} {es : List Event} {next : Control} → Turns S c got call es next
      → AtEachFrom (λ front e. ValueAt S.start S.asked.ops (log_after log call) front e.stamp e.event) journal (stamped (calls_after n call) es)
  values_turns nothing = tt
  values_turns (fails d what asked) = tt
  values_turns (anchors m d ds is) = tt
  values_turns (settles m d e ds is) = tt
  values_turns (ends m d is) = (tt, tt)
  values_turns (begins d ds is some why) = (tt, tt)
  values_turns (readies is s t) = (tt, tt)
  values_turns (actives is s t r) = (tt, tt)
  values_turns (cleans is s t) = (tt, tt)
  values_turns (rests t calm) = (tt, tt)
  values_turns (pasts k i rest here none) = (tt, (tt, tt))
  values_turns (asks_read k i rest place here is w ready) = (tt, tt)
  values_turns (asks_write k i rest place here is w ready) = (tt, at c.state)
    where
      at : (state : State) → AtEachFrom (λ front e. ValueAt S.start S.asked.ops log front e.stamp e.event) (journal ++ record { stamp = n; event = Submit i } ∷ []) (stamped n (asked_events state))
      at IsReadonly = tt
      at IsReadAuto = (tt, tt)
      at IsClean = (tt, tt)
      at IsPending = tt
      at IsActive = tt
      at IsIdle = tt
  values_turns (puts k i left step d ds here need) = tt
  values_turns (syncs k i left step d ds here need) = tt
  values_turns (gets k i left step d here need) = tt
  values_turns (acks k i left step answer here need) = (values_ack k i left step answer here need, tt)
