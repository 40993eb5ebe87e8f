-- What the members hold at each row, against the journal and the clients' jobs.
use Rattle.std.proofs.Common.{◌≡◌, ℕ, ◌<◌, ◌==◌, Bool, true, false, List, [], ◌∷◌, ◌++◌, length, refl, ap, sym, ◌∙◌, subst, arith, ◌⊎◌, inl, inr, Option, Some, None, slice_set, length-append}
use Rattle.std.specs.Prelude.{⊤}
use Rattle.std.proofs.lemmas.Bool.{eq-eqb}
use Rattle.units.specs.declared.disk.Sector.{Sector}
use Rattle.device_log.specs.Log.{Call}
use Rattle.array_model.specs.declared.script.OpKind.{OpKind}
use Rattle.array_model.specs.declared.script.OpKind.TheVariants.{Write as OpWrite, Read as OpRead, Whole as OpWhole}
use Rattle.array_model.specs.declared.journal.Entry.{Entry}
use Rattle.array_model.specs.declared.journal.Answer.{Answer}
use Rattle.array_model.specs.declared.journal.Answer.TheVariants.{Done, Value}
use Rattle.array_model.specs.Events.{has as has_event, is_submit}
use Rattle.array_model.specs.AnswerLaw.{IsGiven, submitted_from}
use Rattle.stage_machine.specs.Setting.{Setting, has_disk}
use Rattle.stage_machine.specs.Jobs.{JobStep, Waiting, Writing, Syncing, Written, Got, Job, NoJob, Busy, Client, the_shape, row_at, value_at, holds, Need, NoNeed, Reads, Writes, Syncs, Answers, need_of, first_need, read_need, write_need, sync_need, after_write, after_sync}
use Rattle.stage_machine.specs.Machine.{Control, is_held, need_now, need_unless, log_after}
use Rattle.stage_machine.proofs.Clients.{at_set}
use Rattle.answer_law.proofs.Locks.{job_of}
use Rattle.answer_law.proofs.Rows.{stood, con, unsure, given_more, submitted-append, submitted_same}

-- each member but those left holds what the operation writes
abbrev pub WrittenBut : Setting → List Call → ℕ → List ℕ → Type 0
WrittenBut S log i left = (d : ℕ) → has_disk d S.members ≡ true → has_disk d left ≡ false → stood S log d (row_at S i) ≡ value_at S i

abbrev pub Given : Setting → List Call → List Entry → ℕ → Sector → Type 0
Given S log journal i v = IsGiven S.start log 0 (row_at S i) (submitted_from i 0 journal) (length log) v

abbrev pub StepVals : Setting → List Call → List Entry → ℕ → JobStep → Type 0
StepVals S log journal i Waiting = ⊤
StepVals S log journal i (Writing left) = WrittenBut S log i left
StepVals S log journal i (Syncing left) = WrittenBut S log i []
StepVals S log journal i Written = WrittenBut S log i []
StepVals S log journal i (Got v) = (unsure S journal (row_at S i) ≡ false → v ≡ con S journal (row_at S i)) × Given S log journal i v

abbrev pub JobVals : Setting → List Call → List Entry → Job → Type 0
JobVals S log journal NoJob = ⊤
JobVals S log journal (Busy i step) = StepVals S log journal i step

-- the job is writing this row
abbrev pub writes_by : Setting → ℕ → ℕ → JobStep → Bool
writes_by S row i Waiting = false
writes_by S row i (Writing left) = row_at S i == row
writes_by S row i (Syncing left) = row_at S i == row
writes_by S row i Written = row_at S i == row
writes_by S row i (Got v) = false

abbrev pub writes_row : Setting → ℕ → Job → Bool
writes_row S row NoJob = false
writes_row S row (Busy i step) = writes_by S row i step

abbrev pub NoWriter : Setting → List Client → ℕ → Type 0
NoWriter S clients row = (k : ℕ) → writes_row S row (job_of clients k) ≡ false

pub record Vals (S : Setting) (log : List Call) (journal : List Entry) (clients : List Client) : Type 0 where
  pub jobs : (k : ℕ) → JobVals S log journal (job_of clients k)
  pub free : (row d : ℕ) → row < (the_shape S).size → NoWriter S clients row → has_disk d S.members ≡ true → unsure S journal row ≡ false
      → stood S log d row ≡ con S journal row

-- WHAT A NEED SAYS OF THE STEP

module _ (S : Setting) (c : Control) (k i : ℕ) where
  pub needs : (step : JobStep) (need : Need) → need_now S c k i step ≡ need → (NoNeed ≡ need → ⊥) → need_of S i step ≡ need
  needs step need is some = at (is_held S c k i) is
    where
      at : (b : Bool) → need_unless S i step b ≡ need → need_of S i step ≡ need
      at true h = absurd (some h)
      at false h = h

  write_need_is : (left : List ℕ) (d : ℕ) (ds : List ℕ) → write_need left ≡ Writes d ds → left ≡ d ∷ ds
  write_need_is [] d ds h = absurd cc
  write_need_is (x ∷ xs) d ds h = cc h

  first_write : (kind : Option OpKind) (d : ℕ) (ds : List ℕ) → first_need S kind ≡ Writes d ds → S.members ≡ d ∷ ds
  first_write None d ds h = absurd cc
  first_write (Some (OpWrite v s value)) d ds h = write_need_is S.members d ds h
  first_write (Some (OpRead v s)) d ds h = absurd (at S.members h)
    where
      at : (ms : List ℕ) → read_need ms ≡ Writes d ds → ⊥
      at [] h = absurd cc
      at (x ∷ xs) h = absurd cc
  first_write (Some (OpWhole v)) d ds h = absurd cc

  -- a job that writes begins with the members, or has these left
  pub writes_from : (step : JobStep) (d : ℕ) (ds : List ℕ) → need_of S i step ≡ Writes d ds → ((step ≡ Waiting) × (S.members ≡ d ∷ ds)) ⊎ (step ≡ Writing (d ∷ ds))
  writes_from Waiting d ds h = inl (refl, first_write _ d ds h)
  writes_from (Writing left) d ds h = inr (ap Writing (write_need_is left d ds h))
  writes_from (Syncing left) d ds h = absurd (at left h)
    where
      at : (left : List ℕ) → sync_need left ≡ Writes d ds → ⊥
      at [] h = absurd cc
      at (x ∷ xs) h = absurd cc
  writes_from Written d ds h = absurd cc
  writes_from (Got v) d ds h = absurd cc

  -- all but these were written
  pub written_but : (log : List Call) (journal : List Entry) (step : JobStep) (d : ℕ) (ds : List ℕ) → need_of S i step ≡ Writes d ds → StepVals S log journal i step → WrittenBut S log i (d ∷ ds)
  written_but log journal step d ds h vals = elim (writes_from step d ds h) [
    | inl waits ↦ λ x member out. absurd (let inside : has_disk x (d ∷ ds) ≡ true = subst (λ ms. has_disk x ms ≡ true) waits.1 member in cc (inside, out))
    | inr writes ↦ subst (StepVals S log journal i) writes vals
  ]

  first_no_sync : (kind : Option OpKind) (d : ℕ) (ds : List ℕ) → first_need S kind ≡ Syncs d ds → ⊥
  first_no_sync None d ds h = absurd cc
  first_no_sync (Some (OpWrite v s value)) d ds h = at S.members h
    where
      at : (ms : List ℕ) → write_need ms ≡ Syncs d ds → ⊥
      at [] h = absurd cc
      at (x ∷ xs) h = absurd cc
  first_no_sync (Some (OpRead v s)) d ds h = at S.members h
    where
      at : (ms : List ℕ) → read_need ms ≡ Syncs d ds → ⊥
      at [] h = absurd cc
      at (x ∷ xs) h = absurd cc
  first_no_sync (Some (OpWhole v)) d ds h = absurd cc

  -- a job that syncs has these left
  pub syncs_from : (step : JobStep) (d : ℕ) (ds : List ℕ) → need_of S i step ≡ Syncs d ds → step ≡ Syncing (d ∷ ds)
  syncs_from Waiting d ds h = absurd (first_no_sync _ d ds h)
  syncs_from (Writing left) d ds h = absurd (at left h)
    where
      at : (left : List ℕ) → write_need left ≡ Syncs d ds → ⊥
      at [] h = absurd cc
      at (x ∷ xs) h = absurd cc
  syncs_from (Syncing left) d ds h = ap Syncing (at left h)
    where
      at : (left : List ℕ) → sync_need left ≡ Syncs d ds → left ≡ d ∷ ds
      at [] h = absurd cc
      at (x ∷ xs) h = cc h
  syncs_from Written d ds h = absurd cc
  syncs_from (Got v) d ds h = absurd cc

  pub written_all : (log : List Call) (journal : List Entry) (step : JobStep) (d : ℕ) (ds : List ℕ) → need_of S i step ≡ Syncs d ds → StepVals S log journal i step → WrittenBut S log i []
  written_all log journal step d ds h vals = subst (StepVals S log journal i) (syncs_from step d ds h) vals

  first_no_answer : (kind : Option OpKind) (answer : Answer) → first_need S kind ≡ Answers answer → ⊥
  first_no_answer None answer h = absurd cc
  first_no_answer (Some (OpWrite v s value)) answer h = at S.members h
    where
      at : (ms : List ℕ) → write_need ms ≡ Answers answer → ⊥
      at [] h = absurd cc
      at (x ∷ xs) h = absurd cc
  first_no_answer (Some (OpRead v s)) answer h = at S.members h
    where
      at : (ms : List ℕ) → read_need ms ≡ Answers answer → ⊥
      at [] h = absurd cc
      at (x ∷ xs) h = absurd cc
  first_no_answer (Some (OpWhole v)) answer h = absurd cc

  -- a job that answers has written, or has a value
  pub answers_from : (step : JobStep) (answer : Answer) → need_of S i step ≡ Answers answer
      → ((step ≡ Written) × (answer ≡ Done)) ⊎ ((v : Sector) × (step ≡ Got v) × (answer ≡ Value v))
  answers_from Waiting answer h = absurd (first_no_answer _ answer h)
  answers_from (Writing left) answer h = absurd (at left h)
    where
      at : (left : List ℕ) → write_need left ≡ Answers answer → ⊥
      at [] h = absurd cc
      at (x ∷ xs) h = absurd cc
  answers_from (Syncing left) answer h = absurd (at left h)
    where
      at : (left : List ℕ) → sync_need left ≡ Answers answer → ⊥
      at [] h = absurd cc
      at (x ∷ xs) h = absurd cc
  answers_from Written answer h = inl (refl, cc h)
  answers_from (Got v) answer h = inr (v, refl, cc h)

  pub reads_waits : (step : JobStep) (d : ℕ) → need_of S i step ≡ Reads d → step ≡ Waiting
  reads_waits Waiting d h = refl
  reads_waits (Writing left) d h = absurd (at left h)
    where
      at : (left : List ℕ) → write_need left ≡ Reads d → ⊥
      at [] h = absurd cc
      at (x ∷ xs) h = absurd cc
  reads_waits (Syncing left) d h = absurd (at left h)
    where
      at : (left : List ℕ) → sync_need left ≡ Reads d → ⊥
      at [] h = absurd cc
      at (x ∷ xs) h = absurd cc
  reads_waits Written d h = absurd cc
  reads_waits (Got v) d h = absurd cc

-- WRITERS

pub writes_own : (S : Setting) (row i : ℕ) (step : JobStep) → (row_at S i == row) ≡ false → writes_by S row i step ≡ false
writes_own S row i Waiting h = refl
writes_own S row i (Writing left) h = h
writes_own S row i (Syncing left) h = h
writes_own S row i Written h = h
writes_own S row i (Got v) h = refl

pub writes_after_write : (S : Setting) (row i : ℕ) (ds : List ℕ) → writes_by S row i (after_write S ds) ≡ (row_at S i == row)
writes_after_write S row i [] = refl
writes_after_write S row i (d ∷ ds) = refl

pub writes_after_sync : (S : Setting) (row i : ℕ) (ds : List ℕ) → writes_by S row i (after_sync ds) ≡ (row_at S i == row)
writes_after_sync S row i [] = refl
writes_after_sync S row i (d ∷ ds) = refl

pub writes_holds : (S : Setting) (row : ℕ) (job : Job) → holds S row job ≡ false → writes_row S row job ≡ false
writes_holds S row NoJob h = refl
writes_holds S row (Busy i Waiting) h = refl
writes_holds S row (Busy i (Writing left)) h = h
writes_holds S row (Busy i (Syncing left)) h = h
writes_holds S row (Busy i Written) h = h
writes_holds S row (Busy i (Got v)) h = refl

-- no writer after one client is set, so none before
pub no_writer_back : (S : Setting) (clients : List Client) (k : ℕ) (x : Client) (row : ℕ) → k < length clients → (writes_row S row x.job ≡ false → writes_row S row (job_of clients k) ≡ false)
    → NoWriter S (slice_set clients k x) row → NoWriter S clients row
no_writer_back S clients k x row lt back none j = elim (at_set clients k x j lt) [
  | inl here ↦
      let new : writes_row S row x.job ≡ false = sym (ap (λ (y : Client). writes_row S row y.job) here.1) ∙ none j in
      ap (λ z. writes_row S row (job_of clients z)) here.0 ∙ back new
  | inr other ↦ sym (ap (λ (y : Client). writes_row S row y.job) other.1) ∙ none j
]

-- WHAT STAYS

-- at the row of operation i nothing changed
pub record Carry (S : Setting) (log : List Call) (journal : List Entry) (more : List Call) (later : List Entry) (i : ℕ) : Type 0 where
  pub stood_same : (d : ℕ) → has_disk d S.members ≡ true → stood S more d (row_at S i) ≡ stood S log d (row_at S i)
  pub con_same : con S later (row_at S i) ≡ con S journal (row_at S i)
  pub unsure_same : unsure S later (row_at S i) ≡ unsure S journal (row_at S i)
  pub given : (v : Sector) → Given S log journal i v → Given S more later i v

carry_step : (S : Setting) (log : List Call) (journal : List Entry) (more : List Call) (later : List Entry) (i : ℕ) (step : JobStep) → Carry S log journal more later i
    → StepVals S log journal i step → StepVals S more later i step
carry_step S log journal more later i Waiting carry vals = tt
carry_step S log journal more later i (Writing left) carry vals = λ d member out. carry.stood_same d member ∙ vals d member out
carry_step S log journal more later i (Syncing left) carry vals = λ d member out. carry.stood_same d member ∙ vals d member out
carry_step S log journal more later i Written carry vals = λ d member out. carry.stood_same d member ∙ vals d member out
carry_step S log journal more later i (Got v) carry vals = (λ sure. vals.0 (sym carry.unsure_same ∙ sure) ∙ sym carry.con_same, carry.given v vals.1)

-- a job that holds its row is carried where nothing changed there
pub carry_job : (S : Setting) (log : List Call) (journal : List Entry) (more : List Call) (later : List Entry) (job : Job)
    → ((i : ℕ) (step : JobStep) → job ≡ Busy i step → holds S (row_at S i) job ≡ true → Carry S log journal more later i)
    → JobVals S log journal job → JobVals S more later job
carry_job S log journal more later NoJob carry vals = tt
carry_job S log journal more later (Busy i Waiting) carry vals = tt
carry_job S log journal more later (Busy i (Writing left)) carry vals = carry_step S log journal more later i (Writing left) (carry i (Writing left) refl (eq-eqb (row_at S i) (row_at S i) refl)) vals
carry_job S log journal more later (Busy i (Syncing left)) carry vals = carry_step S log journal more later i (Syncing left) (carry i (Syncing left) refl (eq-eqb (row_at S i) (row_at S i) refl)) vals
carry_job S log journal more later (Busy i Written) carry vals = carry_step S log journal more later i Written (carry i Written refl (eq-eqb (row_at S i) (row_at S i) refl)) vals
carry_job S log journal more later (Busy i (Got v)) carry vals = carry_step S log journal more later i (Got v) (carry i (Got v) refl (eq-eqb (row_at S i) (row_at S i) refl)) vals

-- what a read gave stays given in a longer log and journal
pub given_later : (S : Setting) (log : List Call) (journal new : List Entry) (x : Option Call) (i : ℕ) (v : Sector) → has_event (is_submit i) new ≡ false
    → Given S log journal i v → Given S (log_after log x) (journal ++ new) i v
given_later S log journal new x i v none given =
    let since : submitted_from i 0 journal ≡ submitted_from i 0 (journal ++ new) = sym (submitted-append i 0 journal new ∙ submitted_same i (submitted_from i 0 journal) new none) in
    subst (λ z. IsGiven S.start (log_after log x) 0 (row_at S i) z (length (log_after log x)) v) since (at x)
  where
    at : (x : Option Call) → IsGiven S.start (log_after log x) 0 (row_at S i) (submitted_from i 0 journal) (length (log_after log x)) v
    at None = given
    at (Some y) = given_more S log y 0 (row_at S i) (submitted_from i 0 journal) (length log) (length (log ++ y ∷ [])) v (omega arith) (omega (arith, length-append log (y ∷ []))) given
