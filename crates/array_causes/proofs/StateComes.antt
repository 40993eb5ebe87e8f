-- Where a word is written to the state of a volume, and where a client's job comes from.
use Rattle.std.proofs.Common.{◌≡◌, ℕ, Bool, true, false, List, [], ◌∷◌, ◌++◌, refl, ap, sym, ◌∙◌, subst, Option, None, ◌⊎◌, inl, inr}
use Rattle.std.specs.Prelude.{⊤}
use Rattle.device_log.specs.Log.{Call, What}
use Rattle.array_machine.specs.Setting.{Setting}
use Rattle.array_machine.specs.States.{State, IsReadonly, IsReadAuto, IsClean, IsPending, IsActive, IsIdle, StateWord, ToReady, ToPending, ToActive, ToActiveAgain, ToIdle, ToClean}
use Rattle.array_machine.specs.Volumes.{Volume, no_volume, volume_at}
use Rattle.array_machine.specs.Operations.{volume_of, place_at, is_write}
use Rattle.array_machine.specs.Clients.{Row, no_row, NoJob, Submitted, Busy, Client, with_job}
use Rattle.array_machine.specs.RowJobs.{Need}
use Rattle.array_machine.specs.Rounds.{Ended}
use Rattle.array_machine.specs.TakeoverTurns.{has_all}
use Rattle.array_machine.specs.OtherTurns.{any_writing}
use Rattle.array_machine.specs.Control.{Control}
use Rattle.array_machine.specs.Changes.{Change, StateGoes, ClientMoves, ClientWord, IsSilent, Submits, Acknowledges}
use Rattle.array_paths.specs.InTurn.{InTurn, state_of, is_broken, job_of, left_of}
use Rattle.array_paths.specs.ClientMove.{TakesWrites, ClientMove, submits, takes, is_past, starts, loses, answers, fails, is_whole, has_no_spare, ClientCall, reads, writes, syncs}
use Rattle.array_paths.specs.Comes.{Comes, readies, pends, activates, again, idles, cleans, client}
use Rattle.array_paths.specs.AtRows.{AtRows, by_client, by_pass, by_monitor, after_read}
use Rattle.array_paths.specs.Effects.{Effect, quiet, row, row_fails, steps, step_fails}

module _ (S : Setting) where
  -- WHERE A WORD COMES

  -- the volume is in the list and in this state
  pub record From (c : Control) (v : ℕ) (state : State) : Type 0 where
    pub is : state_of c v ≡ state
    pub there : volume_at c.volumes v ≡ no_volume → ⊥

  abbrev pub WordComes : Control → ℕ → StateWord → Type 0
  WordComes c v ToReady = From c v IsReadonly × (c.round.ended ≡ true)
  WordComes c v ToPending = From c v IsReadAuto ⊎ From c v IsClean
  WordComes c v ToActive = From c v IsPending × (c.round.ended ≡ true)
  WordComes c v ToActiveAgain = From c v IsIdle
  WordComes c v ToIdle = From c v IsActive × (any_writing S v c.clients ≡ false)
  WordComes c v ToClean = From c v IsIdle × (is_broken c v ≡ false)

  -- a job is to begin only right behind its submit; one that goes on went on before, is of a read, or of a write that
  -- its volume takes
  abbrev pub BusyComes : Control → (k i : ℕ) → Type 0
  BusyComes c k i =
      ((r : Row) × (job_of c k ≡ Busy i r))
      ⊎ (is_write S i ≡ false)
      ⊎ (is_broken c (volume_of S i) ≡ false → TakesWrites (state_of c (volume_of S i)))

  abbrev pub IsSubmit : ClientWord → Type 0
  IsSubmit IsSilent = ⊥
  IsSubmit (Submits i) = ⊤
  IsSubmit (Acknowledges i answer) = ⊥

  -- the job that a client had before it moves: it goes on or was to begin; of a submit what is left, and its new job
  abbrev pub JobWas : Control → (k : ℕ) → Client → ClientWord → Type 0
  JobWas c k new IsSilent =
      ((i : ℕ) × (r : Row) × (job_of c k ≡ Busy i r))
      ⊎ ((i : ℕ) × (job_of c k ≡ Submitted i)
      × (is_broken c (volume_of S i) ≡ false → TakesWrites (state_of c (volume_of S i))))
  JobWas c k new (Acknowledges i answer) =
      ((r : Row) × (job_of c k ≡ Busy i r)) ⊎ ((job_of c k ≡ Submitted i) × (place_at S i ≡ None))
  JobWas c k new (Submits i) =
      (rest : List ℕ) × (left_of c k ≡ i ∷ rest) × ((new.job ≡ Submitted i)
      ⊎ ((is_write S i ≡ false) × (r : Row) × (new.job ≡ Busy i r)))

  pub record JobComes (c : Control) (k : ℕ) (new : Client) (word : ClientWord) : Type 0 where
    pub asks : (i : ℕ) → new.job ≡ Submitted i → IsSubmit word
    pub goes : (i : ℕ) (r : Row) → new.job ≡ Busy i r → BusyComes c k i
    pub was : JobWas c k new word

  abbrev pub ChangeComes : Control → Change → Type 0
  ChangeComes c (ClientMoves k new word) = JobComes c k new word
  ChangeComes c (StateGoes v word) = WordComes c v word
  ChangeComes c _ = ⊤

  by_state : (c : Control) (v : ℕ) (state : State) → (IsReadonly ≡ state → ⊥) → state_of c v ≡ state → From c v state
  by_state c v state other is = record {
    is = is;
    there = λ none. other (sym (ap (λ (x : Volume). x.state) none) ∙ is);
  }

  no_job : (c : Control) (k : ℕ) (left : List ℕ) (word : ClientWord) → JobWas c k (with_job left NoJob) word
      → JobComes c k (with_job left NoJob) word
  no_job c k left word was = record { asks = λ i is. absurd cc; goes = λ i r is. absurd cc; was = was }

  busy_job : (c : Control) (k i : ℕ) (left : List ℕ) (r : Row) (word : ClientWord) → BusyComes c k i
      → JobWas c k (with_job left (Busy i r)) word → JobComes c k (with_job left (Busy i r)) word
  busy_job c k i left r word comes was = record {
    was = was;
    asks = λ j is. absurd cc;
    goes = λ j r2 is. let same : i ≡ j = cc is in subst (BusyComes c k) same comes;
  }

  job_so : (c : Control) (k : ℕ) (new : Client) (word : ClientWord) → ClientMove S c k new word → JobComes c k new word
  job_so c k _ _ (submits i rest left none) = record {
    asks = λ j is. tt;
    goes = λ j r is. absurd cc;
    was = (rest, left, inl refl);
  }
  job_so c k _ _ (takes i rest left none no_write fits ready_now) =
      busy_job c k i rest _ (Submits i) (inr (inl no_write)) (rest, left, inr (no_write, no_row, refl))
  job_so c k _ _ (is_past i left l was nowhere names) = no_job c k left _ (inr (was, nowhere))
  job_so c k _ _ (starts i left l was is_one fits writable) =
      busy_job c k i left _ IsSilent (inr (inr writable)) (inr (i, was, writable))
  job_so c k _ _ (loses i r new left l was lost) = busy_job c k i left new IsSilent (inl (r, was)) (inl (i, r, was))
  job_so c k _ _ (answers i r answer left l needs) = no_job c k left _ (inl (r, needs.has))
  job_so c k _ _ (fails i r left l was broken) = no_job c k left _ (inl (r, was))
  job_so c k _ _ (is_whole i r left l was kind sound whole) = no_job c k left _ (inl (r, was))
  job_so c k _ _ (has_no_spare i r left l was kind sound whole lacks) = no_job c k left _ (inl (r, was))

  call_so : (c : Control) (k d i : ℕ) (r : Row) (need : Need) (what : What) (n : ℕ) → ClientCall S c k d i r need what n
      → job_of c k ≡ Busy i r
  call_so c k d _ _ _ _ _ (reads i r s n needs source) = needs.has
  call_so c k d _ _ _ _ _ (writes i r s n needs disk) = needs.has
  call_so c k d _ _ _ _ _ (syncs i r s n needs disk) = needs.has

  comes_so : (t : InTurn) (c : Control) (a : Change) → Comes S t c a → ChangeComes c a
  comes_so t c _ (readies v started state rest ended) = (
    record {
      is = state;
      there = λ none. absurd (let never = ap (λ (x : Volume). x.started) none in cc (never, started));
    },
    ended,
  )
  comes_so t c _ (pends v sound state has) = elim state [
    | inl is ↦ inl (by_state c v IsReadAuto (λ e. absurd cc) is)
    | inr is ↦ inr (by_state c v IsClean (λ e. absurd cc) is)
  ]
  comes_so t c _ (activates v runs state rest ended dirty) = (by_state c v IsPending (λ e. absurd cc) state, ended)
  comes_so t c _ (again v sound state has) = by_state c v IsIdle (λ e. absurd cc) state
  comes_so t c _ (idles v who runs state none) = (by_state c v IsActive (λ e. absurd cc) state, none)
  comes_so t c _ (cleans v runs state rest) = (by_state c v IsIdle (λ e. absurd cc) state, runs.sound)
  comes_so t c _ (client k new word move) = job_so c k new word move
  comes_so t c a _ = tt

  rows_so : (c : Control) (d : ℕ) (what : What) (x : Ended) (a : Change) → AtRows S c d what x a → ChangeComes c a
  rows_so c d _ _ _ (by_client k i r need what x call) =
      busy_job c k i (left_of c k) _ IsSilent (inl (r, call_so c k d i r need what 1 call))
      (inl (i, r, call_so c k d i r need what 1 call))
  rows_so c d _ _ _ (by_pass v p need what x call) = tt
  rows_so c d _ _ _ (by_monitor left seen found x life) = at (has_all S (seen ++ x.got ∷ []))
    where
      at : (b : Bool) → ChangeComes c (after_read S c d left (seen ++ x.got ∷ []) found b)
      at true = tt
      at false = tt

  pub effect_so : (t : InTurn) (c : Control) (call : Option Call) (x : Ended) (a : Change) → Effect S t c call x a
      → ChangeComes c a
  effect_so t c _ _ _ (quiet x a comes) = comes_so t c a comes
  effect_so t c _ _ _ (row d what x a may call went why) = rows_so c d what x a why
  effect_so t c _ _ _ (row_fails d what x may call failed lost) = tt
  effect_so t c _ _ _ (steps d m step x at went) = tt
  effect_so t c _ _ _ (step_fails d m step x at failed) = tt
