-- The jobs that go on fit their volumes: each effect keeps that.
use Rattle.std.proofs.Common.{◌≡◌, ℕ, zero, suc, Bool, true, false, List, [], ◌∷◌, refl, ap, sym, ◌∙◌, subst, Option, ◌⊎◌, inl, inr, slice_set}
use Rattle.units.specs.declared.disk.Sector.{Sector}
use Rattle.device_log.specs.Log.{Call, What}
use Rattle.array_machine.specs.Setting.{Setting}
use Rattle.array_machine.specs.Volumes.{Volume}
use Rattle.array_machine.specs.Clients.{Row, Job, NoJob, Submitted, Busy, Client, client_at}
use Rattle.array_machine.specs.RowJobs.{Need}
use Rattle.array_machine.specs.Rounds.{Ended}
use Rattle.array_machine.specs.Control.{Control}
use Rattle.array_machine.specs.Changes.{Change, StepsOn, RoundBegins, SpareBegins, RoundEnds, SpareEnds, RoundLapses, DiskFails, DiskUnblocks, StateGoes, ClientMoves, PassMoves, ManagerMoves, MonitorKilled, TakeoverStarts, TakeoverReads, MonitorResumes, MonitorDies, ClientWord, IsSilent}
use Rattle.array_machine.specs.Faults.{job_without}
use Rattle.array_machine.specs.Puts.{put}
use Rattle.array_paths.specs.InTurn.{InTurn, job_of}
use Rattle.array_paths.specs.ClientMove.{fits_op, ClientMove, ClientCall, reads, writes, syncs, submits, takes, is_past, starts, loses, answers, fails, is_whole, has_no_spare}
use Rattle.array_paths.specs.Comes.{Comes, client}
use Rattle.array_paths.specs.AtRows.{after_read, by_client, by_pass, by_monitor}
use Rattle.array_paths.specs.Effects.{Effect, quiet, row, row_fails, steps, step_fails}
use Rattle.array_paths.specs.Ready.{JobsFit}
use Rattle.array_paths.proofs.ClientPaths.{job_kept}

-- what stands in a list that was set at one place is new, or stood there
pub set_cases : (clients : List Client) (k j : ℕ) (x : Client)
    → (client_at (slice_set clients k x) j ≡ x) ⊎ (client_at (slice_set clients k x) j ≡ client_at clients j)
set_cases [] k j x = inr refl
set_cases (y ∷ ys) zero zero x = inl refl
set_cases (y ∷ ys) zero (suc j) x = inr refl
set_cases (y ∷ ys) (suc k) zero x = inr refl
set_cases (y ∷ ys) (suc k) (suc j) x = set_cases ys k j x

-- a failure leaves each job its operation
pub same_op : (S : Setting) (d : ℕ) (volumes : List Volume) (job : Job) (i : ℕ) (r : Row)
    → job_without S d volumes job ≡ Busy i r → (old : Row) × (job ≡ Busy i old)
same_op S d volumes NoJob i r is = absurd cc
same_op S d volumes (Submitted j) i r is = absurd cc
same_op S d volumes (Busy j old) i r is = let same : j ≡ i = cc is in (old, ap (λ n. Busy n old) same)

module _ (S : Setting) (c : Control) (fit : JobsFit S c) where
  -- a job that a client moves to
  moved_fits : (k : ℕ) (new : Client) (word : ClientWord) → ClientMove S c k new word → (i : ℕ) (r : Row)
      → new.job ≡ Busy i r → fits_op S i ≡ true
  moved_fits k _ _ (submits j rest left free) i r is = absurd cc
  moved_fits k _ _ (takes j rest left free reading fits ready_now) i r is =
      let same : j ≡ i = cc is in subst (λ n. fits_op S n ≡ true) same fits
  moved_fits k _ _ (is_past j left left_is job nowhere names) i r is = absurd cc
  moved_fits k _ _ (starts j left left_is job writing fits leave) i r is =
      let same : j ≡ i = cc is in subst (λ n. fits_op S n ≡ true) same fits
  moved_fits k _ _ (loses j old new left left_is job lost) i r is =
      let same : j ≡ i = cc is in subst (λ n. fits_op S n ≡ true) same (fit k j old job)
  moved_fits k _ _ (answers j old answer left left_is needs) i r is = absurd cc
  moved_fits k _ _ (fails j old left left_is job broken) i r is = absurd cc
  moved_fits k _ _ (is_whole j old left left_is job kind sound whole) i r is = absurd cc
  moved_fits k _ _ (has_no_spare j old left left_is job kind sound whole lacks) i r is = absurd cc

  set_fits : (k : ℕ) (new : Client) (word : ClientWord)
      → ((i : ℕ) (r : Row) → new.job ≡ Busy i r → fits_op S i ≡ true) → JobsFit S (put S (ClientMoves k new word) c)
  set_fits k new word good j i r is = elim (set_cases c.clients k j new) [
    | inl now ↦ good i r (sym (ap (λ (x : Client). x.job) now) ∙ is)
    | inr old ↦ fit j i r (sym (ap (λ (x : Client). x.job) old) ∙ is)
  ]

  failed_fits : (d : ℕ) → JobsFit S (put S (DiskFails d) c)
  failed_fits d j i r is =
      let old = same_op S d c.volumes (job_of c j) i r (sym (job_kept S d c.volumes c.clients j) ∙ is) in
      fit j i old.0 old.1

  comes_fits : (t : InTurn) (a : Change) → Comes S t c a → JobsFit S (put S a c)
  comes_fits t StepsOn comes = fit
  comes_fits t (RoundBegins m) comes = fit
  comes_fits t (SpareBegins d m) comes = fit
  comes_fits t (RoundEnds m) comes = fit
  comes_fits t (SpareEnds d) comes = fit
  comes_fits t RoundLapses comes = fit
  comes_fits t (DiskFails d) comes = failed_fits d
  comes_fits t (DiskUnblocks d) comes = fit
  comes_fits t (StateGoes v word) comes = fit
  comes_fits t (ClientMoves k new word) (client _ _ _ move) = set_fits k new word (moved_fits k new word move)
  comes_fits t (PassMoves v slots pass word) comes = fit
  comes_fits t (ManagerMoves manager word) comes = fit
  comes_fits t MonitorKilled comes = fit
  comes_fits t (TakeoverStarts left) comes = fit
  comes_fits t (TakeoverReads left seen found) comes = fit
  comes_fits t (MonitorResumes d) comes = fit
  comes_fits t MonitorDies comes = fit

  has_job : (k d i : ℕ) (r : Row) (need : Need) (what : What) (stored : ℕ) → ClientCall S c k d i r need what stored
      → job_of c k ≡ Busy i r
  has_job k d i r need what stored (reads _ _ s _ needs on) = needs.has
  has_job k d i r need what stored (writes _ _ s _ needs on) = needs.has
  has_job k d i r need what stored (syncs _ _ s _ needs on) = needs.has

  read_fits : (d : ℕ) (left : List ℕ) (seen : List Sector) (found : List ℕ) (all : Bool)
      → JobsFit S (put S (after_read S c d left seen found all) c)
  read_fits d left seen found true = fit
  read_fits d left seen found false = fit

  -- each effect keeps that the jobs fit
  pub jobs_fit : (t : InTurn) (call : Option Call) (x : Ended) (a : Change) → Effect S t c call x a
      → JobsFit S (put S a c)
  jobs_fit t _ x a (quiet _ _ comes) = comes_fits t a comes
  jobs_fit t _ x _ (row d what _ _ may calls went (by_client k i r need _ _ call)) =
      set_fits k _ IsSilent
      (λ j q is. let same : i ≡ j = cc is in
      subst (λ n. fits_op S n ≡ true) same (fit k i r (has_job k d i r need what 1 call)))
  jobs_fit t _ x _ (row d what _ _ may calls went (by_pass v p need _ _ call)) = fit
  jobs_fit t _ x _ (row d what _ _ may calls went (by_monitor left seen found _ is)) = read_fits d left _ found _
  jobs_fit t _ x _ (row_fails d what _ may calls went lost) = failed_fits d
  jobs_fit t _ x _ (steps d m step _ target went) = fit
  jobs_fit t _ x _ (step_fails d m step _ target went) = failed_fits d
