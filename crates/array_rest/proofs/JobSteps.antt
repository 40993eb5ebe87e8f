-- Each change keeps what holds of the jobs of clients.
use Rattle.std.proofs.Common.{◌≡◌, ℕ, ◌+◌, ◌||◌, ◌&&◌, not, Bool, true, false, List, [], ◌∷◌, refl, ap, sym, ◌∙◌, subst, arith, slice_set, Option, Some, None, ◌⊎◌, inl, inr, cond}
use Rattle.array_model.specs.Blocks.{Laid}
use Rattle.array_machine.specs.Setting.{Setting}
use Rattle.array_machine.specs.States.{StateWord, ToReady, ToPending, ToActive, ToActiveAgain, ToIdle, ToClean, is_readonly, state_after}
use Rattle.array_machine.specs.Volumes.{Slot, slot_at, has_disk, is_usable, Volume, volume_at}
use Rattle.array_machine.specs.Operations.{volume_of}
use Rattle.array_machine.specs.Clients.{Row, Job, NoJob, Submitted, Busy, Client, client_at}
use Rattle.array_machine.specs.Rounds.{Step, OfRound, Going}
use Rattle.array_machine.specs.Faults.{round_without, breaks, volume_lost, volume_without, job_without}
use Rattle.array_machine.specs.Control.{Control}
use Rattle.array_machine.specs.Changes.{Change, StepsOn, RoundBegins, SpareBegins, RoundEnds, SpareEnds, RoundLapses, DiskFails, DiskUnblocks, StateGoes, ClientMoves, PassMoves, ManagerMoves, MonitorKilled, TakeoverStarts, TakeoverReads, MonitorResumes, MonitorDies, ClientWord}
use Rattle.array_machine.specs.Puts.{put, puts}
use Rattle.array_machine.specs.RoundEnds.{all_runs}
use Rattle.array_machine.specs.RowJobs.{lost_row}
use Rattle.array_machine.specs.ClientTurns.{is_shut}
use Rattle.array_paths.specs.InTurn.{job_of}
use Rattle.array_paths.specs.Ready.{JobsFit}
use Rattle.array_paths.proofs.ClientPaths.{job_kept}
use Rattle.array_base.specs.Premises.{Premises}
use Rattle.array_base.proofs.Slots.{volume_set}
use Rattle.array_rest.specs.Between.{IsFine, JobIsFine}
use Rattle.array_rest.specs.Jobs.{may_use, IsOutrun, PlanStands, JobGoes, JobStands, JobsStand}
use Rattle.array_rest.proofs.Failures.{lost_begun}
use Rattle.array_rest.proofs.JobEnds.{same_used, end_used, end_shut}
use Rattle.array_rest.proofs.JobRows.{lost_stands}
use Rattle.array_rest.proofs.Parts.{client_set, elsewhere, member_kept, volume_failed}
use Rattle.array_rest.proofs.RoundEnd.{runs, behind, ends_to, runs_only, end_started}
use Rattle.array_rest.proofs.SeatChanges.{HasFrame, HaveFrames, same_frame, set_frame, fault_frame}
use Rattle.array_rest.proofs.SeatEnds.{end_broken, seats_its, form}
use Rattle.array_rest.proofs.SeatSteps.{Seated}

module _ (S : Setting) (P : Premises S) (A : Type 0) (c : Control) (jobs : JobsStand S A c) where
  -- VOLUMES AND CLIENTS THAT STAY

  -- clients stay, and volumes keep their slots and don't shut
  framed_jobs : (e : Control) → e.clients ≡ c.clients → e.round.faults ≡ c.round.faults
      → HaveFrames c.volumes e.volumes
      → ((v : ℕ) → is_shut (volume_at c.volumes v) ≡ false → is_shut (volume_at e.volumes v) ≡ false)
      → JobsStand S A e
  framed_jobs e clients faults frames shuts k i r is = record {
    open_to = shuts (volume_of S i) old.open_to;
    names = old.names;
    plan = λ a started sound.
        let frame = frames (volume_of S i) in
        subst (λ ds. PlanStands ds (volume_at e.volumes (volume_of S i)) r) (sym faults)
        (same_used c.round.faults (volume_at c.volumes (volume_of S i)) (volume_at e.volumes (volume_of S i)) r
        (λ s may. ap (λ xs. slot_at xs s) frame.slots)
        (old.plan a (sym frame.started ∙ started) (frame.sound sound)));
  }
    where
      old : JobStands S A c k i r
      old = jobs k i r (ap (λ xs. (client_at xs k).job) (sym clients) ∙ is)

  same_jobs : (e : Control) → e.clients ≡ c.clients → e.volumes ≡ c.volumes → e.round.faults ≡ c.round.faults
      → JobsStand S A e
  same_jobs e clients volumes faults =
      framed_jobs e clients faults
      (λ v. subst (λ xs. HasFrame (volume_at c.volumes v) (volume_at xs v)) (sym volumes)
      (same_frame (volume_at c.volumes v)))
      (λ v shut. ap (λ xs. is_shut (volume_at xs v)) volumes ∙ shut)

  set_shut : (v : ℕ) (y : Volume) → (is_shut (volume_at c.volumes v) ≡ false → is_shut y ≡ false) → (w : ℕ)
      → is_shut (volume_at c.volumes w) ≡ false → is_shut (volume_at (slice_set c.volumes v y) w) ≡ false
  set_shut v y opens w shut = elim (volume_set c.volumes v y w) [
    | inl here ↦
        ap is_shut here.1 ∙ opens (subst (λ u. is_shut (volume_at c.volumes u) ≡ false) (sym here.0) shut)
    | inr other ↦ ap is_shut other ∙ shut
  ]

  written : (v : ℕ) (word : StateWord)
      → is_shut (record (volume_at c.volumes v) { state = state_after word }) ≡ false
  written v ToReady = refl
  written v ToPending = refl
  written v ToActive = refl
  written v ToActiveAgain = refl
  written v ToIdle = refl
  written v ToClean = refl

  -- A CLIENT

  moved_jobs : Seated S P.edits.formed A c → JobsFit S c → (j : ℕ) (new : Client) (word : ClientWord)
      → JobIsFine S c j new.job → JobsStand S A (put S (ClientMoves j new word) c)
  moved_jobs seated fits j new word fine k i r is = elim (client_set c.clients j new k) [
    | inl here ↦
        goes (subst (JobIsFine S c j) (sym (ap (λ (x : Client). x.job) here.1) ∙ is) fine)
    | inr old ↦ let had = jobs k i r (sym (ap (λ (x : Client). x.job) old) ∙ is) in record { open_to = had.open_to; names = had.names; plan = had.plan }
  ]
    where
      goes : JobGoes S c j i r → JobStands S A (put S (ClientMoves j new word) c) k i r
      goes g = record {
        open_to = g.open_to (λ before has_it. (jobs j i before has_it).open_to);
        names = g.names;
        plan = λ a started sound.
            let run = seated.run a in
            g.plan (run.able (volume_of S i) started sound) (run.slots (volume_of S i) started)
            (λ before has_it. (fits j i before has_it, (jobs j i before has_it).plan a started sound));
      }

  -- A DISK FAILS

  fault_shut : (d v : ℕ) → is_shut (volume_at c.volumes v) ≡ false
      → is_shut (volume_at (put S (DiskFails d) c).volumes v) ≡ false
  fault_shut d v shut =
      ap is_shut (volume_failed S d (round_without S d c.round) 0 c.volumes v
      ∙ ap (λ n. volume_without S d (round_without S d c.round) n (volume_at c.volumes v)) same)
      ∙ at ((volume_at c.volumes v).started && has_disk d (volume_at c.volumes v).slots)
    where
      x : Volume
      x = volume_at c.volumes v

      same : 0 + v ≡ v
      same = omega arith

      broken : (state broken more : Bool) → (state && not broken) ≡ false → (state && not (broken || more)) ≡ false
      broken true true more h = refl
      broken true false more h = absurd (cc h)
      broken false b more h = refl

      at : (b : Bool)
          → is_shut (cond b (volume_lost S d v (x.broken || breaks S (round_without S d c.round) v x.slots) x) x)
          ≡ false
      at true = broken (is_readonly x.state) x.broken (breaks S (round_without S d c.round) v x.slots) shut
      at false = shut

  fault_use : (d : ℕ) (slots : List Slot) → has_disk d slots ≡ false → (s : ℕ)
      → may_use (d ∷ c.round.faults) slots s ≡ may_use c.round.faults slots s
  fault_use d slots none s =
      ap is_usable (member_kept d c.round.faults [] (slot_at slots s) (elsewhere d slots none s))

  lost_plan : (faults : List ℕ) (x : Volume) (r : Row) (plan : Option (List ℕ)) → r.plan ≡ plan
      → PlanStands faults x (lost_row r.plan r)
  lost_plan faults x r None is =
      subst (λ p. PlanStands faults x (lost_row p r)) (sym is) (λ plan has_it. absurd (cc (is, has_it)))
  lost_plan faults x r (Some plan) is = lost_stands faults x r plan is

  fault_jobs : (d : ℕ) → JobsStand S A (put S (DiskFails d) c)
  fault_jobs d k i r is = at (job_of c k) refl (sym (job_kept S d c.volumes c.clients k) ∙ is)
    where
      e : Control
      e = put S (DiskFails d) c

      made : (old : Row) → job_of c k ≡ Busy i old
          → (has_it : Bool) → has_disk d (volume_at c.volumes (volume_of S i)).slots ≡ has_it
          → cond has_it (lost_row old.plan old) old ≡ r → JobStands S A e k i r
      made old was true has_it same = record {
        open_to = fault_shut d (volume_of S i) (jobs k i old was).open_to;
        names = λ begun. (jobs k i old was).names
            (sym (lost_begun old.plan old) ∙ ap (λ (z : Row). z.begun) same ∙ begun);
        plan = λ a started sound.
            subst (PlanStands (d ∷ c.round.faults) (volume_at e.volumes (volume_of S i))) same
            (lost_plan (d ∷ c.round.faults) (volume_at e.volumes (volume_of S i)) old old.plan refl);
      }
      made old was false none same = record {
        open_to = fault_shut d (volume_of S i) (jobs k i old was).open_to;
        names = λ begun. (jobs k i old was).names (ap (λ (z : Row). z.begun) same ∙ begun);
        plan = λ a started sound.
            let frame = fault_frame S c d (volume_of S i) in
            let x = volume_at c.volumes (volume_of S i) in
            subst (PlanStands (d ∷ c.round.faults) (volume_at e.volumes (volume_of S i))) same
            (same_used (d ∷ c.round.faults) x (volume_at e.volumes (volume_of S i)) old
            (λ s may. ap (λ xs. slot_at xs s) frame.slots)
            (kept x none old ((jobs k i old was).plan a (sym frame.started ∙ started) (frame.sound sound))));
      }
        where
          kept : (x : Volume) → has_disk d x.slots ≡ false → (old : Row) → PlanStands c.round.faults x old
              → PlanStands (d ∷ c.round.faults) x old
          kept x none old h plan has_it s left = more (h plan has_it s left)
            where
              more : (may_use c.round.faults x.slots s ≡ true) ⊎ IsOutrun c.round.faults x.slots old
                  → (may_use (d ∷ c.round.faults) x.slots s ≡ true)
                  ⊎ IsOutrun (d ∷ c.round.faults) x.slots old
              more (inl may) = inl (fault_use d x.slots none s ∙ may)
              more (inr out) = inr (record {
                slot = out.slot;
                may = fault_use d x.slots none out.slot ∙ out.may;
                begun = out.begun;
                unseen = out.unseen;
              })

      at : (job : Job) → job_of c k ≡ job → job_without S d c.volumes job ≡ Busy i r → JobStands S A e k i r
      at NoJob was now = absurd (cc now)
      at (Submitted j) was now = absurd (cc now)
      at (Busy j old) was now =
          let same : j ≡ i = cc now in
          let row : cond (has_disk d (volume_at c.volumes (volume_of S j)).slots) (lost_row old.plan old) old ≡ r
          = cc now in
          made old (was ∙ ap (λ n. Busy n old) same)
          (has_disk d (volume_at c.volumes (volume_of S i)).slots) refl
          (subst (λ n. cond (has_disk d (volume_at c.volumes (volume_of S n)).slots) (lost_row old.plan old) old ≡ r)
          same row)

  -- EACH CHANGE

  pub jobs_change : Seated S P.edits.formed A c → JobsFit S c → (a : Change) → IsFine S c a
      → JobsStand S A (put S a c)
  jobs_change seated fits StepsOn fine = same_jobs (put S StepsOn c) refl refl refl
  jobs_change seated fits (RoundBegins m) fine = same_jobs (put S (RoundBegins m) c) refl refl refl
  jobs_change seated fits (SpareBegins d m) fine = same_jobs (put S (SpareBegins d m) c) refl refl refl
  jobs_change seated fits (RoundEnds m) fine = absurd fine
  jobs_change seated fits (SpareEnds d) fine = same_jobs (put S (SpareEnds d) c) refl refl refl
  jobs_change seated fits RoundLapses fine = same_jobs (put S RoundLapses c) refl refl refl
  jobs_change seated fits (DiskFails d) fine = fault_jobs d
  jobs_change seated fits (DiskUnblocks d) fine = same_jobs (put S (DiskUnblocks d) c) refl refl refl
  jobs_change seated fits (StateGoes v word) fine =
      let y = record (volume_at c.volumes v) { state = state_after word } in
      framed_jobs (put S (StateGoes v word) c) refl refl
      (set_frame c.volumes v y (record { started = refl; slots = refl; sound = λ is. is }))
      (set_shut v y (λ shut. written v word))
  jobs_change seated fits (ClientMoves j new word) fine = moved_jobs seated fits j new word fine.1
  jobs_change seated fits (PassMoves v slots None word) fine = absurd fine
  jobs_change seated fits (PassMoves v slots (Some p) word) fine =
      let y = record (volume_at c.volumes v) { slots = slots; pass = Some p } in
      framed_jobs (put S (PassMoves v slots (Some p) word) c) refl refl
      (set_frame c.volumes v y (record { started = refl; slots = fine.same; sound = λ is. is }))
      (set_shut v y (λ shut. shut))
  jobs_change seated fits (ManagerMoves new word) fine = same_jobs (put S (ManagerMoves new word) c) refl refl refl
  jobs_change seated fits MonitorKilled fine = same_jobs (put S MonitorKilled c) refl refl refl
  jobs_change seated fits (TakeoverStarts left) fine = same_jobs (put S (TakeoverStarts left) c) refl refl refl
  jobs_change seated fits (TakeoverReads left seen found) fine =
      same_jobs (put S (TakeoverReads left seen found) c) refl refl refl
  jobs_change seated fits (MonitorResumes d) fine = same_jobs (put S (MonitorResumes d) c) refl refl refl
  jobs_change seated fits MonitorDies fine = same_jobs (put S MonitorDies c) refl refl refl

  -- THE END OF A ROUND

  pub jobs_end : Seated S P.edits.formed A c → (m : Laid) (step : Step)
      → c.round.phase ≡ Going OfRound m step [] [] true
      → JobsStand S A (puts S (all_runs (runs S c m)) (put S (RoundEnds m) c))
  jobs_end seated m step phase =
      subst (JobsStand S A) (sym (runs_only S (runs S c m) (put S (RoundEnds m) c))) now
    where
      e : Control
      e = record (put S (RoundEnds m) c) { volumes = behind S c m }

      now : JobsStand S A e
      now k i r is =
          let v = volume_of S i in
          let x = volume_at c.volumes v in
          let to = ends_to S c m v in
          let old = jobs k i r is in
          record {
            open_to = ap is_shut to.is ∙ end_shut S P c.round.faults c.round.last m v x to.made to.by ∙ old.open_to;
            names = old.names;
            plan = λ a started sound.
                let was = sym (ap (λ (y : Volume). y.started) to.is
                ∙ end_started S c.round.faults c.round.last m v x to.made to.by) ∙ started in
                let whole = sym (ap (λ (y : Volume). y.broken) to.is
                ∙ end_broken S P c.round.faults c.round.last m v x to.made to.by) ∙ sound in
                same_used c.round.faults x (volume_at (behind S c m) v) r
                (λ s may. ap (λ (y : Volume). slot_at y.slots s) to.is
                ∙ end_used S P c.round.faults c.round.last m v x to.made to.by
                (form S P c m step phase seated.opened seated.blocks) (seated.opened v)
                (seats_its S P c m step phase seated.opened seated.blocks v) s may)
                (old.plan a was whole);
          }
