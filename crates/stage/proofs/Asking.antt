-- A client's turn in the code is the machine's.
use Rattle.std.proofs.Common.{◌≡◌, ℕ, ◌+◌, ◌<◌, Bool, true, false, List, [], ◌∷◌, drop, Option, Some, None, nat_lt, refl, ap, sym, subst, ◌∙◌, arith}
use Rattle.std.proofs.lemmas.Bool.Decides.{nat_tests}
use Rattle.units.specs.declared.disk.Sector.{Sector}
use Rattle.device_log.specs.Log.{Call, Read}
use Rattle.member_bank.specs.Told.{Logs, Gives}
use Rattle.array_model.specs.declared.script.OpKind.{OpKind}
use Rattle.array_model.specs.declared.script.OpKind.TheVariants.{Write as OpWrite, Read as OpRead, Whole as OpWhole}
use Rattle.array_model.specs.Script.{kind_at}
use Rattle.array_model.specs.Blocks.{Laid}
use Rattle.array_model.specs.Placement.{placement_of}
use Rattle.stage_machine.specs.Setting.{has_disk}
use Rattle.stage_machine.specs.Rounds.{Ended}
use Rattle.stage_machine.specs.Jobs as jobs
use Rattle.stage_machine.specs.Jobs.{client_at, Busy, NoJob, NoNeed, Reads, Writes, Syncs, Answers, row_at, row_in, sector_in, need_call}
use Rattle.stage_machine.specs.Machine.{Control, Asks, Out, turn, turn_call, client_by, job_call, meet, need_now, need_unless, is_held, submit_next}
use Rattle.control_state.specs.declared.plan.Plan.{Plan}
use Rattle.control_state.specs.declared.job.JobStep.{JobStep}
use Rattle.control_state.specs.declared.job.JobStep.TheVariants.{Waiting, Writing, Syncing, Written, Got}
use Rattle.control_state.specs.Seen.{plan_setting, numbers, shape_of, step_of}
use Rattle.stage.specs.Runs.{run_setting, MakesTrue}
use Rattle.stage.proofs.Going.{silent_true}
use Rattle.stage.proofs.Monitors.{makes_none, makes_some, called_live, drop_has}
use Rattle.stage.proofs.Same.{now_same, next_same}

-- WHICH DISK, AND WHICH ROW

abbrev pub disk_in : jobs.Need → Option ℕ
disk_in NoNeed = None
disk_in (Reads d) = Some d
disk_in (Writes d ds) = Some d
disk_in (Syncs d ds) = Some d
disk_in (Answers answer) = None

reads_has : (n d : ℕ) (members left : List ℕ) → drop n members ≡ left → disk_in (jobs.read_need left) ≡ Some d → has_disk d members ≡ true
reads_has n d members [] is some = absurd (cc some)
reads_has n d members (e ∷ es) is some = let same : e ≡ d = cc some in drop_has n d es members (rw (← same) is)

writes_has : (n d : ℕ) (members left : List ℕ) → drop n members ≡ left → disk_in (jobs.write_need left) ≡ Some d → has_disk d members ≡ true
writes_has n d members [] is some = absurd (cc some)
writes_has n d members (e ∷ es) is some = let same : e ≡ d = cc some in drop_has n d es members (rw (← same) is)

syncs_has : (n d : ℕ) (members left : List ℕ) → drop n members ≡ left → disk_in (jobs.sync_need left) ≡ Some d → has_disk d members ≡ true
syncs_has n d members [] is some = absurd (cc some)
syncs_has n d members (e ∷ es) is some = let same : e ≡ d = cc some in drop_has n d es members (rw (← same) is)

first_has : (p : Plan) (d : ℕ) (kind : Option OpKind) → disk_in (jobs.first_need (plan_setting p) kind) ≡ Some d → has_disk d (numbers p.members.items) ≡ true
first_has p d None some = absurd (cc some)
first_has p d (Some (OpWrite v s value)) some = writes_has 0 d (numbers p.members.items) (numbers p.members.items) refl some
first_has p d (Some (OpRead v s)) some = reads_has 0 d (numbers p.members.items) (numbers p.members.items) refl some
first_has p d (Some (OpWhole v)) some = absurd (cc some)

step_has : (p : Plan) (i d : ℕ) (read : Sector) (step : JobStep) → disk_in (jobs.need_of (plan_setting p) i (step_of (numbers p.members.items) read step)) ≡ Some d → has_disk d (numbers p.members.items) ≡ true
step_has p i d read Waiting some = first_has p d (kind_at p.ops.items i) some
step_has p i d read (Writing at) some = writes_has at d (numbers p.members.items) (drop at (numbers p.members.items)) refl some
step_has p i d read (Syncing at) some = syncs_has at d (numbers p.members.items) (drop at (numbers p.members.items)) refl some
step_has p i d read Written some = absurd (cc some)
step_has p i d read Got some = absurd (cc some)

unless_has : (p : Plan) (i d : ℕ) (read : Sector) (step : JobStep) (held : Bool) → disk_in (need_unless (plan_setting p) i (step_of (numbers p.members.items) read step) held) ≡ Some d → has_disk d (numbers p.members.items) ≡ true
unless_has p i d read step true some = absurd (cc some)
unless_has p i d read step false some = step_has p i d read step some

-- a disk that a job needs is a member
pub needed_has : (p : Plan) (c : Control) (k : ℕ) (read : Sector) (i d : ℕ) (step : JobStep) (n : jobs.Need) → n ≡ need_now (plan_setting p) c k i (step_of (numbers p.members.items) read step) → disk_in n ≡ Some d
    → has_disk d (numbers p.members.items) ≡ true
needed_has p c k read i d step n is some = unless_has p i d read step (is_held (plan_setting p) c k i) (sym (ap disk_in is) ∙ some)

below : (a b : ℕ) → nat_lt a b ≡ true → a < b
below a b is = grind (arith, nat_tests)

-- a row is below the volume's size
pub row_below : (p : Plan) (i : ℕ) → 0 < p.size → row_at (plan_setting p) i < p.size
row_below p i some = at (sector_in (kind_at p.ops.items i))
  where
    by : (s : ℕ) (b : Bool) → nat_lt s p.size ≡ b → row_in (placement_of (shape_of p) s) < p.size
    by s true is = rw is (below s p.size is)
    by s false is = rw is some

    at : (s : ℕ) → row_in (placement_of (shape_of p) s) < p.size
    at s = by s (nat_lt s p.size) refl

-- TURNS

some_is : (a b : Call) → Some a ≡ Some b → a ≡ b
some_is a b is = cc is

module _ (p : Plan) (newest : Laid) (sizes : List ℕ) where
  -- the job of the client meets what it needs
  met : (c : Control) (k : ℕ) (x : Ended) (got : Sector) (i : ℕ) (step : jobs.JobStep) (n : jobs.Need) → (client_at c.clients k).job ≡ Busy i step → n ≡ need_now (plan_setting p) c k i step
      → meet (run_setting p newest sizes) c k x got (client_at c.clients k).left i n ≡ turn (run_setting p newest sizes) c (Asks k x got)
  met c k x got i step n job need =
      sym (ap (client_by (run_setting p newest sizes) c k x got (client_at c.clients k).left) job
      ∙ ap (meet (run_setting p newest sizes) c k x got (client_at c.clients k).left i) (sym (need ∙ now_same p newest sizes c k i step)))

  met_call : (c : Control) (k : ℕ) (x : Ended) (got : Sector) (i : ℕ) (step : jobs.JobStep) (n : jobs.Need) → (client_at c.clients k).job ≡ Busy i step → n ≡ need_now (plan_setting p) c k i step
      → turn_call (run_setting p newest sizes) c (Asks k x got) ≡ need_call (run_setting p newest sizes) x i n
  met_call c k x got i step n job need =
      ap (job_call (run_setting p newest sizes) c k x) job ∙ ap (need_call (run_setting p newest sizes) x i) (sym (need ∙ now_same p newest sizes c k i step))

  -- without a call
  pub met_none : (told : Option (List Call)) (c : Control) (calls k : ℕ) (x : Ended) (got : Sector) (i : ℕ) (step : jobs.JobStep) (n : jobs.Need) (out : Out) → c.failed ≡ None
      → (client_at c.clients k).job ≡ Busy i step → n ≡ need_now (plan_setting p) c k i step → need_call (run_setting p newest sizes) x i n ≡ None
      → out ≡ meet (run_setting p newest sizes) c k x got (client_at c.clients k).left i n → (held : Option (List (List Sector))) → MakesTrue (run_setting p newest sizes) told c calls (Asks k x got) out calls held told
  met_none told c calls k x got i step n out live job need none is held =
      let silent = met_call c k x got i step n job need ∙ none in
      silent_true (run_setting p newest sizes) told c calls (Asks k x got) out calls held told (called_live (run_setting p newest sizes) c (Asks k x got) live ∙ silent)
      (makes_none (run_setting p newest sizes) told c calls (Asks k x got) out live silent (is ∙ met c k x got i step n job need))

  -- with one
  pub met_some : (told now : Option (List Call)) (c : Control) (calls k : ℕ) (x : Ended) (got : Sector) (i : ℕ) (step : jobs.JobStep) (n : jobs.Need) (out : Out) (call : Call) → c.failed ≡ None
      → (client_at c.clients k).job ≡ Busy i step → n ≡ need_now (plan_setting p) c k i step → need_call (run_setting p newest sizes) x i n ≡ Some call
      → out ≡ meet (run_setting p newest sizes) c k x got (client_at c.clients k).left i n → Logs told now call → (held : Option (List (List Sector))) → ((place : ℕ) → call.what ≡ Read place → call.went ≡ true → Gives held now call.disk place got)
      → MakesTrue (run_setting p newest sizes) told c calls (Asks k x got) out (calls + 1) held now
  met_some told now c calls k x got i step n out call live job need some is logs held gives =
      let asks = met_call c k x got i step n job need ∙ some in
      let made = called_live (run_setting p newest sizes) c (Asks k x got) live ∙ asks in
      record {
        makes = makes_some (run_setting p newest sizes) told now c calls (Asks k x got) out call live asks (is ∙ met c k x got i step n job need) logs;
        gave = λ other place it read went.
            let same : call ≡ other = some_is call other (sym made ∙ it) in
            subst (λ (z : Call). Gives held now z.disk place got) same (gives place (ap (λ (z : Call). z.what) same ∙ read) (ap (λ (z : Call). z.went) same ∙ went));
      }

  pub submitted : (told : Option (List Call)) (c : Control) (calls k : ℕ) (x : Ended) (got : Sector) (out : Out) → c.failed ≡ None → (client_at c.clients k).job ≡ NoJob
      → out ≡ submit_next (plan_setting p) c k (client_at c.clients k).left → (held : Option (List (List Sector))) → MakesTrue (run_setting p newest sizes) told c calls (Asks k x got) out calls held told
  submitted told c calls k x got out live job is held =
      let silent = ap (job_call (run_setting p newest sizes) c k x) job in
      silent_true (run_setting p newest sizes) told c calls (Asks k x got) out calls held told (called_live (run_setting p newest sizes) c (Asks k x got) live ∙ silent)
      (makes_none (run_setting p newest sizes) told c calls (Asks k x got) out live silent
      (is ∙ next_same p newest sizes c k (client_at c.clients k).left ∙ sym (ap (client_by (run_setting p newest sizes) c k x got (client_at c.clients k).left) job)))
