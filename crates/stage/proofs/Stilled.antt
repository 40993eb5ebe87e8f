-- Whether an actor has nothing to do is one thing for the code and for the machine, and each answer of a turn has its cause.
use Rattle.std.proofs.Common.{◌≡◌, ℕ, List, [], ◌∷◌, Option, Some, None, inr, refl, ap, sym, subst, ◌∙◌}
use Rattle.units.specs.declared.disk.DiskNo.{DiskNo}
use Rattle.units.specs.declared.disk.Sector.{Sector}
use Rattle.array_model.specs.Blocks.{Laid}
use Rattle.stage_machine.specs.Setting.{Setting}
use Rattle.stage_machine.specs.Rounds.{Phase, Rest, Going, Ended, round_call}
use Rattle.stage_machine.specs.Jobs.{Job, NoJob, Busy, Need, NoNeed, Reads, Writes, Syncs, Answers, client_at, need_call}
use Rattle.stage_machine.specs.Machine.{Control, Action, Monitors, Asks, Quiets, turn, turn_call, turned_unless, call_unless, monitor_at, client_by, job_call, meet, need_now}
use Rattle.control_state.specs.declared.plan.Plan.{Plan}
use Rattle.control_state.specs.Controls.{failed_of}
use Rattle.control_state.specs.Seen.{plan_setting}
use Rattle.control_state.specs.Still.{is_still, is_silent, does_nothing}
use Rattle.stage.specs.declared.turned.Turned.{Turned}
use Rattle.stage.specs.Runs.{run_setting}
use Rattle.stage.specs.Stages.{Seen, Acted, Answered}
use Rattle.stage.specs.Ends.{answer_of}
use Rattle.stage.proofs.Same.{now_same, next_same, rest_same, quiet_same}

module _ (p : Plan) (newest : Laid) (sizes : List ℕ) where
  abbrev P : Setting
  P = plan_setting p

  abbrev S : Setting
  S = run_setting p newest sizes

  monitor_same : (c : Control) (x : Ended) (phase : Phase) → does_nothing (round_call P x phase) (monitor_at P c x phase) ≡ does_nothing (round_call S x phase) (monitor_at S c x phase)
  monitor_same c x Rest = ap (λ o. is_silent o.events) (rest_same p newest sizes c x Rest refl)
  monitor_same c x (Going m step []) = refl
  monitor_same c x (Going m step (d ∷ ds)) = refl

  met_same : (c : Control) (k : ℕ) (x : Ended) (got : Sector) (left : List ℕ) (i : ℕ) (n : Need) → does_nothing (need_call P x i n) (meet P c k x got left i n) ≡ does_nothing (need_call S x i n) (meet S c k x got left i n)
  met_same c k x got left i NoNeed = refl
  met_same c k x got left i (Reads d) = refl
  met_same c k x got left i (Writes d ds) = refl
  met_same c k x got left i (Syncs d ds) = refl
  met_same c k x got left i (Answers answer) = refl

  client_same : (c : Control) (k : ℕ) (x : Ended) (got : Sector) (left : List ℕ) (job : Job) → does_nothing (job_call P c k x job) (client_by P c k x got left job) ≡ does_nothing (job_call S c k x job) (client_by S c k x got left job)
  client_same c k x got left NoJob = ap (λ o. is_silent o.events) (next_same p newest sizes c k left)
  client_same c k x got left (Busy i step) =
      ap (λ (n : Need). does_nothing (need_call P x i n) (meet P c k x got left i n)) (now_same p newest sizes c k i step) ∙ met_same c k x got left i (need_now S c k i step)

  turn_same : (c : Control) (a : Action) → does_nothing (turn_call P c a) (turn P c a) ≡ does_nothing (turn_call S c a) (turn S c a)
  turn_same c (Monitors x) = monitor_same c x c.round.phase
  turn_same c (Asks k x got) = client_same c k x got (client_at c.clients k).left (client_at c.clients k).job
  turn_same c Quiets = ap (λ o. is_silent o.events) (quiet_same p newest sizes c c.state)

  unless_same : (c : Control) (a : Action) (failed : Option ℕ) → does_nothing (call_unless P c a failed) (turned_unless P c a failed) ≡ does_nothing (call_unless S c a failed) (turned_unless S c a failed)
  unless_same c a None = turn_same c a
  unless_same c a (Some d) = refl

  pub still_same : (c : Control) (a : Action) → is_still (plan_setting p) c a ≡ is_still (run_setting p newest sizes) c a
  still_same c a = unless_same c a c.failed

-- THE ANSWERS

answers_act : {B : Type 0} (a b : Seen B) (act : Action) (failed : Option DiskNo) → b.control.failed ≡ failed_of failed → Acted a b act → Answered a b act (answer_of failed)
answers_act a b act None at acted = (acted, at)
answers_act a b act (Some d) at acted = (at, inr acted)

-- a turn that was made
pub answers_made : {B : Type 0} (a b : Seen B) (act : Action) (failed : Option DiskNo) (result : Turned) → result ≡ answer_of failed → b.control.failed ≡ failed_of failed → Acted a b act → Answered a b act result
answers_made a b act failed result is at acted = subst (λ (r : Turned). Answered a b act r) (sym is) (answers_act a b act failed at acted)
