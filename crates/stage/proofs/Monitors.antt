-- The monitor's turn in the code is the machine's.
use Rattle.std.proofs.Common.{◌≡◌, ℕ, ◌+◌, ◌==◌, ◌||◌, zero, suc, Bool, true, false, arith, List, [], ◌∷◌, drop, Option, Some, None, refl, ap, sym, subst, ◌∙◌}
use Rattle.std.proofs.Math.Bool.{or-true}
use Rattle.std.proofs.lemmas.Bool.Decides.{nat_tests}
use Rattle.std.specs.Prelude.{slice_index, if◌then◌else◌}
use Rattle.device_log.specs.Log.{Call, What}
use Rattle.member_bank.specs.Told.{Logs}
use Rattle.array_model.specs.Blocks.{Laid}
use Rattle.stage_machine.specs.Setting.{Setting, has_disk}
use Rattle.stage_machine.specs.Rounds as rounds
use Rattle.stage_machine.specs.Rounds.{Ended, round_call, what_of}
use Rattle.stage_machine.specs.Machine.{Control, Action, Monitors, Out, turn, turned, turned_unless, turn_call, call_of, call_unless, calls_after, monitor_at, put_round, dropped}
use Rattle.control_state.specs.declared.plan.Plan.{Plan}
use Rattle.control_state.specs.declared.round.Phase.{Phase}
use Rattle.control_state.specs.declared.round.Phase.TheVariants.{Rest, Going}
use Rattle.control_state.specs.declared.round.Ask.{Ask}
use Rattle.control_state.specs.declared.round.Step.{Step}
use Rattle.control_state.specs.declared.round.Step.TheVariants.{Anchor, Sync}
use Rattle.control_state.specs.Rounds.{phase_of, step_of, ask_of, next_ask, gone}
use Rattle.control_state.specs.Seen.{plan_setting}
use Rattle.stage.specs.Asked.{asked_of}
use Rattle.stage.specs.Runs.{run_setting, Tells, Makes}
use Rattle.stage.proofs.Same.{rest_same, step_same}

-- a run that goes on turns
pub turned_live : (S : Setting) (c : Control) (a : Action) → c.failed ≡ None → turned S c a ≡ turn S c a
turned_live S c a live = ap (turned_unless S c a) live

pub called_live : (S : Setting) (c : Control) (a : Action) → c.failed ≡ None → call_of S c a ≡ turn_call S c a
called_live S c a live = ap (call_unless S c a) live

-- WITHOUT A CALL

pub no_call : (S : Setting) (x : Ended) (phase : rounds.Phase) → next_ask phase ≡ None → round_call S x phase ≡ None
no_call S x rounds.Rest none = refl
no_call S x (rounds.Going m step []) none = refl
no_call S x (rounds.Going m step (d ∷ ds)) none = absurd (cc none)

-- a turn that makes no call
pub makes_none : (S : Setting) (told : Option (List Call)) (c : Control) (calls : ℕ) (a : Action) (out : Out) → c.failed ≡ None → turn_call S c a ≡ None → out ≡ turn S c a
    → Makes S told c calls a out calls told
makes_none S told c calls a out live none is =
    let silent : call_of S c a ≡ None = called_live S c a live ∙ none in
    record {
      is = is ∙ sym (turned_live S c a live);
      count = sym (ap (calls_after calls) silent);
      logs = subst (λ (call : Option Call). Tells told call told) (sym silent) (λ all at. at);
    }

-- one that makes a call
pub makes_some : (S : Setting) (told now : Option (List Call)) (c : Control) (calls : ℕ) (a : Action) (out : Out) (call : Call) → c.failed ≡ None → turn_call S c a ≡ Some call → out ≡ turn S c a
    → Logs told now call → Makes S told c calls a out (calls + 1) now
makes_some S told now c calls a out call live some is logs =
    let made : call_of S c a ≡ Some call = called_live S c a live ∙ some in
    record {
      is = is ∙ sym (turned_live S c a live);
      count = sym (ap (calls_after calls) made);
      logs = subst (λ (x : Option Call). Tells told x now) (sym made) logs;
    }

-- WITH A CALL

-- the parts of what is asked
abbrev asked_disk : Option (ℕ × rounds.Step) → ℕ
asked_disk None = 0
asked_disk (Some a) = a.0

abbrev asked_step : Option (ℕ × rounds.Step) → rounds.Step
asked_step None = rounds.AtSync
asked_step (Some a) = a.1

call_by : (S : Setting) (x : Ended) (m : Laid) (step of : rounds.Step) (d : ℕ) (left : List ℕ) → next_ask (rounds.Going m of left) ≡ Some (d, step)
    → round_call S x (rounds.Going m of left) ≡ Some (record { disk = d; what = what_of S x m step d; went = x.went })
call_by S x m step of d [] is = absurd (cc is)
call_by S x m step of d (e ∷ es) is = let disk : e ≡ d = ap asked_disk is in let same : of ≡ step = ap asked_step is in rw (disk, same) refl

pub call_is : (S : Setting) (x : Ended) (targets : List ℕ) (m : Laid) (phase : Phase) (d : ℕ) (step : rounds.Step) → next_ask (phase_of targets m phase) ≡ Some (d, step)
    → round_call S x (phase_of targets m phase) ≡ Some (record { disk = d; what = what_of S x m step d; went = x.went })
call_is S x targets m Rest d step is = absurd (cc is)
call_is S x targets m (Going s at) d step is = call_by S x m step (step_of s) d (drop at targets) is

-- the disk that is asked is one that is left
pub drop_has : (n d : ℕ) (ds xs : List ℕ) → drop n xs ≡ d ∷ ds → has_disk d xs ≡ true
drop_has n d ds [] is = absurd (none n is)
  where
    none : (n : ℕ) → drop n [] ≡ d ∷ ds → ⊥
    none zero is = absurd (cc is)
    none (suc n) is = absurd (cc is)
drop_has zero d ds (x ∷ xs) is = let same : x ≡ d = cc is in rw same (first d)
  where
    first : (d : ℕ) → (d == d) || has_disk d xs ≡ true
    first d = grind (arith, nat_tests)
drop_has (suc n) d ds (x ∷ xs) is = later (drop_has n d ds xs is)
  where
    later : has_disk d xs ≡ true → (x == d) || has_disk d xs ≡ true
    later is = rw is (or-true (x == d))

asked_by : (m : Laid) (of step : rounds.Step) (n d : ℕ) (targets left : List ℕ) → drop n targets ≡ left → next_ask (rounds.Going m of left) ≡ Some (d, step) → has_disk d targets ≡ true
asked_by m of step n d targets [] is ask = absurd (cc ask)
asked_by m of step n d targets (e ∷ es) is ask = let same : e ≡ d = ap asked_disk ask in drop_has n d es targets (rw (← same) is)

pub asked_has : (targets : List ℕ) (m : Laid) (phase : Phase) (d : ℕ) (step : rounds.Step) → next_ask (phase_of targets m phase) ≡ Some (d, step) → has_disk d targets ≡ true
asked_has targets m Rest d step is = absurd (cc is)
asked_has targets m (Going s at) d step is = asked_by m (step_of s) step at d targets (drop at targets) refl is

module _ (p : Plan) (newest : Laid) (sizes : List ℕ) where
  went_by : (c : Control) (stored : ℕ) (phase : rounds.Phase) (d : ℕ) (step : rounds.Step) → next_ask phase ≡ Some (d, step)
      → put_round c (gone (plan_setting p) c.round phase) ≡ monitor_at (run_setting p newest sizes) c (record { went = true; stored = stored }) phase
  went_by c stored rounds.Rest d step is = absurd (cc is)
  went_by c stored (rounds.Going m of []) d step is = absurd (cc is)
  went_by c stored (rounds.Going m of (e ∷ es)) d step is = ap (put_round c) (step_same p newest sizes c.round m of e es)

  failed_by : (c : Control) (stored : ℕ) (phase : rounds.Phase) (d : ℕ) (step : rounds.Step) → next_ask phase ≡ Some (d, step)
      → dropped d c ≡ monitor_at (run_setting p newest sizes) c (record { went = false; stored = stored }) phase
  failed_by c stored rounds.Rest d step is = absurd (cc is)
  failed_by c stored (rounds.Going m of []) d step is = absurd (cc is)
  failed_by c stored (rounds.Going m of (e ∷ es)) d step is = let same : e ≡ d = ap asked_disk is in rw same refl

  pub monitor_rested : (told : Option (List Call)) (c : Control) (calls : ℕ) (x : Ended) (out : Out) → c.failed ≡ None → next_ask c.round.phase ≡ None
      → out ≡ monitor_at (plan_setting p) c x c.round.phase → Makes (run_setting p newest sizes) told c calls (Monitors x) out calls told
  monitor_rested told c calls x out live none is =
      makes_none (run_setting p newest sizes) told c calls (Monitors x) out live (no_call (run_setting p newest sizes) x c.round.phase none) (is ∙ rest_same p newest sizes c x c.round.phase none)

  pub monitor_went : (told now : Option (List Call)) (c : Control) (calls stored : ℕ) (out : Out) (call : Call) (d : ℕ) (step : rounds.Step) → c.failed ≡ None → next_ask c.round.phase ≡ Some (d, step)
      → turn_call (run_setting p newest sizes) c (Monitors (record { went = true; stored = stored })) ≡ Some call
      → out ≡ put_round c (gone (plan_setting p) c.round c.round.phase) → Logs told now call
      → Makes (run_setting p newest sizes) told c calls (Monitors (record { went = true; stored = stored })) out (calls + 1) now
  monitor_went told now c calls stored out call d step live some made is logs =
      makes_some (run_setting p newest sizes) told now c calls (Monitors (record { went = true; stored = stored })) out call live made (is ∙ went_by c stored c.round.phase d step some) logs

  pub monitor_failed : (told now : Option (List Call)) (c : Control) (calls stored : ℕ) (out : Out) (call : Call) (d : ℕ) (step : rounds.Step) → c.failed ≡ None → next_ask c.round.phase ≡ Some (d, step)
      → turn_call (run_setting p newest sizes) c (Monitors (record { went = false; stored = stored })) ≡ Some call
      → out ≡ dropped d c → Logs told now call
      → Makes (run_setting p newest sizes) told c calls (Monitors (record { went = false; stored = stored })) out (calls + 1) now
  monitor_failed told now c calls stored out call d step live some made is logs =
      makes_some (run_setting p newest sizes) told now c calls (Monitors (record { went = false; stored = stored })) out call live made (is ∙ failed_by c stored c.round.phase d step some) logs

  -- the call that a round makes, by what the code asked
  pub call_made : (c : Control) (targets : List ℕ) (m : Laid) (phase : Phase) (ask : Option Ask) (a : Ask) (went : Bool) (stored : ℕ) → c.round.phase ≡ phase_of targets m phase → ask_of ask ≡ next_ask c.round.phase → ask ≡ Some a
      → turn_call (run_setting p newest sizes) c (Monitors (record { went = went; stored = stored }))
      ≡ Some (record { disk = a.disk.0; what = asked_of (slice_index sizes a.disk.0) m a.step (if went then 1 else stored); went = went })
  call_made c targets m phase ask a went stored at is some =
      let asked : next_ask (phase_of targets m phase) ≡ Some (a.disk.0, step_of a.step) = sym (ap next_ask at) ∙ sym is ∙ ap ask_of some in
      ap (round_call (run_setting p newest sizes) (record { went = went; stored = stored })) at
      ∙ call_is (run_setting p newest sizes) (record { went = went; stored = stored }) targets m phase a.disk.0 (step_of a.step) asked
      ∙ ap (λ (w : What). Some (record { disk = a.disk.0; what = w; went = went })) (same_what a.step)
    where
      same_what : (step : Step) → what_of (run_setting p newest sizes) (record { went = went; stored = stored }) m (step_of step) a.disk.0 ≡ asked_of (slice_index sizes a.disk.0) m step (if went then 1 else stored)
      same_what Anchor = refl
      same_what Sync = refl
