-- What the machine does with two settings that have the same operations, members and rows, and the same edit.
use Rattle.std.proofs.Common.{◌≡◌, ℕ, ◌+◌, ◌==◌, ◌&&◌, ◌||◌, not, Bool, true, false, List, [], ◌∷◌, Option, Some, None, refl, ap, ◌∙◌}
use Rattle.array_model.specs.declared.script.OpKind.{OpKind}
use Rattle.array_model.specs.declared.script.OpKind.TheVariants.{Write as OpWrite, Read as OpRead, Whole as OpWhole}
use Rattle.array_model.specs.Blocks.{Laid}
use Rattle.array_model.specs.Script.{kind_at}
use Rattle.stage_machine.specs.Setting.{Setting}
use Rattle.stage_machine.specs.Rounds.{Round, Phase, Rest, Going, Step, AtAnchor, AtSync, Ended, to_next, step_on}
use Rattle.stage_machine.specs.States.{State, IsReadonly, IsReadAuto, IsClean, IsPending, IsActive, IsIdle, Move, Nothing, Starts, Makes, decide, is_readonly, is_pending_state}
use Rattle.stage_machine.specs.Jobs.{JobStep, Waiting, Writing, Syncing, Written, Got, Job, NoJob, Busy, Client, holds, locked_from, is_writing, any_writing, is_write, row_at, need_of, first_need, after_write}
use Rattle.stage_machine.specs.Machine.{Control, monitor_at, moved, submit_next, submit_unless, submit_kind, need_now, need_unless, is_held, quieted, quiet_if}
use Rattle.control_state.specs.declared.plan.Plan.{Plan}
use Rattle.control_state.specs.Rounds.{next_ask}
use Rattle.control_state.specs.Seen.{plan_setting}
use Rattle.stage.specs.Runs.{run_setting}

module _ (p : Plan) (newest : Laid) (sizes : List ℕ) where
  abbrev pub P : Setting
  P = plan_setting p

  abbrev pub S : Setting
  S = run_setting p newest sizes

  holds_same : (row : ℕ) (job : Job) → holds P row job ≡ holds S row job
  holds_same row NoJob = refl
  holds_same row (Busy i Waiting) = refl
  holds_same row (Busy i (Writing left)) = refl
  holds_same row (Busy i (Syncing left)) = refl
  holds_same row (Busy i Written) = refl
  holds_same row (Busy i (Got value)) = refl

  locked_same : (row k j : ℕ) (cs : List Client) → locked_from P row k j cs ≡ locked_from S row k j cs
  locked_same row k j [] = refl
  locked_same row k j (c ∷ cs) =
      ap (λ (b : Bool). (not (j == k) && b) || locked_from P row k (j + 1) cs) (holds_same row c.job)
      ∙ ap (λ (b : Bool). (not (j == k) && holds S row c.job) || b) (locked_same row k (j + 1) cs)

  pub writing_same : (cs : List Client) → any_writing P cs ≡ any_writing S cs
  writing_same [] = refl
  writing_same (c ∷ cs) = ap (λ (b : Bool). b || any_writing P cs) (job c.job) ∙ ap (λ (b : Bool). is_writing S c.job || b) (writing_same cs)
    where
      job : (x : Job) → is_writing P x ≡ is_writing S x
      job NoJob = refl
      job (Busy i step) = refl

  pub after_write_same : (left : List ℕ) → after_write P left ≡ after_write S left
  after_write_same [] = refl
  after_write_same (d ∷ ds) = refl

  first_same : (kind : Option OpKind) → first_need P kind ≡ first_need S kind
  first_same None = refl
  first_same (Some (OpWrite v s value)) = refl
  first_same (Some (OpRead v s)) = refl
  first_same (Some (OpWhole v)) = refl

  need_same : (i : ℕ) (step : JobStep) → need_of P i step ≡ need_of S i step
  need_same i Waiting = first_same (kind_at p.ops.items i)
  need_same i (Writing left) = refl
  need_same i (Syncing left) = refl
  need_same i Written = refl
  need_same i (Got value) = refl

  unless_same : (i : ℕ) (step : JobStep) (held : Bool) → need_unless P i step held ≡ need_unless S i step held
  unless_same i step true = refl
  unless_same i step false = need_same i step

  pub now_same : (c : Control) (k i : ℕ) (step : JobStep) → need_now P c k i step ≡ need_now S c k i step
  now_same c k i step =
      unless_same i step (is_held P c k i)
      ∙ ap (need_unless S i step) (ap (λ (b : Bool). (is_write S i && is_pending_state c.state) || b) (locked_same (row_at S i) k 0 c.clients))

  kind_same : (c : Control) (k i : ℕ) (rest : List ℕ) (kind : Option OpKind) → submit_kind P c k i rest kind ≡ submit_kind S c k i rest kind
  kind_same c k i rest None = refl
  kind_same c k i rest (Some (OpWrite v s value)) = refl
  kind_same c k i rest (Some (OpRead v s)) = refl
  kind_same c k i rest (Some (OpWhole v)) = refl

  submit_same : (c : Control) (k i : ℕ) (rest : List ℕ) (readonly : Bool) → submit_unless P c k i rest readonly ≡ submit_unless S c k i rest readonly
  submit_same c k i rest true = refl
  submit_same c k i rest false = kind_same c k i rest (kind_at p.ops.items i)

  pub next_same : (c : Control) (k : ℕ) (left : List ℕ) → submit_next P c k left ≡ submit_next S c k left
  next_same c k [] = refl
  next_same c k (i ∷ rest) = submit_same c k i rest (is_readonly c.state)

  moved_same : (c : Control) (move : Move) → moved P c move ≡ moved S c move
  moved_same c Nothing = refl
  moved_same c Starts = refl
  moved_same c (Makes to event) = refl

  pub rest_same : (c : Control) (x : Ended) (phase : Phase) → next_ask phase ≡ None → monitor_at P c x phase ≡ monitor_at S c x phase
  rest_same c x Rest none = moved_same c (decide c.round.started c.state (P.start.words.is_dirty c.round.last 0) (P.start.words.is_dirty c.round.book 0))
  rest_same c x (Going m step []) none = refl
  rest_same c x (Going m step (d ∷ ds)) none = absurd (cc none)

  to_next_same : (r : Round) (m : Laid) (left : List ℕ) → to_next P r m left ≡ to_next S r m left
  to_next_same r m [] = refl
  to_next_same r m (d ∷ ds) = refl

  pub step_same : (r : Round) (m : Laid) (step : Step) (d : ℕ) (ds : List ℕ) → step_on P r m step d ds ≡ step_on S r m step d ds
  step_same r m AtAnchor d ds = refl
  step_same r m AtSync d ds = to_next_same r m ds

  pub quiet_same : (c : Control) (state : State) → quieted P c state ≡ quieted S c state
  quiet_same c IsReadonly = refl
  quiet_same c IsReadAuto = refl
  quiet_same c IsClean = refl
  quiet_same c IsPending = refl
  quiet_same c IsActive = ap (λ (b : Bool). quiet_if c (not b)) (writing_same c.clients)
  quiet_same c IsIdle = refl
