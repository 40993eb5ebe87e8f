-- What the disks held when a run began doesn't matter to what the machine does and calls.
use Rattle.std.proofs.Common.{◌≡◌, ℕ, ◌+◌, ◌==◌, ◌&&◌, ◌||◌, not, Bool, true, false, List, [], ◌∷◌, Option, Some, None, refl, ap, ◌∙◌}
use Rattle.units.specs.declared.disk.Sector.{Sector}
use Rattle.array_model.specs.declared.script.OpKind.{OpKind}
use Rattle.array_model.specs.declared.script.OpKind.TheVariants.{Write as OpWrite, Read as OpRead, Whole as OpWhole}
use Rattle.array_model.specs.Blocks.{Laid}
use Rattle.array_model.specs.Script.{kind_at}
use Rattle.stage_machine.specs.Setting.{Setting}
use Rattle.stage_machine.specs.Rounds.{Round, Phase, Rest, Going, Step, AtAnchor, AtSync, Ended, to_next, step_on, round_call, what_of}
use Rattle.stage_machine.specs.States.{State, IsReadonly, IsReadAuto, IsClean, IsPending, IsActive, IsIdle, Move, Nothing, Starts, Makes, decide, is_readonly, is_pending_state}
use Rattle.stage_machine.specs.Jobs.{JobStep, Waiting, Writing, Syncing, Written, Got, Job, NoJob, Busy, Client, client_at, Need, NoNeed, Reads, Writes, Syncs, Answers, holds, locked_from, is_writing, any_writing, is_write, row_at, need_of, first_need, after_write, need_call}
use Rattle.stage_machine.specs.Machine.{Control, Action, Monitors, Asks, Quiets, called, put_round, put_client, monitor_at, moved, submit_next, submit_unless, submit_kind, need_now, need_unless, is_held, meet, client_by, job_call, quieted, quiet_if, turn, turned, turned_unless, turn_call, call_of, call_unless}
use Rattle.stage.specs.Runs.{holding}

module _ (S : Setting) (opening : List (List Sector)) where
  abbrev pub H : Setting
  H = holding S opening

  holds_held : (row : ℕ) (job : Job) → holds H row job ≡ holds S row job
  holds_held row NoJob = refl
  holds_held row (Busy i Waiting) = refl
  holds_held row (Busy i (Writing left)) = refl
  holds_held row (Busy i (Syncing left)) = refl
  holds_held row (Busy i Written) = refl
  holds_held row (Busy i (Got value)) = refl

  locked_held : (row k j : ℕ) (cs : List Client) → locked_from H row k j cs ≡ locked_from S row k j cs
  locked_held row k j [] = refl
  locked_held row k j (c ∷ cs) =
      ap (λ (b : Bool). (not (j == k) && b) || locked_from H row k (j + 1) cs) (holds_held row c.job)
      ∙ ap (λ (b : Bool). (not (j == k) && holds S row c.job) || b) (locked_held row k (j + 1) cs)

  writing_held : (cs : List Client) → any_writing H cs ≡ any_writing S cs
  writing_held [] = refl
  writing_held (c ∷ cs) = ap (λ (b : Bool). b || any_writing H cs) (job c.job) ∙ ap (λ (b : Bool). is_writing S c.job || b) (writing_held cs)
    where
      job : (x : Job) → is_writing H x ≡ is_writing S x
      job NoJob = refl
      job (Busy i step) = refl

  after_write_held : (left : List ℕ) → after_write H left ≡ after_write S left
  after_write_held [] = refl
  after_write_held (d ∷ ds) = refl

  first_held : (kind : Option OpKind) → first_need H kind ≡ first_need S kind
  first_held None = refl
  first_held (Some (OpWrite v s value)) = refl
  first_held (Some (OpRead v s)) = refl
  first_held (Some (OpWhole v)) = refl

  need_held : (i : ℕ) (step : JobStep) → need_of H i step ≡ need_of S i step
  need_held i Waiting = first_held (kind_at S.asked.ops i)
  need_held i (Writing left) = refl
  need_held i (Syncing left) = refl
  need_held i Written = refl
  need_held i (Got value) = refl

  unless_held : (i : ℕ) (step : JobStep) (held : Bool) → need_unless H i step held ≡ need_unless S i step held
  unless_held i step true = refl
  unless_held i step false = need_held i step

  now_held : (c : Control) (k i : ℕ) (step : JobStep) → need_now H c k i step ≡ need_now S c k i step
  now_held c k i step =
      unless_held i step (is_held H c k i)
      ∙ ap (need_unless S i step) (ap (λ (b : Bool). (is_write S i && is_pending_state c.state) || b) (locked_held (row_at S i) k 0 c.clients))

  -- CALLS

  what_held : (x : Ended) (m : Laid) (step : Step) (d : ℕ) → what_of H x m step d ≡ what_of S x m step d
  what_held x m AtAnchor d = refl
  what_held x m AtSync d = refl

  round_call_held : (x : Ended) (phase : Phase) → round_call H x phase ≡ round_call S x phase
  round_call_held x Rest = refl
  round_call_held x (Going m step []) = refl
  round_call_held x (Going m step (d ∷ ds)) = ap (λ w. Some (record { disk = d; what = w; went = x.went })) (what_held x m step d)

  need_call_held : (x : Ended) (i : ℕ) (n : Need) → need_call H x i n ≡ need_call S x i n
  need_call_held x i NoNeed = refl
  need_call_held x i (Reads d) = refl
  need_call_held x i (Writes d ds) = refl
  need_call_held x i (Syncs d ds) = refl
  need_call_held x i (Answers answer) = refl

  job_call_held : (c : Control) (k : ℕ) (x : Ended) (job : Job) → job_call H c k x job ≡ job_call S c k x job
  job_call_held c k x NoJob = refl
  job_call_held c k x (Busy i step) = need_call_held x i (need_now H c k i step) ∙ ap (need_call S x i) (now_held c k i step)

  turn_call_held : (c : Control) (a : Action) → turn_call H c a ≡ turn_call S c a
  turn_call_held c (Monitors x) = round_call_held x c.round.phase
  turn_call_held c (Asks k x got) = job_call_held c k x (client_at c.clients k).job
  turn_call_held c Quiets = refl

  call_unless_held : (c : Control) (a : Action) (failed : Option ℕ) → call_unless H c a failed ≡ call_unless S c a failed
  call_unless_held c a None = turn_call_held c a
  call_unless_held c a (Some d) = refl

  pub call_held : (c : Control) (a : Action) → call_of H c a ≡ call_of S c a
  call_held c a = call_unless_held c a c.failed

  -- TURNS

  moved_held : (c : Control) (move : Move) → moved H c move ≡ moved S c move
  moved_held c Nothing = refl
  moved_held c Starts = refl
  moved_held c (Makes to event) = refl

  to_next_held : (r : Round) (m : Laid) (left : List ℕ) → to_next H r m left ≡ to_next S r m left
  to_next_held r m [] = refl
  to_next_held r m (d ∷ ds) = refl

  step_held : (r : Round) (m : Laid) (step : Step) (d : ℕ) (ds : List ℕ) → step_on H r m step d ds ≡ step_on S r m step d ds
  step_held r m AtAnchor d ds = refl
  step_held r m AtSync d ds = to_next_held r m ds

  monitor_held : (c : Control) (x : Ended) (phase : Phase) → monitor_at H c x phase ≡ monitor_at S c x phase
  monitor_held c x Rest = moved_held c (decide c.round.started c.state (S.start.words.is_dirty c.round.last 0) (S.start.words.is_dirty c.round.book 0))
  monitor_held c x (Going m step []) = refl
  monitor_held c x (Going m step (d ∷ ds)) = ap (λ r. called x.went d (put_round c r) c) (step_held c.round m step d ds)

  kind_held : (c : Control) (k i : ℕ) (rest : List ℕ) (kind : Option OpKind) → submit_kind H c k i rest kind ≡ submit_kind S c k i rest kind
  kind_held c k i rest None = refl
  kind_held c k i rest (Some (OpWrite v s value)) = refl
  kind_held c k i rest (Some (OpRead v s)) = refl
  kind_held c k i rest (Some (OpWhole v)) = refl

  submit_held : (c : Control) (k i : ℕ) (rest : List ℕ) (readonly : Bool) → submit_unless H c k i rest readonly ≡ submit_unless S c k i rest readonly
  submit_held c k i rest true = refl
  submit_held c k i rest false = kind_held c k i rest (kind_at S.asked.ops i)

  next_held : (c : Control) (k : ℕ) (left : List ℕ) → submit_next H c k left ≡ submit_next S c k left
  next_held c k [] = refl
  next_held c k (i ∷ rest) = submit_held c k i rest (is_readonly c.state)

  meet_held : (c : Control) (k : ℕ) (x : Ended) (got : Sector) (left : List ℕ) (i : ℕ) (n : Need) → meet H c k x got left i n ≡ meet S c k x got left i n
  meet_held c k x got left i NoNeed = refl
  meet_held c k x got left i (Reads d) = refl
  meet_held c k x got left i (Writes d ds) =
      ap (λ (step : JobStep). called x.went d (record { next = put_client c k left (Busy i step); events = [] }) c) (after_write_held ds)
  meet_held c k x got left i (Syncs d ds) = refl
  meet_held c k x got left i (Answers answer) = refl

  client_held : (c : Control) (k : ℕ) (x : Ended) (got : Sector) (left : List ℕ) (job : Job) → client_by H c k x got left job ≡ client_by S c k x got left job
  client_held c k x got left NoJob = next_held c k left
  client_held c k x got left (Busy i step) = meet_held c k x got left i (need_now H c k i step) ∙ ap (meet S c k x got left i) (now_held c k i step)

  quiet_held : (c : Control) (state : State) → quieted H c state ≡ quieted S c state
  quiet_held c IsReadonly = refl
  quiet_held c IsReadAuto = refl
  quiet_held c IsClean = refl
  quiet_held c IsPending = refl
  quiet_held c IsActive = ap (λ (b : Bool). quiet_if c (not b)) (writing_held c.clients)
  quiet_held c IsIdle = refl

  turn_held : (c : Control) (a : Action) → turn H c a ≡ turn S c a
  turn_held c (Monitors x) = monitor_held c x c.round.phase
  turn_held c (Asks k x got) = client_held c k x got (client_at c.clients k).left (client_at c.clients k).job
  turn_held c Quiets = quiet_held c c.state

  turned_by : (c : Control) (a : Action) (failed : Option ℕ) → turned_unless H c a failed ≡ turned_unless S c a failed
  turned_by c a None = turn_held c a
  turned_by c a (Some d) = refl

  pub turned_held : (c : Control) (a : Action) → turned H c a ≡ turned S c a
  turned_held c a = turned_by c a c.failed
