-- A setting with other disks, another opening and another shape of the volume has the same runs, as long as the disks have
-- the same sizes, and sectors the same places.
use Rattle.std.proofs.Common.{◌≡◌, ℕ, ◌+◌, ◌==◌, ◌&&◌, ◌||◌, not, Bool, true, false, List, [], ◌∷◌, Option, Some, None, refl, ap, ◌∙◌}
use Rattle.units.specs.Places.{anchor_place}
use Rattle.units.specs.declared.disk.Sector.{Sector}
use Rattle.device_log.specs.Log.{Read, Write}
use Rattle.array_model.specs.declared.script.Ask.{Ask}
use Rattle.array_model.specs.declared.script.OpKind.{OpKind}
use Rattle.array_model.specs.declared.script.OpKind.TheVariants.{Write as OpWrite, Read as OpRead, Whole as OpWhole}
use Rattle.array_model.specs.Blocks.{Laid}
use Rattle.array_model.specs.Placement.{Shape, placement_of}
use Rattle.array_model.specs.Script.{kind_at}
use Rattle.array_model.specs.Start.{Disks}
use Rattle.stage_machine.specs.Setting.{Setting}
use Rattle.stage_machine.specs.Rounds.{Round, Phase, Rest, Going, Step, AtAnchor, AtSync, Ended, stored_of, what_of, round_call, to_next, step_on}
use Rattle.stage_machine.specs.States.{State, IsReadonly, IsReadAuto, IsClean, IsPending, IsActive, IsIdle, Move, Nothing, Starts, Makes, decide, is_readonly, is_pending_state}
use Rattle.stage_machine.specs.Jobs.{JobStep, Waiting, Writing, Syncing, Written, Got, Job, NoJob, Busy, Client, client_at, holds, locked_from, is_writing, any_writing, is_write, row_at, row_in, placement_at, sector_in, value_at, the_shape, Need, NoNeed, Reads, Writes, Syncs, Answers, need_of, need_call, first_need, after_write}
use Rattle.stage_machine.specs.Machine.{Control, Action, Monitors, Asks, Quiets, monitor_at, moved, put_round, called, put_client, submit_next, submit_unless, submit_kind, submit_write, submit_read, need_now, need_unless, is_held, meet, client_by, job_call, quieted, quiet_if, turn, turned_unless, turn_call, call_unless}
use Rattle.stage_machine.proofs.Alike.{Alike}

module _ (T : Setting) (h : Laid → ℕ → Shape) (disks : Disks) (is_started : ℕ → Bool) (pass_from : ℕ → Option ℕ) (is_spare : ℕ → Bool) (content : ℕ → ℕ → Sector) (unsure : ℕ → ℕ → Bool) (asks : List Ask)
    (sectors : (d : ℕ) → disks.sectors d ≡ T.start.disks.sectors d)
    (pba : (h T.start.newest 0).pba ≡ (the_shape T).pba)
    (places : (s : ℕ) → placement_of (h T.start.newest 0) s ≡ placement_of (the_shape T) s) where
  -- the other setting
  abbrev pub S : Setting
  S = record {
    start = record {
      words = record T.start.words { shape = h };
      disks = disks;
      newest = T.start.newest;
      is_started = is_started;
      pass_from = pass_from;
      is_spare = is_spare;
      counts_out = [];
      content = content;
      unsure = unsure;
    };
    asked = record { ops = T.asked.ops; asks = asks };
    targets = T.targets;
    members = T.members;
    renew = T.renew;
  }

  -- PLACES AND LOCKS

  place_same : (i : ℕ) → placement_at S i ≡ placement_at T i
  place_same i = places (sector_in (kind_at T.asked.ops i))

  row_same : (i : ℕ) → row_at S i ≡ row_at T i
  row_same i = ap row_in (place_same i)

  sector_same : (i : ℕ) → (the_shape S).pba + row_at S i ≡ (the_shape T).pba + row_at T i
  sector_same i = ap (λ x. x + row_at S i) pba ∙ ap (λ x. (the_shape T).pba + x) (row_same i)

  holds_same : (row : ℕ) (job : Job) → holds S row job ≡ holds T row job
  holds_same row NoJob = refl
  holds_same row (Busy i Waiting) = refl
  holds_same row (Busy i (Writing left)) = ap (λ x. x == row) (row_same i)
  holds_same row (Busy i (Syncing left)) = ap (λ x. x == row) (row_same i)
  holds_same row (Busy i Written) = ap (λ x. x == row) (row_same i)
  holds_same row (Busy i (Got value)) = ap (λ x. x == row) (row_same i)

  locked_same : (row k j : ℕ) (cs : List Client) → locked_from S row k j cs ≡ locked_from T row k j cs
  locked_same row k j [] = refl
  locked_same row k j (c ∷ cs) =
      ap (λ (b : Bool). (not (j == k) && b) || locked_from S row k (j + 1) cs) (holds_same row c.job)
      ∙ ap (λ (b : Bool). (not (j == k) && holds T row c.job) || b) (locked_same row k (j + 1) cs)

  writing_same : (cs : List Client) → any_writing S cs ≡ any_writing T cs
  writing_same [] = refl
  writing_same (c ∷ cs) = ap (λ (b : Bool). b || any_writing S cs) (job c.job) ∙ ap (λ (b : Bool). is_writing T c.job || b) (writing_same cs)
    where
      job : (x : Job) → is_writing S x ≡ is_writing T x
      job NoJob = refl
      job (Busy i step) = refl

  held_same : (c : Control) (k i : ℕ) → is_held S c k i ≡ is_held T c k i
  held_same c k i =
      ap (λ (b : Bool). (is_write T i && is_pending_state c.state) || b)
      (ap (λ x. locked_from S x k 0 c.clients) (row_same i) ∙ locked_same (row_at T i) k 0 c.clients)

  -- WHAT A JOB NEEDS

  after_write_same : (left : List ℕ) → after_write S left ≡ after_write T left
  after_write_same [] = refl
  after_write_same (d ∷ ds) = refl

  first_same : (kind : Option OpKind) → first_need S kind ≡ first_need T kind
  first_same None = refl
  first_same (Some (OpWrite v s value)) = refl
  first_same (Some (OpRead v s)) = refl
  first_same (Some (OpWhole v)) = refl

  need_same : (i : ℕ) (step : JobStep) → need_of S i step ≡ need_of T i step
  need_same i Waiting = first_same (kind_at T.asked.ops i)
  need_same i (Writing left) = refl
  need_same i (Syncing left) = refl
  need_same i Written = refl
  need_same i (Got value) = refl

  unless_same : (i : ℕ) (step : JobStep) (held : Bool) → need_unless S i step held ≡ need_unless T i step held
  unless_same i step true = refl
  unless_same i step false = need_same i step

  now_same : (c : Control) (k i : ℕ) (step : JobStep) → need_now S c k i step ≡ need_now T c k i step
  now_same c k i step = unless_same i step (is_held S c k i) ∙ ap (need_unless T i step) (held_same c k i)

  -- CLIENTS

  kind_same : (c : Control) (k i : ℕ) (rest : List ℕ) (kind : Option OpKind) → submit_kind S c k i rest kind ≡ submit_kind T c k i rest kind
  kind_same c k i rest None = refl
  kind_same c k i rest (Some (OpWrite v s value)) = ap (submit_write c k i rest) (place_same i)
  kind_same c k i rest (Some (OpRead v s)) = ap (submit_read c k i rest) (place_same i)
  kind_same c k i rest (Some (OpWhole v)) = refl

  submit_same : (c : Control) (k i : ℕ) (rest : List ℕ) (readonly : Bool) → submit_unless S c k i rest readonly ≡ submit_unless T c k i rest readonly
  submit_same c k i rest true = refl
  submit_same c k i rest false = kind_same c k i rest (kind_at T.asked.ops i)

  next_same : (c : Control) (k : ℕ) (left : List ℕ) → submit_next S c k left ≡ submit_next T c k left
  next_same c k [] = refl
  next_same c k (i ∷ rest) = submit_same c k i rest (is_readonly c.state)

  meet_same : (c : Control) (k : ℕ) (x : Ended) (got : Sector) (left : List ℕ) (i : ℕ) (need : Need) → meet S c k x got left i need ≡ meet T c k x got left i need
  meet_same c k x got left i NoNeed = refl
  meet_same c k x got left i (Reads d) = refl
  meet_same c k x got left i (Writes d ds) =
      ap (λ (step : JobStep). called x.went d (record { next = put_client c k left (Busy i step); events = [] }) c) (after_write_same ds)
  meet_same c k x got left i (Syncs d ds) = refl
  meet_same c k x got left i (Answers answer) = refl

  client_same : (c : Control) (k : ℕ) (x : Ended) (got : Sector) (left : List ℕ) (job : Job) → client_by S c k x got left job ≡ client_by T c k x got left job
  client_same c k x got left NoJob = next_same c k left
  client_same c k x got left (Busy i step) = meet_same c k x got left i (need_now S c k i step) ∙ ap (meet T c k x got left i) (now_same c k i step)

  need_call_same : (x : Ended) (i : ℕ) (need : Need) → need_call S x i need ≡ need_call T x i need
  need_call_same x i NoNeed = refl
  need_call_same x i (Reads d) = ap (λ place. Some (record { disk = d; what = Read place; went = x.went })) (sector_same i)
  need_call_same x i (Writes d ds) = ap (λ place. Some (record { disk = d; what = Write place (value_at T i ∷ []) (stored_of x 1); went = x.went })) (sector_same i)
  need_call_same x i (Syncs d ds) = refl
  need_call_same x i (Answers answer) = refl

  job_call_same : (c : Control) (k : ℕ) (x : Ended) (job : Job) → job_call S c k x job ≡ job_call T c k x job
  job_call_same c k x NoJob = refl
  job_call_same c k x (Busy i step) = need_call_same x i (need_now S c k i step) ∙ ap (need_call T x i) (now_same c k i step)

  -- THE MONITOR

  moved_same : (c : Control) (move : Move) → moved S c move ≡ moved T c move
  moved_same c Nothing = refl
  moved_same c Starts = refl
  moved_same c (Makes to event) = refl

  to_next_same : (r : Round) (m : Laid) (left : List ℕ) → to_next S r m left ≡ to_next T r m left
  to_next_same r m [] = refl
  to_next_same r m (d ∷ ds) = refl

  step_same : (r : Round) (m : Laid) (step : Step) (d : ℕ) (ds : List ℕ) → step_on S r m step d ds ≡ step_on T r m step d ds
  step_same r m AtAnchor d ds = refl
  step_same r m AtSync d ds = to_next_same r m ds

  monitor_same : (c : Control) (x : Ended) (phase : Phase) → monitor_at S c x phase ≡ monitor_at T c x phase
  monitor_same c x Rest = moved_same c (decide c.round.started c.state (T.start.words.is_dirty c.round.last 0) (T.start.words.is_dirty c.round.book 0))
  monitor_same c x (Going m step []) = refl
  monitor_same c x (Going m step (d ∷ ds)) = ap (λ r. called x.went d (put_round c r) c) (step_same c.round m step d ds)

  what_same : (x : Ended) (m : Laid) (step : Step) (d : ℕ) → what_of S x m step d ≡ what_of T x m step d
  what_same x m AtAnchor d = ap (λ n. Write (anchor_place n) (m.anchor ∷ []) (stored_of x 1)) (sectors d)
  what_same x m AtSync d = refl

  round_call_same : (x : Ended) (phase : Phase) → round_call S x phase ≡ round_call T x phase
  round_call_same x Rest = refl
  round_call_same x (Going m step []) = refl
  round_call_same x (Going m step (d ∷ ds)) = ap (λ what. Some (record { disk = d; what = what; went = x.went })) (what_same x m step d)

  -- TURNS

  quiet_same : (c : Control) (state : State) → quieted S c state ≡ quieted T c state
  quiet_same c IsReadonly = refl
  quiet_same c IsReadAuto = refl
  quiet_same c IsClean = refl
  quiet_same c IsPending = refl
  quiet_same c IsActive = ap (λ (b : Bool). quiet_if c (not b)) (writing_same c.clients)
  quiet_same c IsIdle = refl

  turn_same : (c : Control) (a : Action) → turn S c a ≡ turn T c a
  turn_same c (Monitors x) = monitor_same c x c.round.phase
  turn_same c (Asks k x got) = client_same c k x got (client_at c.clients k).left (client_at c.clients k).job
  turn_same c Quiets = quiet_same c c.state

  turned_same : (c : Control) (a : Action) (failed : Option ℕ) → turned_unless S c a failed ≡ turned_unless T c a failed
  turned_same c a None = turn_same c a
  turned_same c a (Some d) = refl

  turn_call_same : (c : Control) (a : Action) → turn_call S c a ≡ turn_call T c a
  turn_call_same c (Monitors x) = round_call_same x c.round.phase
  turn_call_same c (Asks k x got) = job_call_same c k x (client_at c.clients k).job
  turn_call_same c Quiets = refl

  call_same : (c : Control) (a : Action) (failed : Option ℕ) → call_unless S c a failed ≡ call_unless T c a failed
  call_same c a None = turn_call_same c a
  call_same c a (Some d) = refl

  pub alike : Alike S T
  alike = record {
    begins = refl;
    turns = λ c a. turned_same c a c.failed;
    calls = λ c a. call_same c a c.failed;
  }
