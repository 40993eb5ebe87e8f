-- The machine: what each turn calls, what it leaves, and what it enters. It has no device: the answer of a call comes
-- with the action. A failed call ends the run. Source: this project's own.
use Rattle.std.specs.Prelude.{◌≡◌, ℕ, ◌+◌, ◌||◌, ◌&&◌, not, Bool, true, false, List, [], ◌∷◌, ◌++◌, slice_set, map, Option, Some, None, ⊤}
use Rattle.std.specs.List.{range_with_len}
use Rattle.units.specs.declared.disk.Sector.{Sector}
use Rattle.device_log.specs.Log.{Call, Read}
use Rattle.array_model.specs.declared.script.OpKind.{OpKind}
use Rattle.array_model.specs.declared.script.OpKind.TheVariants.{Write as OpWrite, Read as OpRead, Whole as OpWhole}
use Rattle.array_model.specs.declared.journal.Entry.{Entry}
use Rattle.array_model.specs.declared.journal.Event.{Event}
use Rattle.array_model.specs.declared.journal.Event.TheVariants.{Submit, Ack, Idle}
use Rattle.array_model.specs.declared.journal.Answer.TheVariants.{Past}
use Rattle.array_model.specs.Script.{kind_at, sector_of}
use Rattle.array_model.specs.Placement.{Placement}
use Rattle.array_model.specs.Candidates.{disk_after}
use Rattle.stage_machine.specs.Setting.{Setting}
use Rattle.stage_machine.specs.Rounds.{Round, Rounded, Phase, Rest, Going, Ended, round_call, step_on, begin}
use Rattle.stage_machine.specs.States.{State, IsReadonly, IsReadAuto, IsClean, IsPending, IsActive, IsIdle, is_readonly, is_pending_state, the_volume, asked_state, asked_events, next_dirty, Move, Nothing, Starts, Makes, decide}
use Rattle.stage_machine.specs.Jobs.{JobStep, Waiting, Got, Job, NoJob, Busy, Client, client_at, ops_of, placement_at, row_at, is_write, is_locked, any_writing, Need, NoNeed, Reads, Writes, Syncs, Answers, need_of, after_write, after_sync, need_call}

-- the round, the state of the volume, the clients, and the disk whose call failed
pub record Control : Type 0 where
  pub round : Round
  pub state : State
  pub clients : List Client
  pub failed : Option ℕ

-- what a turn leaves and enters
pub record Out : Type 0 where
  pub next : Control
  pub events : List Event

abbrev pub idle : Control → Out
idle c = record { next = c; events = [] }

-- a disk is dropped; today that ends the run
abbrev pub dropped : ℕ → Control → Out
dropped d c = record { next = record c { failed = Some d }; events = [] }

abbrev pub called : Bool → ℕ → Out → Control → Out
called true d out c = out
called false d out c = dropped d c

-- THE MONITOR

abbrev pub put_round : Control → Rounded → Out
put_round c r = record { next = record c { round = r.round }; events = r.events }

abbrev pub moved : Setting → Control → Move → Out
moved S c Nothing = idle c
moved S c Starts = put_round c (begin S c.round (next_dirty c.state))
moved S c (Makes to event) = record { next = record c { state = to }; events = event ∷ [] }

abbrev pub monitor_at : Setting → Control → Ended → Phase → Out
monitor_at S c x Rest =
    moved S c (decide c.round.started c.state
    (S.start.words.is_dirty c.round.last 0) (S.start.words.is_dirty c.round.book 0))
monitor_at S c x (Going m step []) = idle c
monitor_at S c x (Going m step (d ∷ ds)) = called x.went d (put_round c (step_on S c.round m step d ds)) c

-- THE CLIENTS

abbrev pub put_client : Control → ℕ → List ℕ → Job → Control
put_client c k left job = record c { clients = slice_set c.clients k (record { left = left; job = job }) }

abbrev pub past : Control → ℕ → ℕ → List ℕ → Out
past c k i rest = record { next = put_client c k rest NoJob; events = Submit i ∷ Ack i Past ∷ [] }

abbrev pub submit_write : Control → ℕ → ℕ → List ℕ → Option Placement → Out
submit_write c k i rest None = past c k i rest
submit_write c k i rest (Some place) = record {
  next = record (put_client c k rest (Busy i Waiting)) { state = asked_state c.state };
  events = Submit i ∷ asked_events c.state;
}

abbrev pub submit_read : Control → ℕ → ℕ → List ℕ → Option Placement → Out
submit_read c k i rest None = past c k i rest
submit_read c k i rest (Some place) = record { next = put_client c k rest (Busy i Waiting); events = Submit i ∷ [] }

abbrev pub submit_kind : Setting → Control → ℕ → ℕ → List ℕ → Option OpKind → Out
submit_kind S c k i rest None = idle c
submit_kind S c k i rest (Some (OpWrite v s value)) = submit_write c k i rest (placement_at S i)
submit_kind S c k i rest (Some (OpRead v s)) = submit_read c k i rest (placement_at S i)
submit_kind S c k i rest (Some (OpWhole v)) = idle c

abbrev pub submit_unless : Setting → Control → ℕ → ℕ → List ℕ → Bool → Out
submit_unless S c k i rest true = idle c
submit_unless S c k i rest false = submit_kind S c k i rest (kind_at S.asked.ops i)

abbrev pub submit_next : Setting → Control → ℕ → List ℕ → Out
submit_next S c k [] = idle c
submit_next S c k (i ∷ rest) = submit_unless S c k i rest (is_readonly c.state)

-- a write waits while the volume is write-pending, and any job while another holds its row
abbrev pub is_held : Setting → Control → ℕ → ℕ → Bool
is_held S c k i = (is_write S i && is_pending_state c.state) || is_locked S (row_at S i) k c.clients

abbrev pub meet : Setting → Control → ℕ → Ended → Sector → List ℕ → ℕ → Need → Out
meet S c k x got left i NoNeed = idle c
meet S c k x got left i (Reads d) =
    called x.went d (record { next = put_client c k left (Busy i (Got got)); events = [] }) c
meet S c k x got left i (Writes d ds) =
    called x.went d (record { next = put_client c k left (Busy i (after_write S ds)); events = [] }) c
meet S c k x got left i (Syncs d ds) =
    called x.went d (record { next = put_client c k left (Busy i (after_sync ds)); events = [] }) c
meet S c k x got left i (Answers answer) = record { next = put_client c k left NoJob; events = Ack i answer ∷ [] }

abbrev pub need_unless : Setting → ℕ → JobStep → Bool → Need
need_unless S i step true = NoNeed
need_unless S i step false = need_of S i step

-- what the job of client k needs now
abbrev pub need_now : Setting → Control → ℕ → ℕ → JobStep → Need
need_now S c k i step = need_unless S i step (is_held S c k i)

abbrev pub client_by : Setting → Control → ℕ → Ended → Sector → List ℕ → Job → Out
client_by S c k x got left NoJob = submit_next S c k left
client_by S c k x got left (Busy i step) = meet S c k x got left i (need_now S c k i step)

abbrev pub job_call : Setting → Control → ℕ → Ended → Job → Option Call
job_call S c k x NoJob = None
job_call S c k x (Busy i step) = need_call S x i (need_now S c k i step)

-- QUIET

abbrev pub quiet_if : Control → Bool → Out
quiet_if c true = record { next = record c { state = IsIdle }; events = Idle the_volume ∷ [] }
quiet_if c false = idle c

abbrev pub quieted : Setting → Control → State → Out
quieted S c IsReadonly = idle c
quieted S c IsReadAuto = idle c
quieted S c IsClean = idle c
quieted S c IsPending = idle c
quieted S c IsActive = quiet_if c (not (any_writing S c.clients))
quieted S c IsIdle = idle c

-- TURNS

-- who takes a turn, and how the call ends that it makes: with the sector that a read gives
pub data Action : Type 0 where
  Monitors : (x : Ended) → Action
  Asks : (client : ℕ) → (x : Ended) → (got : Sector) → Action
  Quiets : Action

abbrev pub turn : Setting → Control → Action → Out
turn S c (Monitors x) = monitor_at S c x c.round.phase
turn S c (Asks k x got) = client_by S c k x got (client_at c.clients k).left (client_at c.clients k).job
turn S c Quiets = quieted S c c.state

abbrev pub turned_unless : Setting → Control → Action → Option ℕ → Out
turned_unless S c a None = turn S c a
turned_unless S c a (Some d) = idle c

-- a run that a failed call has ended goes on in nothing
abbrev pub turned : Setting → Control → Action → Out
turned S c a = turned_unless S c a c.failed

abbrev pub turn_call : Setting → Control → Action → Option Call
turn_call S c (Monitors x) = round_call S x c.round.phase
turn_call S c (Asks k x got) = job_call S c k x (client_at c.clients k).job
turn_call S c Quiets = None

abbrev pub call_unless : Setting → Control → Action → Option ℕ → Option Call
call_unless S c a None = turn_call S c a
call_unless S c a (Some d) = None

abbrev pub call_of : Setting → Control → Action → Option Call
call_of S c a = call_unless S c a c.failed

-- RUNS

pub record World : Type 0 where
  pub control : Control
  pub calls : ℕ
  pub log : List Call
  pub journal : List Entry

abbrev pub stamped : ℕ → List Event → List Entry
stamped n [] = []
stamped n (e ∷ es) = record { stamp = n; event = e } ∷ stamped n es

abbrev pub calls_after : ℕ → Option Call → ℕ
calls_after n None = n
calls_after n (Some call) = n + 1

abbrev pub log_after : List Call → Option Call → List Call
log_after log None = log
log_after log (Some call) = log ++ call ∷ []

abbrev pub after : World → Out → Option Call → World
after w out call = record {
  control = out.next;
  calls = calls_after w.calls call;
  log = log_after w.log call;
  journal = w.journal ++ stamped (calls_after w.calls call) out.events;
}

-- one turn
abbrev pub happens : Setting → World → Action → World
happens S w a = after w (turned S w.control a) (call_of S w.control a)

abbrev pub clients_of : Setting → List Client
clients_of S = map (λ k. record { left = ops_of S.asked.ops k; job = NoJob }) (range_with_len 0 16)

abbrev pub begins_at : Setting → World
begins_at S = record {
  control = record {
    round = record {
      book = S.start.newest;
      last = S.start.newest;
      note = S.start.words.generation S.start.newest.anchor;
      started = false;
      working = S.targets;
      phase = Rest;
    };
    state = IsReadonly;
    clients = clients_of S;
    failed = None;
  };
  calls = 0;
  log = [];
  journal = [];
}

-- the worlds that a run may come to
pub data Reached (S : Setting) : World → Type 0 where
  opens : Reached S (begins_at S)
  goes : {w : World} → Reached S w → (a : Action) → Reached S (happens S w a)

-- a read that goes through gives what stands there
abbrev pub GaveOf : Setting → List Call → Sector → Option Call → Type 0
GaveOf S log got None = ⊤
GaveOf S log got (Some call) =
    (place : ℕ) → call.what ≡ Read place → call.went ≡ true
    → got ≡ ((disk_after S.start.words S.start.disks log call.disk).cells place).stood

abbrev pub got_of : Action → Sector
got_of (Monitors x) = sector_of 0
got_of (Asks k x got) = got
got_of Quiets = sector_of 0

abbrev pub TrueTurn : Setting → World → Action → Type 0
TrueTurn S w a = GaveOf S w.log (got_of a) (call_of S w.control a)

-- the same where each read gave what stood there
pub data Honest (S : Setting) : World → Type 0 where
  opens_true : Honest S (begins_at S)
  goes_true : {w : World} → Honest S w → (a : Action) → TrueTurn S w a → Honest S (happens S w a)

abbrev pub run : Setting → World → List Action → World
run S w [] = w
run S w (a ∷ more) = run S (happens S w a) more
