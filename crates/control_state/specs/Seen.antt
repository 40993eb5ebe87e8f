-- The control state as the machine has it, seen in the code's types. Source: this project's own.
use Rattle.std.specs.Prelude.{ℕ, ◌-◌, ◌==◌, ◌&&◌, not, Bool, true, false, List, [], ◌∷◌, length, map, drop, filter, slice_get, Option, Some, None}
use Rattle.std.specs.Option.{option_map_or}
use Rattle.std.specs.List.{range_with_len}
use Rattle.units.specs.declared.disk.Sector.{Sector}
use Rattle.units.specs.declared.disk.DiskNo.{DiskNo}
use Rattle.units.specs.declared.volume.Level.TheVariants.{One}
use Rattle.array_model.specs.declared.script.Op.{Op}
use Rattle.array_model.specs.declared.journal.Event.{Event}
use Rattle.array_model.specs.declared.journal.Event.TheVariants.{Pending as Pended}
use Rattle.array_model.specs.declared.journal.Answer.TheVariants.{Done as IsDone, Value as IsValue}
use Rattle.array_model.specs.Script.{is_of_client}
use Rattle.array_model.specs.Placement.{Shape}
use Rattle.block_meaning.specs.Reading.{block_words}
use Rattle.block_meaning.specs.Renewed.{renewed}
use Rattle.stage_machine.specs.Setting.{Setting}
use Rattle.stage_machine.specs.States as machine
use Rattle.stage_machine.specs.Jobs as jobs
use Rattle.control_state.specs.declared.plan.Plan.{Plan}
use Rattle.control_state.specs.declared.state.State.{State}
use Rattle.control_state.specs.declared.state.State.TheVariants.{Readonly, ReadAuto, Clean, Pending, Active, Idle}
use Rattle.control_state.specs.declared.state.Move.{Move}
use Rattle.control_state.specs.declared.state.Move.TheVariants.{Nothing, Starts, Makes}
use Rattle.control_state.specs.declared.job.JobStep.{JobStep}
use Rattle.control_state.specs.declared.job.JobStep.TheVariants.{Waiting, Writing, Syncing, Written, Got}
use Rattle.control_state.specs.declared.job.Work.{Work}
use Rattle.control_state.specs.declared.job.Need.{Need}
use Rattle.control_state.specs.declared.job.Need.TheVariants.{Nothing as NoNeed, Read, Write, Sync, Done, Value}
use Rattle.control_state.specs.declared.client.Client.{Client}
use Rattle.control_state.specs.Events.{event_of}

-- THE PLAN

abbrev pub numbers : List DiskNo → List ℕ
numbers disks = map (λ (d : DiskNo). d.0) disks

abbrev pub shape_of : Plan → Shape
shape_of p = record { level = Some One; members = 2; size = p.size; strip = 0; pba = p.pba; rows = p.size }

abbrev pub no_sector : Sector
no_sector = record { 0 = [] }

-- What the turns need of what the machine takes as given: the words of a block's bytes, of which rows ask how the
-- volume lies alone; the edit of a round; the operations; and the disks.
abbrev pub plan_setting : Plan → Setting
plan_setting p = record {
  start = record {
    words = record block_words { shape = λ m v. shape_of p };
    disks = record { count = 0; serial = λ d. []; sectors = λ d. 0; opening = λ d q. no_sector };
    newest = record { anchor = no_sector; extended = [] };
    is_started = λ v. false;
    pass_from = λ v. None;
    is_spare = λ d. false;
    counts_out = [];
    content = λ v s. no_sector;
    unsure = λ v s. false;
  };
  asked = record { ops = p.ops.items; asks = [] };
  targets = numbers p.targets.items;
  members = numbers p.members.items;
  renew = renewed;
}

-- THE STATE OF THE VOLUME

abbrev pub state_of : State → machine.State
state_of Readonly = machine.IsReadonly
state_of ReadAuto = machine.IsReadAuto
state_of Clean = machine.IsClean
state_of Pending = machine.IsPending
state_of Active = machine.IsActive
state_of Idle = machine.IsIdle

abbrev pub move_of : Move → machine.Move
move_of Nothing = machine.Nothing
move_of Starts = machine.Starts
move_of (Makes to event) = machine.Makes (state_of to) (event_of event)

abbrev pub pending_if : Bool → List Event
pending_if true = Pended machine.the_volume ∷ []
pending_if false = []

-- JOBS

-- the step of a job, its job and its need, where this sector stands with its client

abbrev pub step_of : List ℕ → Sector → JobStep → jobs.JobStep
step_of members read Waiting = jobs.Waiting
step_of members read (Writing at) = jobs.Writing (drop at members)
step_of members read (Syncing at) = jobs.Syncing (drop at members)
step_of members read Written = jobs.Written
step_of members read Got = jobs.Got read

abbrev pub job_of : List ℕ → Sector → Option Work → jobs.Job
job_of members read None = jobs.NoJob
job_of members read (Some work) = jobs.Busy work.op (step_of members read work.step)

abbrev pub need_of : List ℕ → Sector → Need → jobs.Need
need_of members read NoNeed = jobs.NoNeed
need_of members read (Read d) = jobs.Reads d.0
need_of members read (Write d rest) = jobs.Writes d.0 (drop rest members)
need_of members read (Sync d rest) = jobs.Syncs d.0 (drop rest members)
need_of members read Done = jobs.Answers IsDone
need_of members read Value = jobs.Answers (IsValue read)

-- CLIENTS

-- the operations of a client from a place on
abbrev pub left_from : List Op → ℕ → ℕ → List ℕ
left_from ops k next = filter (is_of_client ops k) (range_with_len next (length ops - next))

-- the number of the client at a place, if it is there
abbrev pub number_of : List Client → ℕ → ℕ
number_of clients k = option_map_or (λ (c : Client). c.number) (slice_get clients k) 0

abbrev pub client_of : Plan → Client → jobs.Client
client_of p c = record {
  left = left_from p.ops.items c.number c.next;
  job = job_of (numbers p.members.items) c.read c.work;
}

abbrev pub clients_of : Plan → List Client → List jobs.Client
clients_of p clients = map (λ (c : Client). client_of p c) clients

-- a client at a place other than one holds a row
abbrev pub locks : Plan → ℕ → ℕ → ℕ → Client → Bool
locks p row but at c = not (at == but) && jobs.holds (plan_setting p) row (client_of p c).job
