-- A client's turn: it submits its next operation, or makes the next call of its job, or has it answered. Source:
-- write-pending and active-idle of the kernel's md.rst for what a write asks of its volume; the rest is this project's
-- own.
use Rattle.std.specs.Prelude.{ℕ, ◌||◌, ◌&&◌, not, Bool, true, false, List, [], ◌∷◌, ◌++◌, Option, Some, None}
use Rattle.std.specs.List.{list_any, list_all}
use Rattle.std.specs.Option.{option_map_or, is_none}
use Rattle.device_log.specs.Log.{What, Read, Write, Sync}
use Rattle.array_model.specs.declared.script.OpKind.{OpKind}
use Rattle.array_model.specs.declared.script.OpKind.TheVariants.{Write as OpWrite, Read as OpRead, Whole as OpWhole}
use Rattle.array_model.specs.declared.journal.Answer.TheVariants.{Done, Past, Failed, NoSpare}
use Rattle.array_model.specs.Script.{kind_at}
use Rattle.array_model.specs.Placement.{Placement}
use Rattle.array_model.specs.Blocks.{SlotWords}
use Rattle.array_machine.specs.Numbers.{has}
use Rattle.array_machine.specs.Setting.{Setting}
use Rattle.array_machine.specs.States.{State, IsReadonly, IsReadAuto, IsClean, IsPending, IsActive, IsIdle, is_readonly, is_pending, ToPending, ToActiveAgain}
use Rattle.array_machine.specs.Volumes.{Slot, disk_in, Member, Volume, volume_at, source_in}
use Rattle.array_machine.specs.Operations.{volume_of, shape_of, place_at, the_place, place_on, value_at, is_write}
use Rattle.array_machine.specs.Clients.{Row, no_row, Job, NoJob, Submitted, Busy, with_job}
use Rattle.array_machine.specs.Rounds.{Ended, stored_of, Phase, Rest, Going, lives}
use Rattle.array_machine.specs.Managers.{AskState, IsSettled, Update}
use Rattle.array_machine.specs.Control.{Control}
use Rattle.array_machine.specs.Changes.{IsSilent, Submits, Acknowledges, Change, DiskFails, StateGoes, ClientMoves}
use Rattle.array_machine.specs.Puts.{put}
use Rattle.array_machine.specs.Turns.{Turn, idle, quietly, may_call, call_if, calling}
use Rattle.array_machine.specs.RoundEnds.{and_ended}
use Rattle.array_machine.specs.MonitorTurns.{Deed, Nothing, deed_of}
use Rattle.array_machine.specs.ManagerTurns.{activation}
use Rattle.array_machine.specs.RowJobs.{planned, sector_to, Need, NoNeed, Reads, Writes, Syncs, Answers, need_by, tried, went_on, lost_row, members_for}
use Rattle.array_machine.specs.Locks.{is_locked}

-- SUBMITS

-- a write is asked of volume v: what rests waits for the monitor, what is idle is active again
abbrev pub asks_state : ℕ → State → List Change
asks_state v IsReadonly = []
asks_state v IsReadAuto = StateGoes v ToPending ∷ []
asks_state v IsClean = StateGoes v ToPending ∷ []
asks_state v IsPending = []
asks_state v IsActive = []
asks_state v IsIdle = StateGoes v ToActiveAgain ∷ []

-- a broken volume isn't asked
abbrev pub asks_unless : (broken : Bool) → ℕ → State → List Change
asks_unless true v state = []
asks_unless false v state = asks_state v state

-- the job of operation i begins
abbrev pub begins_job : ℕ → ℕ → List ℕ → Change
begins_job k i rest = ClientMoves k (with_job rest (Busy i no_row)) IsSilent

-- Client k submits a write or a read on volume x, number v: one past the volume's end is answered at once, and a write
-- asks for its volume before its job begins.
abbrev pub submit_at : ℕ → ℕ → List ℕ → ℕ → Volume → (writes : Bool) → Option Placement → List Change
submit_at k i rest v x writes None =
    ClientMoves k (with_job rest (Submitted i)) (Submits i)
    ∷ ClientMoves k (with_job rest NoJob) (Acknowledges i Past) ∷ []
submit_at k i rest v x false (Some place) = ClientMoves k (with_job rest (Busy i no_row)) (Submits i) ∷ []
submit_at k i rest v x true (Some place) =
    ClientMoves k (with_job rest (Submitted i)) (Submits i)
    ∷ (asks_unless x.broken v x.state ++ begins_job k i rest ∷ [])

abbrev pub submit_kind : Setting → Control → ℕ → ℕ → List ℕ → Option OpKind → List Change
submit_kind S c k i rest None = []
submit_kind S c k i rest (Some (OpWrite v s value)) =
    submit_at k i rest (volume_of S i) (volume_at c.volumes (volume_of S i)) true (place_at S i)
submit_kind S c k i rest (Some (OpRead v s)) =
    submit_at k i rest (volume_of S i) (volume_at c.volumes (volume_of S i)) false (place_at S i)
submit_kind S c k i rest (Some (OpWhole v)) = ClientMoves k (with_job rest (Busy i no_row)) (Submits i) ∷ []

-- a volume that isn't ready yet takes no operation
abbrev pub is_shut : Volume → Bool
is_shut x = is_readonly x.state && not x.broken

abbrev pub submit_unless : Setting → Control → ℕ → ℕ → List ℕ → (shut : Bool) → List Change
submit_unless S c k i rest true = []
submit_unless S c k i rest false = submit_kind S c k i rest (kind_at S.asked.ops i)

-- the first operation that client k hasn't submitted, if there is one
abbrev pub submit_next : Setting → Control → ℕ → List ℕ → List Change
submit_next S c k [] = []
submit_next S c k (i ∷ rest) = submit_unless S c k i rest (is_shut (volume_at c.volumes (volume_of S i)))

-- ROW JOBS

-- the volume of operation i, and its members as its job sees them
abbrev pub the_volume : Setting → Control → ℕ → Volume
the_volume S c i = volume_at c.volumes (volume_of S i)

abbrev pub members_now : Setting → Control → ℕ → Row → List Member
members_now S c i r = members_for r c.round.faults c.round.blocked (the_volume S c i).slots

-- the slots that its job would read by a plan made now
abbrev pub the_plan : Setting → Control → ℕ → Row → List ℕ
the_plan S c i r = planned (shape_of S (volume_of S i)) (the_place S i) (is_write S i) (members_now S c i r)

-- its job as it stands once its next call is made
abbrev pub row_tried : Setting → Control → ℕ → Row → Row
row_tried S c i r = tried (the_volume S c i).slots (the_plan S c i r) r

-- a write waits while its volume is write-pending, and any job while another holds its row
abbrev pub is_held : Setting → Control → ℕ → ℕ → Bool
is_held S c k i =
    (is_write S i && is_pending (the_volume S c i).state) || is_locked S c (volume_of S i) (the_place S i).row k

-- what a job needs that isn't held
abbrev pub need_unless : Setting → Control → ℕ → Row → (held : Bool) → Need
need_unless S c i r true = NoNeed
need_unless S c i r false =
    need_by S (shape_of S (volume_of S i)) (the_place S i) (is_write S i) (members_now S c i r) r

-- the call that a need asks for, which so ends; where it asks for none, a sync stands for it
abbrev pub need_what : Setting → ℕ → Row → Ended → Need → What
need_what S i r x NoNeed = Sync
need_what S i r x (Reads s) = Read (place_on S i)
need_what S i r x (Writes s) =
    Write (place_on S i)
    (sector_to S (shape_of S (volume_of S i)).level (the_place S i) (value_at S i) r.got s ∷ []) (stored_of x 1)
need_what S i r x (Syncs s) = Sync
need_what S i r x (Answers answer) = Sync

-- the call went through and the job goes on, or its disk fails and the job loses a member
abbrev pub job_changes : Setting → Control → ℕ → List ℕ → ℕ → Row → Ended → Need → (d : ℕ) → (went : Bool)
    → List Change
job_changes S c k left i r x need d true = ClientMoves k (with_job left (Busy i (went_on need x.got r))) IsSilent ∷ []
job_changes S c k left i r x need d false =
    DiskFails d
    ∷ and_ended S (put S (DiskFails d) c) (ClientMoves k (with_job left (Busy i (lost_row r.plan r))) IsSilent)

-- a job's call on the disk of a slot, if it has one that may be called
abbrev pub on_disk : Setting → Control → ℕ → List ℕ → ℕ → Row → Ended → Need → Option ℕ → Turn
on_disk S c k left i r x need None = idle
on_disk S c k left i r x need (Some d) =
    call_if (may_call S c.round d) (calling d (need_what S i r x need) x (job_changes S c k left i r x need d x.went))

-- the turn of a need: only what is in sync is read
abbrev pub meet : Setting → Control → ℕ → List ℕ → ℕ → Row → Ended → Need → Turn
meet S c k left i r x NoNeed = idle
meet S c k left i r x (Reads s) =
    on_disk S c k left i (row_tried S c i r) x (Reads s) (source_in (the_volume S c i) s)
meet S c k left i r x (Writes s) =
    on_disk S c k left i (row_tried S c i r) x (Writes s) (disk_in (the_volume S c i).slots s)
meet S c k left i r x (Syncs s) =
    on_disk S c k left i (row_tried S c i r) x (Syncs s) (disk_in (the_volume S c i).slots s)
meet S c k left i r x (Answers answer) = quietly (ClientMoves k (with_job left NoJob) (Acknowledges i answer) ∷ [])

-- WHOLE

-- the disk of a slot has a fault
abbrev pub any_fault_in : List ℕ → List Slot → Bool
any_fault_in faults slots = list_any (λ s. option_map_or (λ d. has d faults) s.disk false) slots

-- in the last finished round each slot is in sync and no pass is open, and no slot's disk failed since
abbrev pub is_whole_now : Setting → Control → ℕ → Bool
is_whole_now S c v =
    not c.round.first && list_all (λ s. s.is_in_sync) (S.start.words.slots c.round.last v)
    && is_none (S.start.words.pass c.round.last v) && not (any_fault_in c.round.faults (volume_at c.volumes v).slots)

-- the disk of a slot isn't expected
abbrev pub slots_failed : List SlotWords → Bool
slots_failed slots = list_any (λ s. not s.is_expected) slots

-- every ask has come to its end
abbrev pub is_settled : AskState → Bool
is_settled IsSettled = true
is_settled _ = false

abbrev pub are_settled : List AskState → Bool
are_settled asks = list_all is_settled asks

-- no update is on its way
abbrev pub no_updates : List Update → Bool
no_updates [] = true
no_updates (u ∷ us) = false

-- no round and no spare's write goes on, and nothing is to be done or to begin
abbrev pub is_at_rest : Phase → Bool
is_at_rest Rest = true
is_at_rest (Going aim m step left late done) = false

abbrev pub is_nothing : Deed → Bool
is_nothing Nothing = true
is_nothing _ = false

-- the monitor lives, and has nothing to do; an update in hand is on its way still
abbrev pub is_monitor_idle : Setting → Control → Bool
is_monitor_idle S c = lives c.round.life && is_at_rest c.round.phase && is_nothing (deed_of S c)

-- the manager has nothing to post, and no update is on its way
abbrev pub is_manager_idle : Setting → Control → Bool
is_manager_idle S c = no_updates c.manager.queue && are_settled c.manager.asks && is_none (activation S c)

-- a slot's disk is recorded as failed, no pass is open, and nothing is on its way that could bring another disk
abbrev pub is_without_spare : Setting → Control → ℕ → Bool
is_without_spare S c v =
    c.round.ended && slots_failed (S.start.words.slots c.round.last v)
    && is_none (S.start.words.pass c.round.last v) && is_manager_idle S c && is_monitor_idle S c

-- done where the volume is whole, else without a spare, else it waits
abbrev pub whole_answer : ℕ → List ℕ → ℕ → (whole without_spare : Bool) → Turn
whole_answer k left i true b = quietly (ClientMoves k (with_job left NoJob) (Acknowledges i Done) ∷ [])
whole_answer k left i false true = quietly (ClientMoves k (with_job left NoJob) (Acknowledges i NoSpare) ∷ [])
whole_answer k left i false false = idle

-- THE TURN

abbrev pub busy_kind : Setting → Control → ℕ → List ℕ → ℕ → Row → Ended → Option OpKind → Turn
busy_kind S c k left i r x None = idle
busy_kind S c k left i r x (Some (OpWrite v s value)) =
    meet S c k left i r x (need_unless S c i r (is_held S c k i))
busy_kind S c k left i r x (Some (OpRead v s)) = meet S c k left i r x (need_unless S c i r (is_held S c k i))
busy_kind S c k left i r x (Some (OpWhole v)) =
    whole_answer k left i (is_whole_now S c v.0) (is_without_spare S c v.0)

-- on a broken volume every operation fails
abbrev pub busy_unless : Setting → Control → ℕ → List ℕ → ℕ → Row → Ended → (broken : Bool) → Turn
busy_unless S c k left i r x true = quietly (ClientMoves k (with_job left NoJob) (Acknowledges i Failed) ∷ [])
busy_unless S c k left i r x false = busy_kind S c k left i r x (kind_at S.asked.ops i)

-- client k, with these operations to submit and this job, and how a call that it makes ends; no turn leaves an
-- operation between its submit and its job
abbrev pub client_by : Setting → Control → ℕ → Ended → List ℕ → Job → Turn
client_by S c k x left NoJob = quietly (submit_next S c k left)
client_by S c k x left (Submitted i) = idle
client_by S c k x left (Busy i r) = busy_unless S c k left i r x (the_volume S c i).broken
