-- In each turn the end of a round comes last, but for the passes that it moves.
use Rattle.std.proofs.Common.{ℕ, zero, suc, Bool, true, false, List, [], ◌∷◌, ◌++◌, refl, Option, Some, None, cond}
use Rattle.units.specs.declared.disk.Sector.{Sector}
use Rattle.device_log.specs.Log.{What, Read}
use Rattle.array_model.specs.declared.script.OpKind.{OpKind}
use Rattle.array_model.specs.declared.script.OpKind.TheVariants.{Write as OpWrite, Read as OpRead, Whole as OpWhole}
use Rattle.array_model.specs.Script.{kind_at}
use Rattle.array_model.specs.Placement.{Placement}
use Rattle.array_machine.specs.Setting.{Setting}
use Rattle.array_machine.specs.States.{State, IsReadonly, IsReadAuto, IsClean, IsPending, IsActive, IsIdle}
use Rattle.array_machine.specs.Volumes.{disk_in, members_of, Pass, Volume, volume_at, source_in}
use Rattle.array_machine.specs.Operations.{volume_of, shape_of, place_at}
use Rattle.array_machine.specs.Clients.{Row, Job, NoJob, Submitted, Busy, with_job}
use Rattle.array_machine.specs.RowJobs.{Need, NoNeed, Reads, Writes, Syncs, Answers, lost_row}
use Rattle.array_machine.specs.Rounds.{Ended, Ending, GoesOn, Finishes, MakesSpare, Lapses, Phase, Rest, Going, what_of, Life, Lives, Killed, Takes, Dead}
use Rattle.array_machine.specs.Managers.{Want, Update}
use Rattle.array_machine.specs.Control.{Control}
use Rattle.array_machine.specs.Changes.{Change, StepsOn, DiskFails, ClientMoves, IsSilent, PassMoves, GoesOnQuietly, TakeoverReads}
use Rattle.array_machine.specs.Puts.{put}
use Rattle.array_machine.specs.Turns.{idle, quietly, may_call, call_if, calling}
use Rattle.array_machine.specs.RoundEnds.{ended_by, and_ended, called}
use Rattle.array_machine.specs.Updates.{Verdict, Refuses, EditsBook, WritesSpare, apply_verdict, apply_if, verdict_of}
use Rattle.array_machine.specs.MonitorTurns.{Deed, Nothing, ReadiesVolume, LetsWrites, UnblocksDisk, CleansVolume, BeginsRound, opens_pass, rest_changes, monitor_at}
use Rattle.array_machine.specs.TakeoverTurns.{resume_if, resumes, resumes_now, and_resumed, has_all, found_with, read_place, read_changes, taking}
use Rattle.array_machine.specs.ManagerTurns.{posts, manages_by, managing, living}
use Rattle.array_machine.specs.ClientTurns.{asks_unless, begins_job, submit_at, submit_kind, submit_unless, submit_next, need_what, job_changes, on_disk, meet, row_tried, whole_answer, busy_kind, busy_unless, client_by}
use Rattle.array_machine.specs.SyncTurns.{Work, row_work, settled, pass_need, is_free_row, pass_moves, pass_what, pass_changes, pass_on, pass_meets, pass_at}
use Rattle.array_machine.specs.Faults.{pass_without}
use Rattle.array_machine.specs.OtherTurns.{idle_if, fails_if, kills, restarts}
use Rattle.array_machine.specs.Machine.{Actor, Monitor, Manager, Sync, Client, Quiet, Fail, Kill, Takeover, Action, turn_of, turn}
use Rattle.array_paths.specs.EndsLast.{EndsLast}

module _ (S : Setting) where
  -- an ending, in the control state in which it is found
  ended_last : (c : Control) (e : Ending) → EndsLast S c (ended_by S c e)
  ended_last c GoesOn = tt
  ended_last c (Finishes m) = refl
  ended_last c (MakesSpare d) = tt
  ended_last c Lapses = tt

  -- a turn with a call
  call_last : (c : Control) (d : ℕ) (what : What) (x : Ended) (changes : List Change) → EndsLast S c changes
      → EndsLast S c (call_if (may_call S c.round d) (calling d what x changes)).changes
  call_last c d what x changes last = at (may_call S c.round d)
    where
      at : (b : Bool) → EndsLast S c (call_if b (calling d what x changes)).changes
      at true = last
      at false = tt

  -- THE MONITOR

  verdict_last : (c : Control) (u : Update) (rest : List Update) (v : Verdict)
      → EndsLast S c (apply_verdict S c u rest v)
  verdict_last c u rest (Refuses kind) = tt
  verdict_last c u rest (EditsBook edits) = tt
  verdict_last c u rest (WritesSpare d) = tt

  update_last : (c : Control) (target : Bool) (queue : List Update) → EndsLast S c (apply_if S c target queue)
  update_last c true [] = tt
  update_last c true (u ∷ rest) = verdict_last c u rest (verdict_of S c u.seen u.want)
  update_last c false [] = tt
  update_last c false (u ∷ rest) = tt

  opens_last : (c d : Control) (v : ℕ) (kind : Option ℕ) → EndsLast S d (opens_pass S c v kind)
  opens_last c d v None = tt
  opens_last c d v (Some kind) = tt

  deed_last : (c : Control) (target : Bool) (deed : Deed)
      → EndsLast S c (rest_changes S c deed)
  deed_last c target Nothing = update_last c _ c.manager.queue
  deed_last c target (ReadiesVolume v) = opens_last c _ v (S.start.words.pass c.round.book v)
  deed_last c target (LetsWrites v) = tt
  deed_last c target (UnblocksDisk d) = tt
  deed_last c target (CleansVolume v) = tt
  deed_last c target BeginsRound = tt

  step_last : (c : Control) (d : ℕ) (went : Bool) → EndsLast S c (called S c went d (and_ended S c StepsOn))
  step_last c d true = ended_last (put S StepsOn c) _
  step_last c d false = ended_last (put S (DiskFails d) c) _

  monitor_last : (c : Control) (x : Ended) (phase : Phase) → EndsLast S c (monitor_at S c x phase).changes
  monitor_last c x Rest = deed_last c true _
  monitor_last c x (Going aim m step [] late done) = tt
  monitor_last c x (Going aim m step (d ∷ left) late done) =
      call_last c d (what_of S x m step d) x (called S c x.went d (and_ended S c StepsOn)) (step_last c d x.went)

  -- A TAKEOVER

  resume_last : (c : Control) (d : ℕ) (young : Bool) → EndsLast S c (resume_if d young ∷ [])
  resume_last c d true = tt
  resume_last c d false = tt

  found_last : (c d : Control) (found : List ℕ) → EndsLast S d (resumes S c.round found)
  found_last c d [] = tt
  found_last c d (e ∷ es) = resume_last d _ _

  resumed_last : (c : Control) (life : Life) → EndsLast S c (resumes_now S c.round life)
  resumed_last c Lives = tt
  resumed_last c Killed = tt
  resumed_last c (Takes [] seen found) = found_last c c found
  resumed_last c (Takes (d ∷ ds) seen found) = tt
  resumed_last c Dead = tt

  read_last : (c : Control) (went : Bool) (d : ℕ) (ds : List ℕ) (seen : List Sector) (found : List ℕ)
      → EndsLast S c (read_changes S c went d ds seen found)
  read_last c true d ds seen found = at (has_all S seen)
    where
      at : (b : Bool) → EndsLast S c (cond b (and_resumed S c (TakeoverReads ds [] (found_with S c.round d seen found)))
          (TakeoverReads (d ∷ ds) seen found ∷ []))
      at true =
          let a = TakeoverReads ds [] (found_with S c.round d seen found) in
          resumed_last (put S a c) (put S a c).round.life
      at false = tt
  read_last c false d ds seen found = resumed_last (put S (DiskFails d) c) _

  taking_last : (c : Control) (x : Ended) (left : List ℕ) (seen : List Sector) (found : List ℕ)
      → EndsLast S c (taking S c x left seen found).changes
  taking_last c x [] seen found = found_last c c found
  taking_last c x (d ∷ ds) seen found =
      call_last c d (Read (read_place S d seen)) x (read_changes S c x.went d ds (seen ++ x.got ∷ []) found)
      (read_last c x.went d ds (seen ++ x.got ∷ []) found)

  living_last : (c : Control) (x : Ended) (life : Life) → EndsLast S c (living S c x life).changes
  living_last c x Lives = monitor_last c x c.round.phase
  living_last c x Killed = tt
  living_last c x (Takes left seen found) = taking_last c x left seen found
  living_last c x Dead = tt

  -- THE MANAGER

  posts_last : (c : Control) (want : Option Want) → EndsLast S c (posts S c want)
  posts_last c None = tt
  posts_last c (Some want) = tt

  manages_last : (c : Control) (returned : ℕ) → EndsLast S c (manages_by S c returned)
  manages_last c zero = posts_last c _
  manages_last c (suc n) = tt

  managing_last : (c : Control) (lives : Bool) → EndsLast S c (managing S c lives).changes
  managing_last c true = manages_last c c.manager.returned
  managing_last c false = tt

  -- THE SYNC WORKER

  pass_changes_last : (c : Control) (v : ℕ) (y : Volume) (p : Pass) (work : List Work) (x : Ended) (need : Need)
      (d : ℕ) (went : Bool) → EndsLast S c (pass_changes S c v y p work x need d went)
  pass_changes_last c v y p work x need d true = tt
  pass_changes_last c v y p work x need d false =
      let failed = put S (DiskFails d) c in
      let lost = pass_without (shape_of S v) d y.slots (volume_at failed.volumes v).broken p in
      ended_last (put S (pass_moves v y need p.row lost) failed) _

  pass_on_last : (c : Control) (v : ℕ) (y : Volume) (p : Pass) (work : List Work) (x : Ended) (need : Need)
      (disk : Option ℕ) → EndsLast S c (pass_on S c v y p work x need disk).changes
  pass_on_last c v y p work x need None = tt
  pass_on_last c v y p work x need (Some d) =
      call_last c d (pass_what S v p work x need) x (pass_changes S c v y p work x need d x.went)
      (pass_changes_last c v y p work x need d x.went)

  pass_meets_last : (c : Control) (v : ℕ) (y : Volume) (p : Pass) (work : List Work) (x : Ended) (free : Bool)
      (need : Need) → EndsLast S c (pass_meets S c v y p work x free need).changes
  pass_meets_last c v y p work x free NoNeed = at p.over
    where
      at : (b : Bool) → EndsLast S c (cond b (quietly (PassMoves v y.slots (Some p) GoesOnQuietly ∷ [])) idle).changes
      at true = tt
      at false = tt
  pass_meets_last c v y p work x true (Reads s) = pass_on_last c v y p work x (Reads s) (source_in y s)
  pass_meets_last c v y p work x false (Reads s) = tt
  pass_meets_last c v y p work x true (Writes s) = pass_on_last c v y p work x (Writes s) (disk_in y.slots s)
  pass_meets_last c v y p work x false (Writes s) = tt
  pass_meets_last c v y p work x free (Syncs s) = pass_on_last c v y p work x (Syncs s) (disk_in y.slots s)
  pass_meets_last c v y p work x free (Answers answer) = tt

  pass_at_last : (c : Control) (v : ℕ) (y : Volume) (x : Ended) (stops : Bool) (p : Option Pass)
      → EndsLast S c (pass_at S c v y x stops p).changes
  pass_at_last c v y x stops None = tt
  pass_at_last c v y x true (Some p) = tt
  pass_at_last c v y x false (Some p) =
      let members = members_of c.round.faults c.round.blocked y.slots in
      let q = settled (shape_of S v) members p in
      let work = row_work (shape_of S v) members q.row in
      pass_meets_last c v y q work x (is_free_row S c v q.row) (pass_need q work q.over q.syncing)

  -- CLIENTS

  asks_last : (c : Control) (broken : Bool) (v k i : ℕ) (rest : List ℕ) (state : State)
      → EndsLast S c (asks_unless broken v state ++ begins_job k i rest ∷ [])
  asks_last c true v k i rest state = tt
  asks_last c false v k i rest IsReadonly = tt
  asks_last c false v k i rest IsReadAuto = tt
  asks_last c false v k i rest IsClean = tt
  asks_last c false v k i rest IsPending = tt
  asks_last c false v k i rest IsActive = tt
  asks_last c false v k i rest IsIdle = tt

  submit_at_last : (c : Control) (k i : ℕ) (rest : List ℕ) (v : ℕ) (x : Volume) (writes : Bool)
      (place : Option Placement) → EndsLast S c (submit_at k i rest v x writes place)
  submit_at_last c k i rest v x writes None = tt
  submit_at_last c k i rest v x false (Some place) = tt
  submit_at_last c k i rest v x true (Some place) = asks_last _ x.broken v k i rest x.state

  submit_kind_last : (c : Control) (k i : ℕ) (rest : List ℕ) (kind : Option OpKind)
      → EndsLast S c (submit_kind S c k i rest kind)
  submit_kind_last c k i rest None = tt
  submit_kind_last c k i rest (Some (OpWrite v s value)) =
      submit_at_last c k i rest (volume_of S i) (volume_at c.volumes (volume_of S i)) true (place_at S i)
  submit_kind_last c k i rest (Some (OpRead v s)) =
      submit_at_last c k i rest (volume_of S i) (volume_at c.volumes (volume_of S i)) false (place_at S i)
  submit_kind_last c k i rest (Some (OpWhole v)) = tt

  submit_unless_last : (c : Control) (k i : ℕ) (rest : List ℕ) (shut : Bool)
      → EndsLast S c (submit_unless S c k i rest shut)
  submit_unless_last c k i rest true = tt
  submit_unless_last c k i rest false = submit_kind_last c k i rest (kind_at S.asked.ops i)

  submit_last : (c : Control) (k : ℕ) (left : List ℕ) → EndsLast S c (submit_next S c k left)
  submit_last c k [] = tt
  submit_last c k (i ∷ rest) = submit_unless_last c k i rest _

  job_last : (c : Control) (k : ℕ) (left : List ℕ) (i : ℕ) (r : Row) (x : Ended) (need : Need) (d : ℕ) (went : Bool)
      → EndsLast S c (job_changes S c k left i r x need d went)
  job_last c k left i r x need d true = tt
  job_last c k left i r x need d false =
      let lost = ClientMoves k (with_job left (Busy i (lost_row r.plan r))) IsSilent in
      ended_last (put S lost (put S (DiskFails d) c)) _

  on_disk_last : (c : Control) (k : ℕ) (left : List ℕ) (i : ℕ) (r : Row) (x : Ended) (need : Need) (disk : Option ℕ)
      → EndsLast S c (on_disk S c k left i r x need disk).changes
  on_disk_last c k left i r x need None = tt
  on_disk_last c k left i r x need (Some d) =
      call_last c d (need_what S i r x need) x (job_changes S c k left i r x need d x.went)
      (job_last c k left i r x need d x.went)

  meet_last : (c : Control) (k : ℕ) (left : List ℕ) (i : ℕ) (r : Row) (x : Ended) (need : Need)
      → EndsLast S c (meet S c k left i r x need).changes
  meet_last c k left i r x NoNeed = tt
  meet_last c k left i r x (Reads s) = on_disk_last c k left i (row_tried S c i r) x (Reads s) _
  meet_last c k left i r x (Writes s) = on_disk_last c k left i (row_tried S c i r) x (Writes s) _
  meet_last c k left i r x (Syncs s) = on_disk_last c k left i (row_tried S c i r) x (Syncs s) _
  meet_last c k left i r x (Answers answer) = tt

  whole_last : (c : Control) (k : ℕ) (left : List ℕ) (i : ℕ) (whole without : Bool)
      → EndsLast S c (whole_answer k left i whole without).changes
  whole_last c k left i true b = tt
  whole_last c k left i false true = tt
  whole_last c k left i false false = tt

  busy_last : (c : Control) (k : ℕ) (left : List ℕ) (i : ℕ) (r : Row) (x : Ended) (kind : Option OpKind)
      → EndsLast S c (busy_kind S c k left i r x kind).changes
  busy_last c k left i r x None = tt
  busy_last c k left i r x (Some (OpWrite v s value)) = meet_last c k left i r x _
  busy_last c k left i r x (Some (OpRead v s)) = meet_last c k left i r x _
  busy_last c k left i r x (Some (OpWhole v)) = whole_last c k left i _ _

  unless_last : (c : Control) (k : ℕ) (left : List ℕ) (i : ℕ) (r : Row) (x : Ended) (broken : Bool)
      → EndsLast S c (busy_unless S c k left i r x broken).changes
  unless_last c k left i r x true = tt
  unless_last c k left i r x false = busy_last c k left i r x (kind_at S.asked.ops i)

  client_last : (c : Control) (k : ℕ) (x : Ended) (left : List ℕ) (job : Job)
      → EndsLast S c (client_by S c k x left job).changes
  client_last c k x left NoJob = submit_last c k left
  client_last c k x left (Submitted i) = tt
  client_last c k x left (Busy i r) = unless_last c k left i r x _

  -- THE OTHERS

  idle_last : (c : Control) (v : ℕ) (quiet : Bool) → EndsLast S c (idle_if v quiet).changes
  idle_last c v true = tt
  idle_last c v false = tt

  fails_last : (c : Control) (d : ℕ) (may : Bool) → EndsLast S c (fails_if S c d may).changes
  fails_last c d true = ended_last (put S (DiskFails d) c) _
  fails_last c d false = tt

  kills_last : (c : Control) (life : Life) → EndsLast S c (kills life).changes
  kills_last c Lives = tt
  kills_last c Killed = tt
  kills_last c (Takes left seen found) = tt
  kills_last c Dead = tt

  restarts_last : (c : Control) (left : List ℕ) (life : Life) → EndsLast S c (restarts left life).changes
  restarts_last c left Lives = tt
  restarts_last c left Killed = tt
  restarts_last c left (Takes more seen found) = tt
  restarts_last c left Dead = tt

  -- EACH TURN

  actor_last : (c : Control) (x : Ended) (who : Actor) → EndsLast S c (turn_of S c x who).changes
  actor_last c x Monitor = living_last c x c.round.life
  actor_last c x Manager = managing_last c _
  actor_last c x (Sync v) = pass_at_last c v (volume_at c.volumes v) x _ (volume_at c.volumes v).pass
  actor_last c x (Client k) = client_last c k x _ _
  actor_last c x (Quiet v) = idle_last c v _
  actor_last c x (Fail d) = fails_last c d _
  actor_last c x Kill = kills_last c c.round.life
  actor_last c x Takeover = restarts_last c _ c.round.life

  pub turn_ends_last : (c : Control) (a : Action) → EndsLast S c (turn S c a).changes
  turn_ends_last c a = actor_last c a.ended a.actor
