-- What each change of each turn stands behind, whoever takes the turn.
use Rattle.std.proofs.Common.{◌≡◌, ℕ, zero, suc, Bool, true, false, cond, List, [], ◌∷◌, ◌++◌, refl, ap, sym, Option, Some, None, inl, inr}
use Rattle.units.specs.declared.disk.Sector.{Sector}
use Rattle.device_log.specs.Log.{What}
use Rattle.array_model.specs.declared.script.OpKind.{OpKind}
use Rattle.array_model.specs.declared.script.OpKind.TheVariants.{Write as OpWrite, Read as OpRead, Whole as OpWhole}
use Rattle.array_model.specs.Script.{kind_at}
use Rattle.array_model.specs.Placement.{Placement}
use Rattle.array_machine.specs.Setting.{Setting}
use Rattle.array_machine.specs.States.{State, IsReadonly, IsReadAuto, IsClean, IsPending, IsActive, IsIdle, ToReady, state_after}
use Rattle.array_machine.specs.Volumes.{disk_in, members_of, Pass, Volume, volume_at, source_in}
use Rattle.array_machine.specs.Operations.{volume_of, shape_of, place_at, is_write, is_write_kind}
use Rattle.array_machine.specs.Clients.{Row, Job, NoJob, Submitted, Busy, client_at, with_job}
use Rattle.array_machine.specs.RowJobs.{Need, NoNeed, Reads, Writes, Syncs, Answers, lost_row}
use Rattle.array_machine.specs.Faults.{pass_without}
use Rattle.array_machine.specs.Rounds.{dropped, stepped, Ended, Phase, Rest, Going, what_of, Life, Lives, Killed, Takes, Dead, has_target, ending, lives, working_disks}
use Rattle.array_machine.specs.Managers.{Want, Update}
use Rattle.array_machine.specs.Control.{Control}
use Rattle.array_machine.specs.Changes.{Change, StepsOn, DiskFails, StateGoes, ClientMoves, PassMoves, IsSilent, Submits, GoesOnQuietly, TakeoverReads}
use Rattle.array_machine.specs.Puts.{put}
use Rattle.array_machine.specs.Turns.{idle, quietly, may_call, call_if, calling}
use Rattle.array_machine.specs.RoundEnds.{ended_by, and_ended, called}
use Rattle.array_machine.specs.Updates.{Verdict, Refuses, EditsBook, WritesSpare, verdict_of, apply_verdict, apply_if}
use Rattle.array_machine.specs.MonitorTurns.{Deed, Nothing, ReadiesVolume, LetsWrites, UnblocksDisk, CleansVolume, BeginsRound, choose, deed_of, opens_pass, rest_changes, monitor_at}
use Rattle.array_machine.specs.TakeoverTurns.{resume_if, resumes, resumes_now, and_resumed, has_all, found_with, read_changes, taking}
use Rattle.array_machine.specs.ManagerTurns.{to_post, first_unposted, posts, manages_by, managing, living}
use Rattle.array_machine.specs.ClientTurns.{asks_unless, begins_job, submit_at, submit_kind, is_shut, submit_unless, submit_next, the_volume, row_tried, need_what, job_changes, on_disk, meet, whole_answer, busy_kind, busy_unless, client_by}
use Rattle.array_machine.specs.SyncTurns.{Work, row_work, settled, pass_need, is_free_row, pass_moves, pass_what, pass_changes, pass_on, pass_meets, pass_at, synced}
use Rattle.array_machine.specs.OtherTurns.{idle_if, fails_if, kills, restarts}
use Rattle.array_machine.specs.Machine.{Actor, Monitor, Manager, Sync, Client, Quiet, Fail, Kill, Takeover, Action, turn_of, turn}
use Rattle.array_form.proofs.EndsBehind.{slots_stay, ended_part}
use Rattle.array_form.specs.Behind.{goes_on, TakesFirst, AllBehind}

module _ (S : Setting) (b : Control) where
  -- what goes on may end, where it went on when the turn began
  ends_part : (c : Control) (prev : Option Change) → c.round.last ≡ b.round.last
      → (goes_on c.round.phase ≡ true → goes_on b.round.phase ≡ true)
      → AllBehind S b c prev (ended_by S c (ending c.round.phase))
  ends_part c prev last went_on = at c.round.phase went_on
    where
      at : (phase : Phase) → (goes_on phase ≡ true → goes_on b.round.phase ≡ true)
          → AllBehind S b c prev (ended_by S c (ending phase))
      at Rest h = tt
      at (Going aim m step left late done) h = ended_part S b (h refl) c prev last _

  dropped_on : (d : ℕ) (phase : Phase) → goes_on (dropped d phase) ≡ true → goes_on phase ≡ true
  dropped_on d Rest is = absurd cc
  dropped_on d (Going aim m step left late done) is = refl

  stepped_on : (phase : Phase) → goes_on (stepped phase) ≡ true → goes_on phase ≡ true
  stepped_on Rest is = absurd cc
  stepped_on (Going aim m step left late done) is = refl

  -- a turn with a call
  call_part : (d : ℕ) (what : What) (x : Ended) (changes : List Change) → AllBehind S b b None changes
      → AllBehind S b b None (call_if (may_call S b.round d) (calling d what x changes)).changes
  call_part d what x changes behind = at (may_call S b.round d)
    where
      at : (may : Bool) → AllBehind S b b None (call_if may (calling d what x changes)).changes
      at true = behind
      at false = tt

  -- THE MONITOR

  verdict_part : (u : Update) (rest : List Update) → b.manager.queue ≡ u ∷ rest → deed_of S b ≡ Nothing
      → has_target S b.round ≡ true → (verdict : Verdict) → verdict_of S b u.seen u.want ≡ verdict
      → AllBehind S b b None (apply_verdict S b u rest verdict)
  verdict_part u rest queue free target verdict is = at verdict is
    where
      takes : TakesFirst S b u.number
      takes = record { update = u; rest = rest; first = queue; number = refl; free = free; target = target }

      at : (v : Verdict) → verdict_of S b u.seen u.want ≡ v → AllBehind S b b None (apply_verdict S b u rest v)
      at (Refuses kind) is = ((refl, record { takes = takes; verdict_is = is; new_is = refl }), tt)
      at (EditsBook edits) is = (
        (
          refl,
          record {
            takes = takes;
            verdict = EditsBook edits;
            verdict_is = is;
            accepted = tt;
            new_is = refl;
            then_begins = refl;
          },
        ),
        (
          inr (record {
            edits = edits;
            update = record { new = _; number = _; behind = refl; now = refl; takes = takes; verdict_is = is };
            block = refl;
          }),
          tt,
        ),
      )
      at (WritesSpare d) is = (
        (
          refl,
          record {
            takes = takes;
            verdict = WritesSpare d;
            verdict_is = is;
            accepted = tt;
            new_is = refl;
            then_begins = refl;
          },
        ),
        (record { new = _; number = _; behind = refl; now = refl; takes = takes; verdict_is = is }, tt),
      )

  update_part : deed_of S b ≡ Nothing → (target : Bool) → has_target S b.round ≡ target → (queue : List Update)
      → b.manager.queue ≡ queue → AllBehind S b b None (apply_if S b target queue)
  update_part free true has [] is = tt
  update_part free true has (u ∷ rest) is = verdict_part u rest is free has _ refl
  update_part free false has [] is = tt
  update_part free false has (u ∷ rest) is = tt

  opens_part : b.round.phase ≡ Rest → (v : ℕ) (kind : Option ℕ) → S.start.words.pass b.round.book v ≡ kind
      → AllBehind S b (put S (StateGoes v ToReady) b) (Some (StateGoes v ToReady)) (opens_pass S b v kind)
  opens_part rested v None is = tt
  opens_part rested v (Some kind) is = (
    inl (record {
      behind = refl;
      rested = rested;
      kind = kind;
      open_in_book = is;
      slots_are = sym (slots_stay b.volumes v (state_after ToReady) v);
      new_is = refl;
      row_is = refl;
    }),
    tt,
  )

  chosen_due : (unready active unblock clean : Option ℕ) (target due : Bool)
      → choose unready active unblock clean target due ≡ BeginsRound → due ≡ true
  chosen_due (Some v) active unblock clean target due is = absurd cc
  chosen_due None (Some v) unblock clean target due is = absurd cc
  chosen_due None None (Some d) clean target due is = absurd cc
  chosen_due None None None (Some v) target due is = absurd cc
  chosen_due None None None None true true is = refl
  chosen_due None None None None true false is = absurd cc
  chosen_due None None None None false due is = absurd cc

  deed_part : b.round.phase ≡ Rest → (deed : Deed) → deed_of S b ≡ deed → AllBehind S b b None (rest_changes S b deed)
  deed_part rested Nothing is = update_part is _ refl b.manager.queue refl
  deed_part rested (ReadiesVolume v) is = (tt, opens_part rested v _ refl)
  deed_part rested (LetsWrites v) is = (tt, tt)
  deed_part rested (UnblocksDisk d) is = (tt, tt)
  deed_part rested (CleansVolume v) is = (tt, tt)
  deed_part rested BeginsRound is =
      let due = chosen_due _ _ _ _ _ _ is in (inl (record { now = refl; due = due; block = refl }), tt)

  step_part : (d : ℕ) (went : Bool) → AllBehind S b b None (called S b went d (and_ended S b StepsOn))
  step_part d true = (tt, ends_part (put S StepsOn b) (Some StepsOn) refl (stepped_on b.round.phase))
  step_part d false = (tt, ends_part (put S (DiskFails d) b) (Some (DiskFails d)) refl (dropped_on d b.round.phase))

  monitor_part : (x : Ended) (phase : Phase) → b.round.phase ≡ phase
      → AllBehind S b b None (monitor_at S b x phase).changes
  monitor_part x Rest rested = deed_part rested (deed_of S b) refl
  monitor_part x (Going aim m step [] late done) is = tt
  monitor_part x (Going aim m step (d ∷ left) late done) is =
      call_part d (what_of S x m step d) x (called S b x.went d (and_ended S b StepsOn)) (step_part d x.went)

  -- A TAKEOVER

  resume_part : (c : Control) (prev : Option Change) (d : ℕ) (young : Bool)
      → AllBehind S b c prev (resume_if d young ∷ [])
  resume_part c prev d true = (tt, tt)
  resume_part c prev d false = (tt, tt)

  found_part : (c : Control) (prev : Option Change) (found : List ℕ) → AllBehind S b c prev (resumes S c.round found)
  found_part c prev [] = (tt, tt)
  found_part c prev (e ∷ es) = resume_part c prev _ _

  resumed_part : (c : Control) (prev : Option Change) (life : Life)
      → AllBehind S b c prev (resumes_now S c.round life)
  resumed_part c prev Lives = tt
  resumed_part c prev Killed = tt
  resumed_part c prev (Takes [] seen found) = found_part c prev found
  resumed_part c prev (Takes (d ∷ ds) seen found) = tt
  resumed_part c prev Dead = tt

  read_part : (went : Bool) (d : ℕ) (ds : List ℕ) (seen : List Sector) (found : List ℕ)
      → AllBehind S b b None (read_changes S b went d ds seen found)
  read_part true d ds seen found = at (has_all S seen)
    where
      a : Change
      a = TakeoverReads ds [] (found_with S b.round d seen found)

      at : (all : Bool) → AllBehind S b b None (cond all (and_resumed S b a) (TakeoverReads (d ∷ ds) seen found ∷ []))
      at true = (tt, resumed_part (put S a b) (Some a) (put S a b).round.life)
      at false = (tt, tt)
  read_part false d ds seen found = (tt, resumed_part (put S (DiskFails d) b) (Some (DiskFails d)) _)

  taking_part : (x : Ended) (left : List ℕ) (seen : List Sector) (found : List ℕ)
      → AllBehind S b b None (taking S b x left seen found).changes
  taking_part x [] seen found = found_part b None found
  taking_part x (d ∷ ds) seen found =
      call_part d _ x (read_changes S b x.went d ds (seen ++ x.got ∷ []) found)
      (read_part x.went d ds (seen ++ x.got ∷ []) found)

  living_part : (x : Ended) (life : Life) → AllBehind S b b None (living S b x life).changes
  living_part x Lives = monitor_part x b.round.phase refl
  living_part x Killed = tt
  living_part x (Takes left seen found) = taking_part x left seen found
  living_part x Dead = tt

  -- THE MANAGER

  posts_part : (want : Option Want) → to_post S b (first_unposted 0 b.manager.asks) b.manager.queue ≡ want
      → AllBehind S b b None (posts S b want)
  posts_part None due = tt
  posts_part (Some want) due = ((refl, record { want = want; due = due; new_is = refl; number = refl }), tt)

  manages_part : (returned : ℕ) → AllBehind S b b None (manages_by S b returned)
  manages_part zero = posts_part _ refl
  manages_part (suc n) = ((refl, record { returned = n; new_is = refl }), tt)

  managing_part : (alive : Bool) → AllBehind S b b None (managing S b alive).changes
  managing_part true = manages_part b.manager.returned
  managing_part false = tt

  -- SYNC WORKERS

  pass_part_of : (v : ℕ) (y : Volume) (p : Pass) (work : List Work) (x : Ended) (need : Need) (d : ℕ) (went : Bool)
      → AllBehind S b b None (pass_changes S b v y p work x need d went)
  pass_part_of v y p work x need d true = (tt, tt)
  pass_part_of v y p work x need d false =
      let failed = put S (DiskFails d) b in
      let lost = pass_without (shape_of S v) d y.slots (volume_at failed.volumes v).broken p in
      let a : Change = pass_moves v y need p.row lost in
      (tt, (tt, ends_part (put S a failed) (Some a) refl (dropped_on d b.round.phase)))

  on_disk_part : (v : ℕ) (y : Volume) (p : Pass) (work : List Work) (x : Ended) (need : Need) (disk : Option ℕ)
      → AllBehind S b b None (pass_on S b v y p work x need disk).changes
  on_disk_part v y p work x need None = tt
  on_disk_part v y p work x need (Some d) =
      call_part d (pass_what S v p work x need) x (pass_changes S b v y p work x need d x.went)
      (pass_part_of v y p work x need d x.went)

  over_part : (v : ℕ) (y : Volume) (p : Pass) (over : Bool)
      → AllBehind S b b None (cond over (quietly (PassMoves v y.slots (Some p) GoesOnQuietly ∷ [])) idle).changes
  over_part v y p true = (tt, tt)
  over_part v y p false = tt

  meets_part : (v : ℕ) (y : Volume) (p : Pass) (work : List Work) (x : Ended) (free : Bool) (need : Need)
      → AllBehind S b b None (pass_meets S b v y p work x free need).changes
  meets_part v y p work x free NoNeed = over_part v y p p.over
  meets_part v y p work x true (Reads s) = on_disk_part v y p work x (Reads s) (source_in y s)
  meets_part v y p work x false (Reads s) = tt
  meets_part v y p work x true (Writes s) = on_disk_part v y p work x (Writes s) (disk_in y.slots s)
  meets_part v y p work x false (Writes s) = tt
  meets_part v y p work x free (Syncs s) = on_disk_part v y p work x (Syncs s) (disk_in y.slots s)
  meets_part v y p work x free (Answers answer) = tt

  pass_at_part : (v : ℕ) (y : Volume) (x : Ended) (stops : Bool) (p : Option Pass)
      → AllBehind S b b None (pass_at S b v y x stops p).changes
  pass_at_part v y x stops None = tt
  pass_at_part v y x true (Some p) = tt
  pass_at_part v y x false (Some p) =
      let members = members_of b.round.faults b.round.blocked y.slots in
      let q = settled (shape_of S v) members p in
      let work = row_work (shape_of S v) members q.row in
      meets_part v y q work x (is_free_row S b v q.row) (pass_need q work q.over q.syncing)

  synced_part : (v : ℕ) (x : Ended) → AllBehind S b b None (synced S b v x).changes
  synced_part v x = pass_at_part v (volume_at b.volumes v) x _ _

  -- CLIENTS

  module _ (k : ℕ) (left : List ℕ) (i : ℕ) (x : Ended) where
    job_part : (r : Row) (need : Need) (d : ℕ) (went : Bool)
        → AllBehind S b b None (job_changes S b k left i r x need d went)
    job_part r need d true = (tt, tt)
    job_part r need d false =
        let failed = put S (DiskFails d) b in
        let a : Change = ClientMoves k (with_job left (Busy i (lost_row r.plan r))) IsSilent in
        (tt, (tt, ends_part (put S a failed) (Some a) refl (dropped_on d b.round.phase)))

    disk_part : (r : Row) (need : Need) (disk : Option ℕ)
        → AllBehind S b b None (on_disk S b k left i r x need disk).changes
    disk_part r need None = tt
    disk_part r need (Some d) =
        call_part d (need_what S i r x need) x (job_changes S b k left i r x need d x.went) (job_part r need d x.went)

    need_part : (r : Row) (need : Need) → AllBehind S b b None (meet S b k left i r x need).changes
    need_part r NoNeed = tt
    need_part r (Reads s) = disk_part (row_tried S b i r) (Reads s) (source_in (the_volume S b i) s)
    need_part r (Writes s) = disk_part (row_tried S b i r) (Writes s) (disk_in (the_volume S b i).slots s)
    need_part r (Syncs s) = disk_part (row_tried S b i r) (Syncs s) (disk_in (the_volume S b i).slots s)
    need_part r (Answers answer) = (tt, tt)

    whole_part : (whole lacks : Bool) → AllBehind S b b None (whole_answer k left i whole lacks).changes
    whole_part true lacks = (tt, tt)
    whole_part false true = (tt, tt)
    whole_part false false = tt

    kind_part : (r : Row) (kind : Option OpKind) → AllBehind S b b None (busy_kind S b k left i r x kind).changes
    kind_part r None = tt
    kind_part r (Some (OpWrite v s value)) = need_part r _
    kind_part r (Some (OpRead v s)) = need_part r _
    kind_part r (Some (OpWhole v)) = whole_part _ _

    busy_part : (r : Row) (broken : Bool) → AllBehind S b b None (busy_unless S b k left i r x broken).changes
    busy_part r true = (tt, tt)
    busy_part r false = kind_part r (kind_at S.asked.ops i)

  module _ (k i : ℕ) (rest : List ℕ) where
    -- behind a submit, what the state of the volume asks for
    asks_part : is_write S i ≡ true → (v : ℕ) → volume_of S i ≡ v → (broken : Bool) (state : State) (c : Control)
        → AllBehind S b c (Some (ClientMoves k (with_job rest (Submitted i)) (Submits i)))
        (asks_unless broken v state ++ begins_job k i rest ∷ [])
    asks_part writes v on true state c = (tt, tt)
    asks_part writes v on false IsReadonly c = (tt, tt)
    asks_part writes v on false IsReadAuto c =
        (record { client = _; new = _; op = _; behind = refl; writes = writes; on = on }, (tt, tt))
    asks_part writes v on false IsClean c =
        (record { client = _; new = _; op = _; behind = refl; writes = writes; on = on }, (tt, tt))
    asks_part writes v on false IsPending c = (tt, tt)
    asks_part writes v on false IsActive c = (tt, tt)
    asks_part writes v on false IsIdle c = (tt, (tt, tt))

    submit_part : (y : Volume) (writing : Bool) → (writing ≡ true → is_write S i ≡ true) → (place : Option Placement)
        → AllBehind S b b None (submit_at k i rest (volume_of S i) y writing place)
    submit_part y writing writes None = (tt, (tt, tt))
    submit_part y false writes (Some place) = (tt, tt)
    submit_part y true writes (Some place) =
        (tt, asks_part (writes refl) (volume_of S i) refl y.broken y.state _)

    submit_kind_part : (kind : Option OpKind) → kind_at S.asked.ops i ≡ kind
        → AllBehind S b b None (submit_kind S b k i rest kind)
    submit_kind_part None is = tt
    submit_kind_part (Some (OpWrite v s value)) is =
        submit_part (volume_at b.volumes (volume_of S i)) true (λ h. ap is_write_kind is)
        (place_at S i)
    submit_kind_part (Some (OpRead v s)) is = submit_part (volume_at b.volumes (volume_of S i)) false (λ h. absurd cc)
        (place_at S i)
    submit_kind_part (Some (OpWhole v)) is = (tt, tt)

    unless_part : (shut : Bool) → AllBehind S b b None (submit_unless S b k i rest shut)
    unless_part true = tt
    unless_part false = submit_kind_part _ refl

  next_part : (k : ℕ) (left : List ℕ) → AllBehind S b b None (submit_next S b k left)
  next_part k [] = tt
  next_part k (i ∷ rest) = unless_part k i rest (is_shut (volume_at b.volumes (volume_of S i)))

  client_part : (k : ℕ) (x : Ended) (left : List ℕ) (job : Job)
      → AllBehind S b b None (client_by S b k x left job).changes
  client_part k x left NoJob = next_part k left
  client_part k x left (Submitted i) = tt
  client_part k x left (Busy i r) = busy_part k left i x r (the_volume S b i).broken

  -- THE OTHERS

  quiet_part : (v : ℕ) (quiet : Bool) → AllBehind S b b None (idle_if v quiet).changes
  quiet_part v true = (tt, tt)
  quiet_part v false = tt

  fail_part : (d : ℕ) (may : Bool) → AllBehind S b b None (fails_if S b d may).changes
  fail_part d true = (tt, ends_part (put S (DiskFails d) b) (Some (DiskFails d)) refl (dropped_on d b.round.phase))
  fail_part d false = tt

  kill_part : (life : Life) → AllBehind S b b None (kills life).changes
  kill_part Lives = (tt, tt)
  kill_part Killed = tt
  kill_part (Takes left seen found) = (tt, tt)
  kill_part Dead = tt

  restart_part : (left : List ℕ) (life : Life) → AllBehind S b b None (restarts left life).changes
  restart_part left Lives = tt
  restart_part left Killed = (tt, tt)
  restart_part left (Takes more seen found) = tt
  restart_part left Dead = tt

  turn_part : (x : Ended) (who : Actor) → AllBehind S b b None (turn_of S b x who).changes
  turn_part x Monitor = living_part x b.round.life
  turn_part x Manager = managing_part (lives b.round.life)
  turn_part x (Sync v) = synced_part v x
  turn_part x (Client k) = client_part k x (client_at b.clients k).left (client_at b.clients k).job
  turn_part x (Quiet v) = quiet_part v _
  turn_part x (Fail d) = fail_part d _
  turn_part x Kill = kill_part b.round.life
  turn_part x Takeover = restart_part (working_disks S b.round) b.round.life

-- each change of a turn stands behind those that it has to
pub turn_behind : (S : Setting) (c : Control) (a : Action) → AllBehind S c c None (turn S c a).changes
turn_behind S c a = turn_part S c a.ended a.actor
