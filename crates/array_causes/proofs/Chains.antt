-- Each change of a turn leans on those before it: the monitor's turns and those that it shares with others.
use Rattle.std.proofs.Common.{◌≡◌, ℕ, zero, suc, ◌+◌, Bool, true, false, List, [], ◌∷◌, ◌++◌, refl, sym, subst, Option, Some, None, slice_get, cond}
use Rattle.std.specs.Prelude.{⊤, nat_lt}
use Rattle.units.specs.declared.disk.Sector.{Sector}
use Rattle.array_model.specs.declared.script.Ask.{Ask}
use Rattle.array_model.specs.declared.script.Ask.TheVariants.{Add, Rename, Remove}
use Rattle.array_model.specs.Blocks.{Laid}
use Rattle.array_machine.specs.Setting.{Setting, ActivatesDisk, RemovesDisk, NamesVolume}
use Rattle.array_machine.specs.Volumes.{Volume, Pass, volume_at, members_of, disk_in, source_in}
use Rattle.array_machine.specs.RowJobs.{Need, NoNeed, Reads, Writes, Syncs, Answers}
use Rattle.array_machine.specs.Rounds.{Ended, Phase, Rest, Going, Life, Lives, Killed, Takes, Dead, Round, Ending, GoesOn, Finishes, MakesSpare, Lapses, ending, has_target}
use Rattle.array_machine.specs.Managers.{Want, OfAsk, OfSpareDisk, Update}
use Rattle.array_machine.specs.Operations.{shape_of}
use Rattle.array_machine.specs.Faults.{pass_without}
use Rattle.array_machine.specs.Control.{Control}
use Rattle.array_machine.specs.Changes.{Change, StepsOn, DiskFails, PassMoves, TakeoverReads, GoesOnQuietly, Reaches}
use Rattle.array_machine.specs.Puts.{put}
use Rattle.array_machine.specs.Turns.{Turn, idle, quietly, call_if, may_call}
use Rattle.array_machine.specs.RoundEnds.{PassRun, all_runs, pass_ended, slots_ended, volume_ended, volumes_ended, has_other, ended_by, and_ended, called}
use Rattle.array_machine.specs.Updates.{Verdict, Refuses, EditsBook, WritesSpare, Refusal, unless, add_refusals, rename_refusals, remove_refusals, activation_refusals, ask_verdict, verdict_of, apply_verdict, apply_if}
use Rattle.array_machine.specs.MonitorTurns.{Deed, Nothing, ReadiesVolume, LetsWrites, UnblocksDisk, CleansVolume, BeginsRound, opens_pass, rest_changes, deed_of, monitor_at}
use Rattle.array_machine.specs.ManagerTurns.{posts, manages_by, managing, living}
use Rattle.array_machine.specs.TakeoverTurns.{best_of, resume_if, resumes, resumes_now, and_resumed, has_all, found_with, read_changes, taking}
use Rattle.array_machine.specs.SyncTurns.{Work, row_work, settled, pass_need, pass_moves, pass_changes, pass_on, pass_meets, pass_at, synced, is_free_row}
use Rattle.array_machine.specs.OtherTurns.{idle_if, quieted, fails_if, kills, restarts}
use Rattle.array_causes.specs.Links.{Link, First, Fresh, BehindEnd, BehindReady, link_after, AsksToAdd, IsToBeAdded, MayTakeUpdates, IsSettled, Leans, Chain}

module _ (S : Setting) (begun : Control) where
  -- ENDS

  runs_more : (xs ys : List PassRun) → Chain S begun BehindEnd (all_runs xs) → Chain S begun BehindEnd (all_runs ys)
      → Chain S begun BehindEnd (all_runs (xs ++ ys))
  runs_more [] ys a b = b
  runs_more (x ∷ xs) ys a b = (a.0, runs_more xs ys a.1 b)

  pass_chain : (faults : List ℕ) (v : ℕ) (x : Volume) (before now : Option ℕ) (old new : ℕ)
      → Chain S begun BehindEnd (all_runs (pass_ended faults v x before now old new))
  pass_chain faults v x (Some kind) None old new = (refl, tt)
  pass_chain faults v x (Some kind) (Some now) old new = at (nat_lt old new)
    where
      run : PassRun
      run = record { volume = v; slots = x.slots; pass = x.pass; word = Reaches new }

      at : (b : Bool) → Chain S begun BehindEnd (all_runs (cond b (run ∷ []) []))
      at true = (refl, tt)
      at false = tt
  pass_chain faults v x None now old new = tt

  slots_chain : (faults : List ℕ) (last m : Laid) (v : ℕ) (x : Volume) (other : Bool)
      → Chain S begun BehindEnd (all_runs (slots_ended S faults last m v x other))
  slots_chain faults last m v x true = (refl, tt)
  slots_chain faults last m v x false =
      pass_chain faults v x (S.start.words.pass last v) (S.start.words.pass m v) (S.start.words.unit last v)
      (S.start.words.unit m v)

  volume_chain : (faults : List ℕ) (last m : Laid) (v : ℕ) (x : Volume)
      → Chain S begun BehindEnd (all_runs (volume_ended S faults last m v x))
  volume_chain faults last m v x = at x.started
    where
      at : (b : Bool) → Chain S begun BehindEnd
          (all_runs (cond b (slots_ended S faults last m v x (has_other S (S.start.words.slots m v) x.slots)) []))
      at true = slots_chain faults last m v x (has_other S (S.start.words.slots m v) x.slots)
      at false = tt

  volumes_chain : (faults : List ℕ) (last m : Laid) (v : ℕ) (xs : List Volume)
      → Chain S begun BehindEnd (all_runs (volumes_ended S faults last m v xs))
  volumes_chain faults last m v [] = tt
  volumes_chain faults last m v (x ∷ xs) =
      runs_more (volume_ended S faults last m v x) (volumes_ended S faults last m (v + 1) xs)
      (volume_chain faults last m v x) (volumes_chain faults last m (v + 1) xs)

  -- whatever stands before it
  pub end_chain : (c : Control) (link : Link) (e : Ending) → IsSettled link → Chain S begun link (ended_by S c e)
  end_chain c link GoesOn settled = settled
  end_chain c link (Finishes m) settled = (settled, volumes_chain c.round.faults c.round.last m 0 c.volumes)
  end_chain c link (MakesSpare d) settled = (settled, tt)
  end_chain c link Lapses settled = (settled, tt)

  pub and_ended_chain : (c : Control) (link : Link) (a : Change) → Leans S begun link a
      → IsSettled (link_after link a) → Chain S begun link (and_ended S c a)
  and_ended_chain c link a leans settled =
      (leans, end_chain (put S a c) (link_after link a) (ending (put S a c).round.phase) settled)

  pub call_chain : (may : Bool) (turn : Turn) → Chain S begun First turn.changes
      → Chain S begun First (call_if may turn).changes
  call_chain true turn chain = chain
  call_chain false turn chain = tt

  -- UPDATES

  -- a spare's block is written only where the verdict says so

  abbrev AddsSpare : Verdict → Type 0
  AddsSpare (Refuses kind) = ⊤
  AddsSpare (EditsBook edits) = ⊤
  AddsSpare (WritesSpare d) = IsToBeAdded S d

  unless_adds : (rs : List Refusal) (v : Verdict) → AddsSpare v → AddsSpare (unless rs v)
  unless_adds [] v adds = adds
  unless_adds (r ∷ rs) v adds = at r.holds (unless_adds rs v adds)
    where
      at : (b : Bool) → AddsSpare (unless rs v) → AddsSpare (cond b (Refuses r.kind) (unless rs v))
      at true more = tt
      at false more = more

  verdict_adds : (c : Control) (seen : ℕ) (want : Want) → AddsSpare (verdict_of S c seen want)
  verdict_adds c seen (OfSpareDisk d i) = unless_adds (activation_refusals S c seen d i)
      (EditsBook (ActivatesDisk (S.start.disks.serial d) i ∷ [])) tt
  verdict_adds c seen (OfAsk i) = at (slice_get S.asked.asks i) refl
    where
      at : (ask : Option Ask) → slice_get S.asked.asks i ≡ ask → AddsSpare (ask_verdict S c ask)
      at None is = tt
      at (Some (Add d)) is =
          unless_adds (add_refusals S c d) (WritesSpare d)
          (record { ask = i; adds = subst (AsksToAdd d) (sym is) refl })
      at (Some (Rename v name)) is = unless_adds (rename_refusals S c v name) (EditsBook (NamesVolume v name ∷ [])) tt
      at (Some (Remove d)) is =
          unless_adds (remove_refusals S c d) (EditsBook (RemovesDisk (S.start.disks.serial d) ∷ [])) tt

  apply_chain : (c : Control) (u : Update) (rest : List Update) (v : Verdict) → AddsSpare v
      → MayTakeUpdates S begun → Chain S begun First (apply_verdict S c u rest v)
  apply_chain c u rest (Refuses kind) adds may = ((refl, may), tt)
  apply_chain c u rest (EditsBook edits) adds may = ((refl, may), (tt, tt))
  apply_chain c u rest (WritesSpare d) adds may = ((refl, may), ((refl, adds), tt))

  update_chain : (c : Control) (target : Bool) (queue : List Update)
      → (target ≡ true → MayTakeUpdates S begun) → Chain S begun First (apply_if S c target queue)
  update_chain c true (u ∷ rest) may =
      apply_chain c u rest (verdict_of S c u.seen u.want) (verdict_adds c u.seen u.want) (may refl)
  update_chain c true [] may = tt
  update_chain c false queue may = tt

  -- THE MONITOR

  deed_chain : (c : Control) (deed : Deed) → (has_target S c.round ≡ true → MayTakeUpdates S begun)
      → Chain S begun First (rest_changes S c deed)
  deed_chain c Nothing may = update_chain c (has_target S c.round) c.manager.queue may
  deed_chain c (ReadiesVolume v) may = (tt, opened (S.start.words.pass c.round.book v))
    where
      opened : (kind : Option ℕ) → Chain S begun (BehindReady v) (opens_pass S c v kind)
      opened None = tt
      opened (Some kind) = (refl, tt)
  deed_chain c (LetsWrites v) may = (tt, tt)
  deed_chain c (UnblocksDisk d) may = (tt, tt)
  deed_chain c (CleansVolume v) may = (tt, tt)
  deed_chain c BeginsRound may = (tt, tt)

  called_chain : (c : Control) (went : Bool) (d : ℕ) (changes : List Change) → Chain S begun First changes
      → Chain S begun First (called S c went d changes)
  called_chain c true d changes chain = chain
  called_chain c false d changes chain = and_ended_chain c First (DiskFails d) tt tt

  monitor_chain : (c : Control) (x : Ended) (phase : Phase)
      → (has_target S c.round ≡ true → MayTakeUpdates S begun) → Chain S begun First (monitor_at S c x phase).changes
  monitor_chain c x Rest may = deed_chain c (deed_of S c) may
  monitor_chain c x (Going aim m step [] late done) may = tt
  monitor_chain c x (Going aim m step (d ∷ ds) late done) may =
      call_chain (may_call S c.round d) _ (called_chain c x.went d _ (and_ended_chain c First StepsOn tt tt))

  -- TAKEOVERS

  resumes_chain : (r : Round) (link : Link) (found : List ℕ) → IsSettled link
      → Chain S begun link (resumes S r found)
  resumes_chain r link [] settled = (settled, tt)
  resumes_chain r link (d ∷ ds) settled = at _
    where
      at : (b : Bool) → Chain S begun link (resume_if (best_of S r d ds) b ∷ [])
      at true = (settled, tt)
      at false = (settled, tt)

  and_resumed_chain : (c : Control) (a : Change) → Leans S begun First a → IsSettled (link_after First a)
      → Chain S begun First (and_resumed S c a)
  and_resumed_chain c a leans settled = (leans, at (put S a c).round.life)
    where
      at : (life : Life) → Chain S begun (link_after First a) (resumes_now S (put S a c).round life)
      at (Takes [] seen found) = resumes_chain (put S a c).round (link_after First a) found settled
      at (Takes (d ∷ ds) seen found) = settled
      at Lives = settled
      at Killed = settled
      at Dead = settled

  read_chain : (c : Control) (went : Bool) (d : ℕ) (ds : List ℕ) (seen : List Sector) (found : List ℕ)
      → Chain S begun First (read_changes S c went d ds seen found)
  read_chain c true d ds seen found = at (has_all S seen)
    where
      at : (b : Bool) → Chain S begun First
          (cond b (and_resumed S c (TakeoverReads ds [] (found_with S c.round d seen found)))
          (TakeoverReads (d ∷ ds) seen found ∷ []))
      at true = and_resumed_chain c (TakeoverReads ds [] (found_with S c.round d seen found)) tt tt
      at false = (tt, tt)
  read_chain c false d ds seen found = and_resumed_chain c (DiskFails d) tt tt

  taking_chain : (c : Control) (x : Ended) (left : List ℕ) (seen : List Sector) (found : List ℕ)
      → Chain S begun First (taking S c x left seen found).changes
  taking_chain c x [] seen found = resumes_chain c.round First found tt
  taking_chain c x (d ∷ ds) seen found =
      call_chain (may_call S c.round d) _ (read_chain c x.went d ds (seen ++ x.got ∷ []) found)

  pub living_chain : (c : Control) (x : Ended) (life : Life)
      → (life ≡ Lives → has_target S c.round ≡ true → MayTakeUpdates S begun)
      → Chain S begun First (living S c x life).changes
  living_chain c x Lives may = monitor_chain c x c.round.phase (may refl)
  living_chain c x (Takes left seen found) may = taking_chain c x left seen found
  living_chain c x Killed may = tt
  living_chain c x Dead may = tt

  -- THE MANAGER

  posts_chain : (c : Control) (want : Option Want) → Chain S begun First (posts S c want)
  posts_chain c None = tt
  posts_chain c (Some want) = (tt, tt)

  manages_chain : (c : Control) (returned : ℕ) → Chain S begun First (manages_by S c returned)
  manages_chain c zero = posts_chain c _
  manages_chain c (suc n) = (tt, tt)

  pub manager_chain : (c : Control) (b : Bool) → Chain S begun First (managing S c b).changes
  manager_chain c true = manages_chain c c.manager.returned
  manager_chain c false = tt

  -- PASSES

  pass_call_chain : (c : Control) (v : ℕ) (y : Volume) (p : Pass) (work : List Work) (x : Ended) (need : Need) (d : ℕ)
      (went : Bool) → Chain S begun First (pass_changes S c v y p work x need d went)
  pass_call_chain c v y p work x need d true = (tt, tt)
  pass_call_chain c v y p work x need d false =
      let failed = put S (DiskFails d) c in (
        tt,
        and_ended_chain failed Fresh (pass_moves v y need p.row
            (pass_without (shape_of S v) d y.slots (volume_at failed.volumes v).broken p)) tt tt,
      )

  pass_on_chain : (c : Control) (v : ℕ) (y : Volume) (p : Pass) (work : List Work) (x : Ended) (need : Need)
      (disk : Option ℕ) → Chain S begun First (pass_on S c v y p work x need disk).changes
  pass_on_chain c v y p work x need None = tt
  pass_on_chain c v y p work x need (Some d) =
      call_chain (may_call S c.round d) _ (pass_call_chain c v y p work x need d x.went)

  pass_meets_chain : (c : Control) (v : ℕ) (y : Volume) (p : Pass) (work : List Work) (x : Ended) (free : Bool)
      (need : Need) → Chain S begun First (pass_meets S c v y p work x free need).changes
  pass_meets_chain c v y p work x free NoNeed = at p.over
    where
      over : Turn
      over = quietly (PassMoves v y.slots (Some p) GoesOnQuietly ∷ [])

      at : (b : Bool) → Chain S begun First (cond {A = Turn} b over idle).changes
      at true = (tt, tt)
      at false = tt
  pass_meets_chain c v y p work x true (Reads s) = pass_on_chain c v y p work x (Reads s) (source_in y s)
  pass_meets_chain c v y p work x false (Reads s) = tt
  pass_meets_chain c v y p work x true (Writes s) = pass_on_chain c v y p work x (Writes s) (disk_in y.slots s)
  pass_meets_chain c v y p work x false (Writes s) = tt
  pass_meets_chain c v y p work x free (Syncs s) = pass_on_chain c v y p work x (Syncs s) (disk_in y.slots s)
  pass_meets_chain c v y p work x free (Answers answer) = tt

  pass_at_chain : (c : Control) (v : ℕ) (y : Volume) (x : Ended) (stops : Bool) (pass : Option Pass)
      → Chain S begun First (pass_at S c v y x stops pass).changes
  pass_at_chain c v y x stops None = tt
  pass_at_chain c v y x true (Some p) = tt
  pass_at_chain c v y x false (Some p) =
      let members = members_of c.round.faults c.round.blocked y.slots in
      let q = settled (shape_of S v) members p in
      let work = row_work (shape_of S v) members q.row in
      pass_meets_chain c v y q work x (is_free_row S c v q.row) (pass_need q work q.over q.syncing)

  pub sync_chain : (c : Control) (v : ℕ) (x : Ended) → Chain S begun First (synced S c v x).changes
  sync_chain c v x = pass_at_chain c v (volume_at c.volumes v) x _ (volume_at c.volumes v).pass

  -- TURNS WITHOUT A CALL

  pub quiet_chain : (c : Control) (v : ℕ) → Chain S begun First (quieted S c v).changes
  quiet_chain c v = at _
    where
      at : (b : Bool) → Chain S begun First (idle_if v b).changes
      at true = (tt, tt)
      at false = tt

  pub fail_chain : (c : Control) (d : ℕ) (may : Bool) → Chain S begun First (fails_if S c d may).changes
  fail_chain c d true = and_ended_chain c First (DiskFails d) tt tt
  fail_chain c d false = tt

  pub kill_chain : (life : Life) → Chain S begun First (kills life).changes
  kill_chain Lives = (tt, tt)
  kill_chain Killed = tt
  kill_chain (Takes left seen found) = (tt, tt)
  kill_chain Dead = tt

  pub takeover_chain : (left : List ℕ) (life : Life) → Chain S begun First (restarts left life).changes
  takeover_chain left Lives = tt
  takeover_chain left Killed = (tt, tt)
  takeover_chain left (Takes more seen found) = tt
  takeover_chain left Dead = tt
