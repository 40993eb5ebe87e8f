-- The turns of clients are paths: an operation is submitted, a job makes its next call, or it is answered.
use Rattle.std.proofs.Common.{◌≡◌, ℕ, zero, suc, ◌+◌, ◌<◌, ◌||◌, ◌&&◌, Bool, true, false, cond, List, [], ◌∷◌, refl, ap, sym, ◌∙◌, subst, arith, Option, Some, None, ◌⊎◌, inl, inr}
use Rattle.std.specs.Prelude.{⊤}
use Rattle.device_log.specs.Log.{What, Read, Sync}
use Rattle.array_model.specs.declared.script.OpKind.{OpKind}
use Rattle.array_model.specs.declared.script.OpKind.TheVariants.{Write as OpWrite, Read as OpRead, Whole as OpWhole}
use Rattle.array_model.specs.declared.journal.Answer.TheVariants.{Value}
use Rattle.array_model.specs.Script.{kind_at}
use Rattle.array_model.specs.Placement.{Placement}
use Rattle.array_disks.specs.Calls.{RowCall, row_read, row_write, row_sync, IsBeforeMetadata, call_on}
use Rattle.array_machine.specs.Setting.{Setting}
use Rattle.array_machine.specs.Volumes.{Member, Volume, volume_at, disk_in, has_disk, source_in}
use Rattle.array_machine.specs.Operations.{volume_in, volume_of, shape_of, place_at, place_or, the_place, place_on, is_write}
use Rattle.array_machine.specs.Clients.{Row, Job, NoJob, Submitted, Busy, Client, client_at, with_job}
use Rattle.array_machine.specs.RowJobs.{Need, NoNeed, Reads, Writes, Syncs, Answers, disks_begun, lost_row, lost_if, unread, plan_or, pair_of, read_or, after_reads, answer_if, any_blocked, xor_got}
use Rattle.array_machine.specs.Rounds.{Ended, stored_of, Round}
use Rattle.array_machine.specs.Changes.{DiskFails, ClientMoves, IsSilent, Change}
use Rattle.array_machine.specs.Faults.{round_without, volumes_without, volume_lost, breaks, job_without, clients_without}
use Rattle.array_machine.specs.Puts.{put}
use Rattle.array_machine.specs.Turns.{no_call}
use Rattle.array_machine.specs.ClientTurns.{the_volume, the_plan, members_now, row_tried, is_held, need_unless, job_changes, on_disk, meet, is_whole_now, is_without_spare, whole_answer, busy_kind, busy_unless, client_by}
use Rattle.array_machine.specs.Control.{Control}
use Rattle.array_paths.specs.InTurn.{InTurn, is_broken, job_of, left_of}
use Rattle.array_paths.specs.ClientMove.{fits_kind, NamesSector, Needs, LosesCall, loses, answers, fails, is_whole, has_no_spare, ClientCall, reads, writes, syncs}
use Rattle.array_paths.specs.Comes.{MayFail, Comes, client}
use Rattle.array_paths.specs.AtRows.{by_client, of_client}
use Rattle.array_paths.specs.Effects.{row, row_fails, Path, ends_here, goes_on}
use Rattle.array_paths.specs.Ready.{Ready, RowsInside}
use Rattle.array_paths.proofs.Tests.{PathOf, call_path}
use Rattle.array_paths.proofs.RoundPaths.{lone, lost_path}
use Rattle.array_paths.proofs.SubmitPaths.{next_path}

-- A JOB THAT LOSES A MEMBER

-- it has begun or not as before, and keeps what it wrote and synced, and the disks that it saw
record Keeps (r old : Row) : Type 0 where
  begun : old.begun ≡ r.begun
  written : old.written ≡ r.written
  synced : old.synced ≡ r.synced
  disks : old.disks ≡ r.disks

lost_if_keeps : (left : List ℕ) (r : Row) → Keeps r (lost_if left r)
lost_if_keeps [] r = record { begun = refl; written = refl; synced = refl; disks = refl }
lost_if_keeps (s ∷ ss) r = record { begun = refl; written = refl; synced = refl; disks = refl }

lost_keeps : (plan : Option (List ℕ)) (r : Row) → Keeps r (lost_row plan r)
lost_keeps None r = record { begun = refl; written = refl; synced = refl; disks = refl }
lost_keeps (Some plan) r = lost_if_keeps (unread plan r.got) r

-- by the failure alone
abbrev after_failure : Bool → Row → Row
after_failure has r = cond has (lost_row r.plan r) r

failure_keeps : (has : Bool) (r : Row) → Keeps r (after_failure has r)
failure_keeps true r = lost_keeps r.plan r
failure_keeps false r = record { begun = refl; written = refl; synced = refl; disks = refl }

-- what was read stays, or all is read again
kept_or_none : (left : List ℕ) (r tried : Row) → tried.got ≡ r.got
    → ((lost_if left tried).got ≡ r.got) ⊎ ((lost_if left tried).got ≡ [])
kept_or_none [] r tried same = inl same
kept_or_none (s ∷ ss) r tried same = inr refl

both_or_none : (left : List ℕ) (r tried : Row) → tried.got ≡ r.got
    → ((lost_if left tried).got ≡ (lost_if left r).got) ⊎ ((lost_if left tried).got ≡ [])
both_or_none [] r tried same = inl same
both_or_none (s ∷ ss) r tried same = inr refl

got_after : (has : Bool) (plan : Option (List ℕ)) (new : List ℕ) (r tried : Row) → tried.got ≡ r.got
    → ((lost_if (unread (plan_or plan new) r.got) tried).got ≡ (cond has (lost_row plan r) r).got)
    ⊎ ((lost_if (unread (plan_or plan new) r.got) tried).got ≡ [])
got_after false plan new r tried same = kept_or_none _ r tried same
got_after true None new r tried same = kept_or_none _ r tried same
got_after true (Some plan) new r tried same = both_or_none _ r tried same

-- a need that asks for a call
abbrev AsksCall : Need → Type 0
AsksCall NoNeed = ⊥
AsksCall (Reads s) = ⊤
AsksCall (Writes s) = ⊤
AsksCall (Syncs s) = ⊤
AsksCall (Answers answer) = ⊥

-- a read that asks for one has slots left to read
begins_anew : (S : Setting) (members : List Member) (pair left : List ℕ) (w : Bool) (r tried : Row) (need : Need)
    → AsksCall need → read_or left (after_reads S members pair w r) ≡ need
    → (w ≡ true) ⊎ (((lost_if left tried).plan ≡ None) × ((lost_if left tried).got ≡ []))
begins_anew S members pair left true r tried need asks is = inl refl
begins_anew S members pair (s ∷ ss) false r tried need asks is = inr (refl, refl)
begins_anew S members pair [] false r tried need asks is = absurd (at (any_blocked members pair) need asks is)
  where
    at : (held : Bool) → (need : Need) → AsksCall need → answer_if held (Value (xor_got S r.got)) ≡ need → ⊥
    at true (Reads s) asks is = cc
    at true (Writes s) asks is = cc
    at true (Syncs s) asks is = cc
    at true NoNeed asks is = asks
    at true (Answers answer) asks is = asks
    at false (Reads s) asks is = cc
    at false (Writes s) asks is = cc
    at false (Syncs s) asks is = cc
    at false NoNeed asks is = asks
    at false (Answers answer) asks is = asks

-- A FAILURE

-- slots keep their disks, clients what they haven't submitted
pub slots_kept : (S : Setting) (d : ℕ) (r : Round) (v : ℕ) (volumes : List Volume) (w : ℕ)
    → (volume_at (volumes_without S d r v volumes) w).slots ≡ (volume_at volumes w).slots
slots_kept S d r v [] w = refl
slots_kept S d r v (x ∷ xs) zero = at (x.started && has_disk d x.slots)
  where
    at : (b : Bool) → (cond b (volume_lost S d v (x.broken || breaks S r v x.slots) x) x).slots ≡ x.slots
    at true = refl
    at false = refl
slots_kept S d r v (x ∷ xs) (suc w) = slots_kept S d r (v + 1) xs w

left_kept : (S : Setting) (d : ℕ) (volumes : List Volume) (clients : List Client) (k : ℕ)
    → (client_at (clients_without S d volumes clients) k).left ≡ (client_at clients k).left
left_kept S d volumes [] k = refl
left_kept S d volumes (x ∷ xs) zero = refl
left_kept S d volumes (x ∷ xs) (suc k) = left_kept S d volumes xs k

pub job_kept : (S : Setting) (d : ℕ) (volumes : List Volume) (clients : List Client) (k : ℕ)
    → (client_at (clients_without S d volumes clients) k).job ≡ job_without S d volumes (client_at clients k).job
job_kept S d volumes [] k = refl
job_kept S d volumes (x ∷ xs) zero = refl
job_kept S d volumes (x ∷ xs) (suc k) = job_kept S d volumes xs k

-- JOBS

-- of a write, once it is known whether it went through
pub stored_all : (x : Ended) → x.went ≡ true → stored_of x 1 ≡ 1
stored_all x went = rw went refl

module _ (S : Setting) (t : InTurn) (inside : RowsInside S) (ready : Ready S t.before) (k i : ℕ) (r : Row)
    (busy : job_of t.before k ≡ Busy i r) (x : Ended) where
  abbrev left : List ℕ
  left = left_of t.before k

  abbrev tried_row : Row
  tried_row = row_tried S t.before i r

  abbrev lost : Row
  lost = lost_row tried_row.plan tried_row

  row_inside : NamesSector (kind_at S.asked.ops i) → (the_place S i).row < (shape_of S (volume_of S i)).rows
  row_inside names = at (place_at S i) refl (kind_at S.asked.ops i) names (ready.jobs k i r busy)
    where
      at : (place : Option Placement) → place_at S i ≡ place → (kind : Option OpKind) → NamesSector kind
          → fits_kind place kind ≡ true → (place_or place).row < (shape_of S (volume_of S i)).rows
      at (Some p) is kind names fits = inside i p is
      at None is None names fits = absurd cc
      at None is (Some (OpWrite w s value)) names fits = absurd cc
      at None is (Some (OpRead w s)) names fits = absurd cc
      at None is (Some (OpWhole w)) names fits = absurd names

  abbrev BeginsAnew : Type 0
  BeginsAnew = (is_write S i ≡ true) ⊎ ((lost.plan ≡ None) × (lost.got ≡ []))

  anew : (need : Need) → AsksCall need → need_unless S t.before i r false ≡ need → BeginsAnew
  anew need asks is =
      begins_anew S (members_now S t.before i r) (pair_of (the_place S i)) _ (is_write S i) r tried_row need asks is

  loses_call : (d : ℕ) (has : Bool) → BeginsAnew
      → LosesCall S (put S (DiskFails d) t.before) i (after_failure has r) lost
  loses_call d has again =
      let failed : Control = put S (DiskFails d) t.before in
      let old = failure_keeps has r in
      let new = lost_keeps tried_row.plan tried_row in
      let slots = slots_kept S d (round_without S d t.before.round) 0 t.before.volumes (volume_of S i) in
      record {
        begun = new.begun;
        written = new.written ∙ sym old.written;
        synced = new.synced ∙ sym old.synced;
        got = got_after has r.plan (the_plan S t.before i r) r tried_row refl;
        again = again;
        disks = new.disks ∙ ap (disks_begun r.begun r.disks) (sym slots)
            ∙ ap (λ b. disks_begun b r.disks (the_volume S failed i).slots) (sym old.begun)
            ∙ ap (λ ds. disks_begun (after_failure has r).begun ds (the_volume S failed i).slots) (sym old.disks);
      }

  loses_comes : (d : ℕ) → BeginsAnew
      → Comes S t (put S (DiskFails d) t.before) (ClientMoves k (with_job left (Busy i lost)) IsSilent)
  loses_comes d again =
      let has = has_disk d (the_volume S t.before i).slots in
      client k _ _
      (loses i (after_failure has r) lost left (left_kept S d t.before.volumes t.before.clients k)
      (job_kept S d t.before.volumes t.before.clients k ∙ ap (job_without S d t.before.volumes) busy)
      (loses_call d has again))

  -- a call of the job on disk d, which so ends
  job_call : (need : Need) → BeginsAnew → (d : ℕ) (what : ℕ → What) → ((n : ℕ) → ClientCall S t.before k d i r need (what n) n)
      → ((n : ℕ) → RowCall (S.start.disks.sectors d) (what n)) → MayFail S t.before d
      → (went : Bool) → x.went ≡ went
      → Path S t t.before (Some (call_on d (what (stored_of x 1)) went)) x
      (job_changes S t.before k left i tried_row x need d went)
  job_call need again d what call rows may true went =
      let changes : List Change = job_changes S t.before k left i tried_row x need d true in
      subst (λ n. Path S t t.before (Some (call_on d (what n) true)) x changes)
      (sym (stored_all x went))
      (goes_on (row d (what 1) x _ may (rows 1) went (by_client k i r need (what 1) x (call 1))) (ends_here x))
  job_call need again d what call rows may false went =
      let n = stored_of x 1 in
      lost_path S t (Some (call_on d (what n) false)) x d (ClientMoves k (with_job left (Busy i lost)) IsSilent)
      (row_fails d (what n) x may (rows n) went (of_client k i r need (what n) n (call n))) (loses_comes d again) refl

  module _ (sound : is_broken t.before (volume_of S i) ≡ false) (free : is_held S t.before k i ≡ false)
      (names : NamesSector (kind_at S.asked.ops i)) where
    needs : (need : Need) → need_unless S t.before i r false ≡ need → Needs S t.before k i r need
    needs need is = record { has = busy; sound = sound; free = free; names = names; is = is }

    -- its volume has room for its row before the metadata
    room : (s d : ℕ) → disk_in (the_volume S t.before i).slots s ≡ Some d
        → IsBeforeMetadata (S.start.disks.sectors d) (place_on S i) 1
    room s d is =
        let all = ready.room (volume_of S i) s d sound is in
        let below = row_inside names in
        omega (arith, all, below)

    need_path : (need : Need) → need_unless S t.before i r false ≡ need
        → PathOf S t t.before (meet S t.before k left i r x need)
    need_path NoNeed is = ends_here no_call
    need_path (Answers answer) is =
        lone S t t.before no_call _ (client k _ _ (answers i r answer left refl (needs (Answers answer) is)))
    need_path (Reads s) is = at (source_in (the_volume S t.before i) s) refl
      where
        at : (disk : Option ℕ) → source_in (the_volume S t.before i) s ≡ disk
            → PathOf S t t.before (on_disk S t.before k left i tried_row x (Reads s) disk)
        at None on = ends_here no_call
        at (Some d) on =
            call_path S t t.before d _
            (λ may. job_call (Reads s) (anew (Reads s) tt is) d (λ n. Read (place_on S i)) (λ n. reads i r s n (needs (Reads s) is) on)
            (λ n. row_read (place_on S i)) may x.went refl)
    need_path (Writes s) is = at (disk_in (the_volume S t.before i).slots s) refl
      where
        at : (disk : Option ℕ) → disk_in (the_volume S t.before i).slots s ≡ disk
            → PathOf S t t.before (on_disk S t.before k left i tried_row x (Writes s) disk)
        at None on = ends_here no_call
        at (Some d) on =
            call_path S t t.before d _
            (λ may. job_call (Writes s) (anew (Writes s) tt is) d _ (λ n. writes i r s n (needs (Writes s) is) on)
            (λ n. row_write (place_on S i) _ n (room s d on)) may x.went refl)
    need_path (Syncs s) is = at (disk_in (the_volume S t.before i).slots s) refl
      where
        at : (disk : Option ℕ) → disk_in (the_volume S t.before i).slots s ≡ disk
            → PathOf S t t.before (on_disk S t.before k left i tried_row x (Syncs s) disk)
        at None on = ends_here no_call
        at (Some d) on =
            call_path S t t.before d _
            (λ may. job_call (Syncs s) (anew (Syncs s) tt is) d (λ n. Sync) (λ n. syncs i r s n (needs (Syncs s) is) on) (λ n. row_sync) may
            x.went refl)

  held_path : is_broken t.before (volume_of S i) ≡ false → NamesSector (kind_at S.asked.ops i) → (held : Bool)
      → is_held S t.before k i ≡ held
      → PathOf S t t.before (meet S t.before k left i r x (need_unless S t.before i r held))
  held_path sound names true is = ends_here no_call
  held_path sound names false is = need_path sound is names _ refl

  -- WHOLE

  whole_path : (w : ℕ) → volume_of S i ≡ w → kind_at S.asked.ops i ≡ Some (OpWhole (record { 0 = w }))
      → is_broken t.before (volume_of S i) ≡ false
      → PathOf S t t.before (whole_answer k left i (is_whole_now S t.before w) (is_without_spare S t.before w))
  whole_path w same kind sound = at _ _ refl refl
    where
      asked : kind_at S.asked.ops i ≡ Some (OpWhole (record { 0 = volume_of S i }))
      asked = kind ∙ ap (λ n. Some (OpWhole (record { 0 = n }))) (sym same)

      at : (whole lacks : Bool) → is_whole_now S t.before w ≡ whole → is_without_spare S t.before w ≡ lacks
          → PathOf S t t.before (whole_answer k left i whole lacks)
      at true b whole lacks =
          lone S t t.before no_call _
          (client k _ _ (is_whole i r left refl busy asked sound (ap (is_whole_now S t.before) same ∙ whole)))
      at false true whole lacks =
          lone S t t.before no_call _
          (client k _ _
          (has_no_spare i r left refl busy asked sound (ap (is_whole_now S t.before) same ∙ whole)
          (ap (is_without_spare S t.before) same ∙ lacks)))
      at false false whole lacks = ends_here no_call

  busy_path : (broken : Bool) → is_broken t.before (volume_of S i) ≡ broken
      → PathOf S t t.before (busy_unless S t.before k left i r x broken)
  busy_path true broken = lone S t t.before no_call _ (client k _ _ (fails i r left refl busy broken))
  busy_path false sound = at (kind_at S.asked.ops i) refl
    where
      at : (kind : Option OpKind) → kind_at S.asked.ops i ≡ kind
          → PathOf S t t.before (busy_kind S t.before k left i r x kind)
      at None is = ends_here no_call
      at (Some (OpWrite w s value)) is = held_path sound (rw is tt) _ refl
      at (Some (OpRead w s)) is = held_path sound (rw is tt) _ refl
      at (Some (OpWhole w)) is = whole_path w.0 (ap volume_in is) is sound

-- THE TURN

pub client_path : (S : Setting) (t : InTurn) → RowsInside S → Ready S t.before → (k : ℕ) (x : Ended)
    → PathOf S t t.before (client_by S t.before k x (left_of t.before k) (job_of t.before k))
client_path S t inside ready k x = at (job_of t.before k) refl
  where
    at : (job : Job) → job_of t.before k ≡ job → PathOf S t t.before (client_by S t.before k x (left_of t.before k) job)
    at NoJob free = next_path S t t.before k free _ refl
    at (Submitted i) is = ends_here no_call
    at (Busy i r) busy = busy_path S t inside ready k i r busy x _ refl
