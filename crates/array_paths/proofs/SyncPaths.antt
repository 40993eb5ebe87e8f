-- The turns of sync workers are paths: a pass makes its next call, or has come to its end without one.
use Rattle.std.proofs.Common.{◌≡◌, ℕ, ◌<◌, ◌||◌, not, nat_lt, Bool, true, false, cond, [], ◌∷◌, refl, sym, subst, arith, Option, Some, None, List}
use Rattle.std.specs.List.{list_any}
use Rattle.std.specs.Option.{option_map_or}
use Rattle.std.proofs.lemmas.Bool.Decides.{nat_tests}
use Rattle.std.proofs.lemmas.Bool.{and_parts, or_parts}
use Rattle.units.specs.declared.bounds.TheConstants.{CLIENTS}
use Rattle.device_log.specs.Log.{What, Read, Sync}
use Rattle.array_disks.specs.Calls.{RowCall, row_read, row_write, row_sync, IsBeforeMetadata, call_on}
use Rattle.array_machine.specs.Setting.{Setting}
use Rattle.array_machine.specs.Volumes.{Volume, volume_at, disk_in, source_in, Pass, Slot}
use Rattle.array_machine.specs.Operations.{shape_of}
use Rattle.array_machine.specs.RowJobs.{Need, NoNeed, Reads, Writes, Syncs, Answers}
use Rattle.array_machine.specs.Locks.{locked_from}
use Rattle.array_machine.specs.Rounds.{Ended, stored_of}
use Rattle.array_machine.specs.Control.{Control}
use Rattle.array_machine.specs.Changes.{DiskFails, PassMoves, GoesOnQuietly, Change}
use Rattle.array_machine.specs.Faults.{round_without, pass_without}
use Rattle.array_machine.specs.Puts.{put}
use Rattle.array_machine.specs.Turns.{no_call, quietly, idle}
use Rattle.array_machine.specs.RoundEnds.{and_ended}
use Rattle.array_machine.specs.SyncTurns.{settled, locked_by, pass_need, row_place, pass_changes, pass_on, pass_meets, is_free_row, pass_at, synced}
use Rattle.array_paths.specs.InTurn.{InTurn, is_broken}
use Rattle.array_paths.specs.PassMove.{slots_of, members_at, work_at, GoesOn, PassNeeds, PassCall, reads, writes, syncs, pass_lost, comes_to_its_end, loses}
use Rattle.array_paths.specs.Comes.{MayFail, pass}
use Rattle.array_paths.specs.AtRows.{by_pass, of_pass}
use Rattle.array_paths.specs.Effects.{Path, row, row_fails, ends_here, goes_on}
use Rattle.array_paths.specs.Ready.{Ready}
use Rattle.array_paths.proofs.Tests.{PathOf, call_path}
use Rattle.array_paths.proofs.RoundPaths.{lone, lost_path}
use Rattle.array_paths.proofs.ClientPaths.{slots_kept, stored_all}

module _ (S : Setting) (t : InTurn) (ready : Ready S t.before) (v : ℕ) (x : Ended) where
  abbrev y : Volume
  y = volume_at t.before.volumes v

  module _ (p : Pass) (on : GoesOn S t.before v p) where
    needs : (need : Need) → pass_need p (work_at S t.before v p.row) p.over p.syncing ≡ need
        → PassNeeds S t.before v p need
    needs need is = record { goes_on = on; is = is }

    -- a call of the pass on disk d, which so ends
    pass_call : (need : Need) (d : ℕ) (what : ℕ → What) → ((n : ℕ) → PassCall S t.before v d p need (what n) n)
        → ((n : ℕ) → RowCall (S.start.disks.sectors d) (what n)) → MayFail S t.before d → (went : Bool)
        → x.went ≡ went
        → Path S t t.before (Some (call_on d (what (stored_of x 1)) went)) x
        (pass_changes S t.before v y p (work_at S t.before v p.row) x need d went)
    pass_call need d what call rows may true went =
        let changes : List Change = pass_changes S t.before v y p (work_at S t.before v p.row) x need d true in
        subst (λ n. Path S t t.before (Some (call_on d (what n) true)) x changes)
        (sym (stored_all x went))
        (goes_on (row d (what 1) x _ may (rows 1) went (by_pass v p need (what 1) x (call 1))) (ends_here x))
    pass_call need d what call rows may false went =
        let n = stored_of x 1 in
        let failed : Control = put S (DiskFails d) t.before in
        let same : slots_of failed v ≡ y.slots =
        slots_kept S d (round_without S d t.before.round) 0 t.before.volumes v in
        let lost : List Slot → Change = λ slots.
        PassMoves v slots
        (Some (locked_by need p.row (pass_without (shape_of S v) d slots (is_broken failed v) p))) GoesOnQuietly in
        subst
        (λ slots. Path S t t.before (Some (call_on d (what n) false)) x (DiskFails d ∷ and_ended S failed (lost slots)))
        same
        (lost_path S t (Some (call_on d (what n) false)) x d
        (PassMoves v (slots_of failed v) (Some (pass_lost S failed v d p need)) GoesOnQuietly)
        (row_fails d (what n) x may (rows n) went (of_pass v p need (what n) n (call n)))
        (pass v _ _ _ (loses d p need (what n) n (call n) refl)) refl)

    -- its volume has room for its row before the metadata
    room : (s d : ℕ) → disk_in y.slots s ≡ Some d → is_free_row S t.before v p.row ≡ true
        → IsBeforeMetadata (S.start.disks.sectors d) (row_place S v p.row) 1
    room s d is free =
        let all = ready.room v s d on.sound is in
        let within = nat_lt p.row (shape_of S v).rows in
        let lt = (and_parts within (not (locked_from S v p.row CLIENTS 0 t.before.clients)) free).0 in
        let below : p.row < (shape_of S v).rows = grind (arith, nat_tests, lt) in
        omega (arith, all, below)

    -- it has come to its end, or needs nothing
    over_path : (over : Bool) → p.over ≡ over
        → PathOf S t t.before (cond over (quietly (PassMoves v y.slots (Some p) GoesOnQuietly ∷ [])) idle)
    over_path true is = lone S t t.before no_call _ (pass v _ _ _ (comes_to_its_end p on is))
    over_path false is = ends_here no_call

    need_path : (free : Bool) → is_free_row S t.before v p.row ≡ free → (need : Need)
        → pass_need p (work_at S t.before v p.row) p.over p.syncing ≡ need
        → PathOf S t t.before (pass_meets S t.before v y p (work_at S t.before v p.row) x free need)
    need_path free f NoNeed is = over_path p.over refl
    need_path free f (Answers answer) is = ends_here no_call
    need_path false f (Reads s) is = ends_here no_call
    need_path false f (Writes s) is = ends_here no_call
    need_path true f (Reads s) is = at (source_in y s) refl
      where
        at : (disk : Option ℕ) → source_in y s ≡ disk
            → PathOf S t t.before (pass_on S t.before v y p (work_at S t.before v p.row) x (Reads s) disk)
        at None there = ends_here no_call
        at (Some d) there =
            call_path S t t.before d _
            (λ may. pass_call (Reads s) d (λ n. Read (row_place S v p.row))
            (λ n. reads p s n (needs (Reads s) is) f there) (λ n. row_read _) may x.went refl)
    need_path true f (Writes s) is = at (disk_in y.slots s) refl
      where
        at : (disk : Option ℕ) → disk_in y.slots s ≡ disk
            → PathOf S t t.before (pass_on S t.before v y p (work_at S t.before v p.row) x (Writes s) disk)
        at None there = ends_here no_call
        at (Some d) there =
            call_path S t t.before d _
            (λ may. pass_call (Writes s) d _ (λ n. writes p s n (needs (Writes s) is) f there)
            (λ n. row_write _ _ n (room s d there f)) may x.went refl)
    need_path free f (Syncs s) is = at (disk_in y.slots s) refl
      where
        at : (disk : Option ℕ) → disk_in y.slots s ≡ disk
            → PathOf S t t.before (pass_on S t.before v y p (work_at S t.before v p.row) x (Syncs s) disk)
        at None there = ends_here no_call
        at (Some d) there =
            call_path S t t.before d _
            (λ may. pass_call (Syncs s) d (λ n. Sync) (λ n. syncs p s n (needs (Syncs s) is) there) (λ n. row_sync) may
            x.went refl)

  abbrev stops : Option Pass → Bool
  stops had =
      y.broken || option_map_or (λ p. p.over) had false || list_any (λ m. m.blocked) (members_at t.before v)

  -- a pass that nothing stops goes on
  goes_on_now : (had : Pass) → y.pass ≡ Some had → stops (Some had) ≡ false
      → GoesOn S t.before v (settled (shape_of S v) (members_at t.before v) had)
  goes_on_now had is free =
      let last = or_parts (y.broken || had.over) (list_any (λ m. m.blocked) (members_at t.before v)) free in
      let first = or_parts y.broken had.over last.0 in
      record { had = had; is = is; going = first.1; sound = first.0; unblocked = last.1; settles = refl }

  at_path : (had : Option Pass) → y.pass ≡ had → (stop : Bool) → stops had ≡ stop
      → PathOf S t t.before (pass_at S t.before v y x stop had)
  at_path None is stop s = ends_here no_call
  at_path (Some had) is true s = ends_here no_call
  at_path (Some had) is false s = need_path _ (goes_on_now had is s) _ refl _ refl

  pub sync_path : PathOf S t t.before (synced S t.before v x)
  sync_path = at_path y.pass refl _ refl
