-- The rows where a pass lost its call in this turn: it begins its row again, or leaves a sync out.
use Rattle.std.proofs.Common.{◌≡◌, ℕ, ◌≤◌, ◌==◌, Bool, true, false, List, [], ◌++◌, refl, ap, sym, ◌∙◌, subst, arith, Some, ◌⊎◌, inl, inr, cond}
use Rattle.std.proofs.lemmas.Bool.Decides.{nat_tests}
use Rattle.device_log.specs.Log.{Call, What}
use Rattle.array_model.specs.declared.journal.Entry.{Entry}
use Rattle.array_machine.specs.Setting.{Setting}
use Rattle.array_machine.specs.Numbers.{has}
use Rattle.array_machine.specs.Volumes.{Slot, slot_at, disk_in, Member, Pass}
use Rattle.array_machine.specs.Operations.{shape_of}
use Rattle.array_machine.specs.RowJobs.{Need, NoNeed, Reads, Writes, Syncs, Answers}
use Rattle.array_machine.specs.Faults.{pass_without}
use Rattle.array_machine.specs.Control.{Control}
use Rattle.array_machine.specs.Changes.{DiskFails, PassMoves, GoesOnQuietly, pass_entry}
use Rattle.array_machine.specs.Puts.{put}
use Rattle.array_machine.specs.SyncTurns.{with_lock, locked_by}
use Rattle.array_machine.specs.Machine.{entered}
use Rattle.array_paths.specs.InTurn.{InTurn, is_broken}
use Rattle.array_paths.specs.PassMove.{slots_of, members_at, GoesOn, PassCall, reads, writes, syncs, pass_lost}
use Rattle.array_paths.specs.Ready.{RowsInside}
use Rattle.array_values.proofs.Rows.{pass_of, disk_of, Counts, RowsHold}
use Rattle.array_values.proofs.Stays.{PassStays}
use Rattle.array_values.proofs.Fails.{without_stays, fails_at}
use Rattle.array_values.proofs.Pairs.{usable_is, usable_by, working_by}
use Rattle.array_values.proofs.Needs.{or_none}
use Rattle.array_values.proofs.Settled.{StaysInRow, GoesPast, settled_goes}
use Rattle.array_values.proofs.Ground.{Ground}
use Rattle.array_values.proofs.PassRows.{NewPass, IsToCount}
use Rattle.array_values.proofs.PassFits.{empty_pass, like_pass, had_pass, Sees, settled_counts}
use Rattle.array_values.proofs.PassMoves.{PassesAreTold, same_runs, quiet_move}

-- LOCKS

-- a pass that takes the lock of its row, or not
pub record LocksRow (p q : Pass) : Type 0 where
  pub row : q.row ≡ p.row
  pub got : q.got ≡ p.got
  pub written : q.written ≡ p.written
  pub over : q.over ≡ p.over
  pub lock : (q.lock ≡ p.lock) ⊎ (q.lock ≡ Some q.row)

lock_is : (row : ℕ) (p : Pass) → LocksRow p (with_lock row p)
lock_is row p = at (p.row == row) refl
  where
    at : (b : Bool) → (p.row == row) ≡ b → LocksRow p (cond b (record p { lock = Some row }) p)
    at true is = record {
      row = refl;
      got = refl;
      written = refl;
      over = refl;
      lock = inr (let same : row ≡ p.row = grind (arith, nat_tests, is) in ap (λ r. Some r) same);
    }
    at false is = record { row = refl; got = refl; written = refl; over = refl; lock = inl refl }

pub locked_is : (need : Need) (row : ℕ) (p : Pass) → LocksRow p (locked_by need row p)
locked_is (Reads s) row p = lock_is row p
locked_is (Writes s) row p = lock_is row p
locked_is (Syncs s) row p = record { row = refl; got = refl; written = refl; over = refl; lock = inl refl }
locked_is NoNeed row p = record { row = refl; got = refl; written = refl; over = refl; lock = inl refl }
locked_is (Answers answer) row p = record { row = refl; got = refl; written = refl; over = refl; lock = inl refl }

module _ (S : Setting) where
  goes_of : (c : Control) (v d : ℕ) (p : Pass) (need : Need) (what : What) (stored : ℕ)
      → PassCall S c v d p need what stored → GoesOn S c v p
  goes_of c v d _ _ _ _ (reads p s stored needs free on) = needs.goes_on
  goes_of c v d _ _ _ _ (writes p s stored needs free on) = needs.goes_on
  goes_of c v d _ _ _ _ (syncs p s stored needs on) = needs.goes_on

  -- behind the failure of a disk
  record FailedFrom (old c : Control) (v : ℕ) : Type 0 where
    faults : (e : ℕ) → has e c.round.faults ≡ false → has e old.round.faults ≡ false
    slots : slots_of c v ≡ slots_of old v
    pass : (q : Pass) → pass_of c v ≡ Some q → (p : Pass) × (pass_of old v ≡ Some p) × PassStays S v p q
    still : (p : Pass) → pass_of old v ≡ Some p → (q : Pass) × (pass_of c v ≡ Some q)

  failed_from : (old c : Control) (d v : ℕ) → c ≡ put S (DiskFails d) old → FailedFrom old c v
  failed_from old c d v is = subst (λ z. FailedFrom old z v) (sym is) (record {
    faults = λ e h. (or_none (d == e) (has e old.round.faults) h).1;
    slots = (fails_at S old d v).slots;
    pass = (fails_at S old d v).pass;
    still = (fails_at S old d v).pass_still;
  })

  module _ (inside : RowsInside S) (t : InTurn) (c : Control) (log : List Call) (journal : List Entry) (n : ℕ)
      (rows : RowsHold S c log journal) (g : Ground S c) (told : PassesAreTold S t c log journal) (v d : ℕ)
      (p : Pass) (need : Need) (what : What) (stored : ℕ) (call : PassCall S t.before v d p need what stored)
      (is : c ≡ put S (DiskFails d) t.before) where
    from : FailedFrom t.before c v
    from = failed_from t.before c d v is

    goes : GoesOn S t.before v p
    goes = goes_of t.before v d p need what stored call

    abbrev ms : List Member
    ms = members_at t.before v

    abbrev lost : Pass
    lost = pass_lost S c v d p need

    go : StaysInRow (shape_of S v) ms goes.had p ⊎ GoesPast (shape_of S v) ms goes.had p
    go = subst (λ q. StaysInRow (shape_of S v) ms goes.had q ⊎ GoesPast (shape_of S v) ms goes.had q)
        (sym goes.settles) (settled_goes (shape_of S v) ms goes.had)

    found : (q : Pass) × (pass_of c v ≡ Some q)
    found = from.still goes.had goes.is

    abbrev now : Pass
    now = found.0

    now_is : pass_of c v ≡ Some found.0
    now_is = found.1

    kept : PassStays S v goes.had now
    kept = let old = from.pass now now_is in
        let same : old.0 ≡ goes.had = cc (sym old.1 ∙ goes.is) in subst (λ q. PassStays S v q now) same old.2

    without : PassStays S v p (pass_without (shape_of S v) d (slots_of c v) (is_broken c v) p)
    without = without_stays S v d (slots_of c v) (is_broken c v) p

    locks : LocksRow (pass_without (shape_of S v) d (slots_of c v) (is_broken c v) p) lost
    locks = locked_is need p.row (pass_without (shape_of S v) d (slots_of c v) (is_broken c v) p)

    row_is : lost.row ≡ p.row
    row_is = locks.row ∙ without.row

    sees : Sees S c log journal rows v ms
    sees = record {
      works = λ s e disk sane.
          working_by t.before.round.faults t.before.round.blocked (slots_of t.before v) s e (old_disk s e disk) (from.faults e sane);
      usable = λ s e disk sane sync.
          usable_by t.before.round.faults t.before.round.blocked (slots_of t.before v) s e (old_disk s e disk) (from.faults e sane)
          (ap (λ (x : List Slot). (slot_at x s).in_sync) (sym from.slots) ∙ sync);
      in_sync = λ s h.
          ap (λ (x : List Slot). (slot_at x s).in_sync) from.slots
          ∙ (usable_is t.before.round.faults t.before.round.blocked (slots_of t.before v) s h).3;
    }
      where
        old_disk : (s e : ℕ) → disk_of c v s ≡ Some e → disk_of t.before v s ≡ Some e
        old_disk s e disk = ap (λ (x : List Slot). disk_in x s) (sym from.slots) ∙ disk

    counts : (i s e : ℕ) → IsToCount S c v (slots_of c v) (Some lost) i s e → Counts S c i s e
    counts = settled_counts S c log journal rows v inside g ms sees now goes.had p lost now_is (sym kept.row) go row_is

    over : lost.over ≡ true → (shape_of S v).rows ≤ lost.row
    over h = subst (λ r. (shape_of S v).rows ≤ r) (sym row_is) (by go (without.over (sym locks.over ∙ h)))
      where
        stays_over : StaysInRow (shape_of S v) ms goes.had p → (goes.had.over ≡ true) ⊎ ((shape_of S v).rows ≤ goes.had.row)
            → (shape_of S v).rows ≤ p.row
        stays_over stays (inl h) = absurd (let going = goes.going in cc (h, going))
        stays_over stays (inr le) = subst (λ r. (shape_of S v).rows ≤ r) (sym stays.row) le

        by : StaysInRow (shape_of S v) ms goes.had p ⊎ GoesPast (shape_of S v) ms goes.had p
            → (p.over ≡ true) ⊎ ((shape_of S v).rows ≤ p.row) → (shape_of S v).rows ≤ p.row
        by way (inr le) = le
        by (inl stays) (inl h) = stays_over stays (stays.over h)
        by (inr past) (inl h) = past.over h

    empty : lost.got ≡ [] → lost.written ≡ [] → NewPass S (slots_of c v) c.round.faults log journal v lost
    empty got written = empty_pass S (slots_of c v) c.round.faults log journal v lost got written over

    -- in a row it reads and writes again
    in_row : p.syncing ≡ false → NewPass S (slots_of c v) c.round.faults log journal v lost
    in_row none = empty (locks.got ∙ again.0) (locks.written ∙ again.1)
      where
        again : ((pass_without (shape_of S v) d (slots_of c v) (is_broken c v) p).got ≡ [])
            × ((pass_without (shape_of S v) d (slots_of c v) (is_broken c v) p).written ≡ [])
        again = rw none (refl, refl)

    at_syncs : p.syncing ≡ true → is_broken c v ≡ false → NewPass S (slots_of c v) c.round.faults log journal v lost
    at_syncs syncing sound = by go
      where
        same : ((pass_without (shape_of S v) d (slots_of c v) (is_broken c v) p).got ≡ p.got)
            × ((pass_without (shape_of S v) d (slots_of c v) (is_broken c v) p).written ≡ p.written)
        same = without.at_checkpoint syncing

        by : StaysInRow (shape_of S v) ms goes.had p ⊎ GoesPast (shape_of S v) ms goes.had p
            → NewPass S (slots_of c v) c.round.faults log journal v lost
        by (inr past) = empty (locks.got ∙ same.0 ∙ past.got) (locks.written ∙ same.1 ∙ past.written)
        by (inl stays) =
            let had = kept.at_checkpoint (stays.syncing syncing) in
            like_pass S (slots_of c v) c.round.faults log journal v now lost
            (had_pass S c log journal rows v now (rows.passes v now sound now_is))
            (row_is ∙ stays.row ∙ sym kept.row)
            (locks.got ∙ same.0 ∙ stays.got ∙ sym had.0)
            (locks.written ∙ same.1 ∙ stays.written ∙ sym had.1)
            (lock locks.lock) over
          where
            lock : (lost.lock ≡ (pass_without (shape_of S v) d (slots_of c v) (is_broken c v) p).lock) ⊎ (lost.lock ≡ Some lost.row)
                → (lost.lock ≡ now.lock) ⊎ (lost.lock ≡ Some lost.row)
            lock (inl is) = inl (is ∙ without.lock ∙ stays.lock ∙ sym kept.lock)
            lock (inr own) = inr own

    fits : is_broken c v ≡ false → NewPass S (slots_of c v) c.round.faults log journal v lost
    fits sound = by p.syncing refl
      where
        by : (b : Bool) → p.syncing ≡ b → NewPass S (slots_of c v) c.round.faults log journal v lost
        by true is = at_syncs is sound
        by false is = in_row is

    pub loses_keeps : RowsHold S (put S (PassMoves v (slots_of c v) (Some lost) GoesOnQuietly) c) log
        (journal ++ entered n (pass_entry v GoesOnQuietly))
    loses_keeps =
        quiet_move S inside t c log journal n rows g told v (slots_of c v) (Some lost) GoesOnQuietly
        (λ i s e h. inl (counts i s e h))
        (λ q e sound. let one : lost ≡ q = cc e in subst (NewPass S (slots_of c v) c.round.faults log journal v) one (fits sound))
        (same_runs S inside t c log journal n rows g told v)
