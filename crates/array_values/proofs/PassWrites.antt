-- The rows behind a write of a pass: the other slot has the content, and behind the last write of its row the pass is
-- past it.
use Rattle.std.proofs.Common.{◌≡◌, ℕ, ◌+◌, ◌<◌, ◌==◌, ◌||◌, nat_lt, Bool, true, false, List, [], ◌∷◌, ◌++◌, refl, ap, sym, ◌∙◌, subst, arith, Some, None, ◌⊎◌, inl, inr, cond}
use Rattle.std.proofs.lemmas.Bool.Decides.{nat_tests}
use Rattle.units.specs.declared.disk.Sector.{Sector}
use Rattle.device_log.specs.Log.{Call, What, Write}
use Rattle.array_model.specs.declared.journal.Entry.{Entry}
use Rattle.array_disks.specs.Calls.{call_on}
use Rattle.array_machine.specs.Setting.{Setting}
use Rattle.array_machine.specs.Numbers.{has}
use Rattle.array_machine.specs.Volumes.{slot_at, Member, member_at, is_usable, Got, Pass}
use Rattle.array_machine.specs.Operations.{volume_of, shape_of, the_place}
use Rattle.array_machine.specs.RowJobs.{Writes, got_slots, xor_got}
use Rattle.array_machine.specs.Rounds.{Ended}
use Rattle.array_machine.specs.Control.{Control}
use Rattle.array_machine.specs.Changes.{PassMoves, GoesOnQuietly}
use Rattle.array_machine.specs.Puts.{put}
use Rattle.array_machine.specs.SyncTurns.{Work, work_by, new_sector, with_slot, all_written, next_row, moves_to, need_sets, locked_by, row_place, is_free_row}
use Rattle.array_machine.specs.Machine.{log_after, entered}
use Rattle.array_paths.specs.InTurn.{is_broken}
use Rattle.array_paths.specs.PassMove.{slots_of, members_at, work_at, GoesOn, PassNeeds, pass_after}
use Rattle.array_paths.specs.Ready.{RowsInside}
use Rattle.array_values.specs.Copies.{row_at, IsCopied, InPair}
use Rattle.array_values.proofs.Cells.{brings}
use Rattle.array_values.proofs.Journal.{submitted_stays}
use Rattle.array_values.proofs.Rows.{disk_of, read_of, IsPast, content_at, is_unsure_at, IsSure, stood, Counts, Tells, ReadOnce, RowsHold}
use Rattle.array_values.proofs.Pairs.{pair_at, usable_is, usable_by, working_by}
use Rattle.array_values.proofs.Needs.{has_last, IsFreeRow, free_row}
use Rattle.array_values.proofs.Settled.{in_pair_from}
use Rattle.array_values.proofs.Ground.{AreApart, Ground, Touches, touched_or_not}
use Rattle.array_values.proofs.PassRows.{NewPass, IsToCount, pass_rows}
use Rattle.array_values.proofs.PassFits.{empty_pass, runs_still}
use Rattle.array_values.proofs.PassLoses.{LocksRow, locked_is}
use Rattle.array_values.proofs.PassNeeds.{writes_in_row, works_are, WritesOf, writes_of, row_written, one_pair}
use Rattle.array_values.proofs.PassCalls.{content, fits, counts, tells_on, told, place_is}

-- the sets of a row that is there
work_there : (b : Bool) (work : List Work) → b ≡ true → cond b work [] ≡ work
work_there true work is = refl
work_there false work is = absurd cc

-- a slot that is read has its sector
read_there : (got : List Got) (s : ℕ) → has s (got_slots got) ≡ true → read_of s got ≡ [] → ⊥
read_there [] s h none = absurd cc
read_there (g ∷ gs) s h none = at (g.slot == s) (s == g.slot) (grind (arith, nat_tests)) h none (read_there gs s)
  where
    at : (a b : Bool) → a ≡ b → (a || has s (got_slots gs)) ≡ true
        → cond (b || false) (g ∷ read_of s gs) (read_of s gs) ≡ []
        → (has s (got_slots gs) ≡ true → read_of s gs ≡ [] → ⊥) → ⊥
    at true true e h none more = absurd cc
    at true false e h none more = absurd cc
    at false true e h none more = absurd cc
    at false false e h none more = more h none

module _ (S : Setting) (inside : RowsInside S) (apart : AreApart S) (c : Control) (log : List Call)
    (journal : List Entry) (n : ℕ) (rows : RowsHold S c log journal) (g : Ground S c) (v : ℕ) (p : Pass) (s d : ℕ)
    (x : Ended) (needs : PassNeeds S c v p (Writes s)) (free : is_free_row S c v p.row ≡ true)
    (is_on : disk_of c v s ≡ Some d) (works : has d c.round.faults ≡ false) where
  abbrev goes : GoesOn S c v p
  goes = needs.goes_on

  abbrev now : List Entry
  now = journal ++ entered n None

  abbrev ms : List Member
  ms = members_at c v

  abbrev work : List Work
  work = work_at S c v p.row

  abbrev brought : Sector
  brought = new_sector S (work_at S c v p.row) p.got s

  abbrev what : What
  what = Write (row_place S v p.row) (brought ∷ []) 1

  abbrev later : List Call
  later = log_after log (Some (call_on d what true))

  same_content : (i : ℕ) → (content_at S now i ≡ content_at S journal i) × (is_unsure_at S now i ≡ is_unsure_at S journal i)
  same_content = content S inside apart c log journal n rows g v p goes

  old : NewPass S (slots_of c v) c.round.faults log journal v p
  old = fits S inside apart c log journal n rows g v p goes

  keeps : (i e : ℕ) → stood S later i e ≡ stood S log i e → Tells S log journal i e → Tells S later now i e
  keeps i e = tells_on S inside apart c log journal n rows g v p goes later i e

  in_row : (p.over ≡ false) × (need_sets p (work_at S c v p.row) ≡ Writes s)
  in_row = writes_in_row p (work_at S c v p.row) s needs.is

  row_is_free : (p.row < (shape_of S v).rows) × IsFreeRow S c v p.row
  row_is_free = free_row S c v p.row rows.clients free

  work_is : work_at S c v p.row ≡ work_by (shape_of S v).level (shape_of S v) p.row ms
  work_is = let lt = row_is_free.0 in
      work_there (nat_lt p.row (shape_of S v).rows) (work_by (shape_of S v).level (shape_of S v) p.row ms) (grind (arith, nat_tests, lt))

  free_at : (i : ℕ) → row_at S i ≡ p.row → IsFreeRow S c v (row_at S i)
  free_at i at = subst (IsFreeRow S c v) (sym at) row_is_free.1

  level_copies : (i : ℕ) → volume_of S i ≡ v → IsCopied S i → Rattle.array_values.specs.Copies.HasCopies S v
  level_copies i volume copied = subst (λ w. Rattle.array_values.specs.Copies.HasCopies S w) volume copied.copies

  -- what is written is the content
  content_written : (i : ℕ) → volume_of S i ≡ v → IsCopied S i → row_at S i ≡ p.row → InPair (the_place S i) s
      → IsSure S now i → brought ≡ content_at S now i
  content_written i volume copied at pair sure =
      of.sector ∙ by (old.got of.source)
    where
      of : WritesOf S ms (work_at S c v p.row) p.got s
      of = writes_of S ms p (work_at S c v p.row) s
          (subst (λ w. Rattle.std.specs.List.AllByRecursion (Rattle.array_values.proofs.PassNeeds.IsPairWork ms) w) (sym work_is)
          (works_are (shape_of S v).level (shape_of S v) p.row ms (level_copies i volume copied))) in_row.1

      source_pair : InPair (the_place S i) of.source
      source_pair = one_pair (shape_of S (volume_of S i)).level (the_place S i) (pair_at S i copied) of.base s of.source of.which of.own pair of.among

      by : (read_of of.source p.got ≡ []) ⊎ ReadOnce S journal v p.row of.source p.got
          → xor_got S (read_of of.source p.got) ≡ content_at S now i
      by (inl none) = absurd (read_there p.got of.source of.is_read none)
      by (inr once) =
          ap (xor_got S) once.is
          ∙ once.tells i volume copied at source_pair (sym (same_content i).1 ∙ sure)
          ∙ sym (same_content i).0

  touch : (i t e : ℕ) → IsCopied S i → is_broken c (volume_of S i) ≡ false → disk_of c (volume_of S i) t ≡ Some e
      → has e c.round.faults ≡ false → (stood S later i e ≡ stood S log i e) ⊎ Touches S v p.row s d i t e
  touch i t e copied sound is sane =
      touched_or_not S inside apart c g v p.row s d row_is_free.0 is_on log (row_place S v p.row) brought 1 true refl i t e copied sound is sane

  touched_tells : (i t e : ℕ) → IsCopied S i → InPair (the_place S i) t → Touches S v p.row s d i t e → Tells S later now i e
  touched_tells i t e copied pair touched sure =
      ap (λ q. Rattle.array_paths.specs.Honest.stood_at S later e q)
      (place_is S inside apart c log journal n rows g v p goes i (sym touched.volume) (sym touched.row_is))
      ∙ subst (λ z. Rattle.array_paths.specs.Honest.stood_at S later z (row_place S v p.row) ≡ brought) touched.disk
      (brings S log d (row_place S v p.row) brought true)
      ∙ content_written i (sym touched.volume) copied (sym touched.row_is)
      (subst (InPair (the_place S i)) (sym touched.slot) pair) sure

  -- a slot of the row, behind the write, that was written or that counts
  either_tells : (i t e : ℕ) → volume_of S i ≡ v → IsCopied S i → InPair (the_place S i) t → disk_of c v t ≡ Some e
      → has e c.round.faults ≡ false → Tells S log journal i e → Tells S later now i e
  either_tells i t e volume copied pair disk sane tells =
      elim (touch i t e copied (subst (λ w. is_broken c w ≡ false) (sym volume) goes.sound)
      (subst (λ w. disk_of c w t ≡ Some e) (sym volume) disk) sane) [
        | inl same ↦ keeps i e same tells
        | inr touched ↦ touched_tells i t e copied pair touched
      ]

  or_parts : (a b : Bool) → (a || b) ≡ true → (a ≡ true) ⊎ (b ≡ true)
  or_parts true b h = inl refl
  or_parts false b h = inr h

  written_tells : (i t e : ℕ) → volume_of S i ≡ v → IsCopied S i → row_at S i ≡ p.row → InPair (the_place S i) t
      → has t (p.written ++ s ∷ []) ≡ true → disk_of c v t ≡ Some e → has e c.round.faults ≡ false → Tells S later now i e
  written_tells i t e volume copied at pair has_it disk sane =
      elim (or_parts (has t p.written) (s == t) (sym (has_last p.written s t) ∙ has_it)) [
        | inl before ↦ either_tells i t e volume copied pair disk sane
            (old.written i t e volume copied at pair before disk sane)
        | inr here ↦ mine (grind (arith, nat_tests, here))
      ]
    where
      mine : s ≡ t → Tells S later now i e
      mine slot = touched_tells i t e copied pair (record {
        volume = sym volume;
        row_is = sym at;
        slot = slot;
        disk = cc (sym is_on ∙ subst (λ u. disk_of c v u ≡ Some e) (sym slot) disk);
      })

  -- once the row is written, each slot that works holds the content
  done_tells : all_written (p.written ++ s ∷ []) (work_at S c v p.row) ≡ true → (i t e : ℕ) → volume_of S i ≡ v
      → IsCopied S i → row_at S i ≡ p.row → InPair (the_place S i) t → disk_of c v t ≡ Some e
      → has e c.round.faults ≡ false → Tells S later now i e
  done_tells all i t e volume copied at pair disk sane = by
      (row_written (shape_of S (volume_of S i)).level (shape_of S v) p.row (the_place S i) ms (p.written ++ s ∷ []) copied.copies
      the_pair all_by may.0 t (in_pair_from (shape_of S (volume_of S i)).level (the_place S i) the_pair may.0 may.2)
      (usable_by c.round.faults c.round.blocked (slots_of c v) may.0 may.1 may.3 may.4 may.5)
      (in_pair_from (shape_of S (volume_of S i)).level (the_place S i) the_pair t pair)
      (working_by c.round.faults c.round.blocked (slots_of c v) t e disk sane))
    where
      the_pair : Rattle.array_values.proofs.Pairs.PairIs (shape_of S (volume_of S i)).level (the_place S i)
      the_pair = pair_at S i copied

      may : (t : ℕ) × (e : ℕ) × InPair (the_place S i) t × (disk_of c v t ≡ Some e) × (has e c.round.faults ≡ false)
          × ((slot_at (slots_of c v) t).in_sync ≡ true)
      may = runs_still S c log journal rows v i volume
          (rows.runs i copied (subst (λ w. S.start.is_started w ≡ true) (sym volume) (g.begun v t e disk))
          (subst (λ w. is_broken c w ≡ false) (sym volume) goes.sound))

      all_by : all_written (p.written ++ s ∷ []) (work_by (shape_of S (volume_of S i)).level (shape_of S v) p.row ms) ≡ true
      all_by = ap (λ w. all_written (p.written ++ s ∷ []) (work_by (shape_of S w).level (shape_of S v) p.row ms)) volume
          ∙ ap (all_written (p.written ++ s ∷ [])) (sym work_is) ∙ all

      by : (is_usable (member_at ms t) ≡ true) ⊎ (has t (p.written ++ s ∷ []) ≡ true) → Tells S later now i e
      by (inr wrote) = written_tells i t e volume copied at pair wrote disk sane
      by (inl usable) =
          either_tells i t e volume copied pair disk sane
          (told S inside apart c log journal n rows g v p goes i t e volume copied (free_at i at) (record {
            sound = subst (λ w. is_broken c w ≡ false) (sym volume) goes.sound;
            pair = pair;
            disk = subst (λ w. disk_of c w t ≡ Some e) (sym volume) disk;
            works = sane;
            why = inl (subst (λ w. (slot_at (slots_of c w) t).in_sync ≡ true) (sym volume)
                (usable_is c.round.faults c.round.blocked (slots_of c v) t usable).3);
          }))

  -- THE PASS BEHIND IT

  abbrev wrote : Pass
  wrote = record p { written = p.written ++ s ∷ []; touched = with_slot s p.touched }

  old_later : NewPass S (slots_of c v) c.round.faults log journal v p → (t : ℕ)
      → (read_of t p.got ≡ []) ⊎ ReadOnce S journal v p.row t p.got → (read_of t p.got ≡ []) ⊎ ReadOnce S now v p.row t p.got
  old_later fit t (inl none) = inl none
  old_later fit t (inr once) = inr (record {
    one = once.one;
    is = once.is;
    tells = λ i volume copied at pair sure.
        once.tells i volume copied at pair (sym (same_content i).1 ∙ sure) ∙ sym (same_content i).0;
  })

  abbrev moves : Pass → List Call → Type 0
  moves q log = RowsHold S (put S (PassMoves v (slots_of c v) (Some q) GoesOnQuietly) c) log now

  step : (q : Pass) → NewPass S (slots_of c v) c.round.faults later now v q
      → ((i t e : ℕ) → IsToCount S c v (slots_of c v) (Some q) i t e
      → Counts S c i t e ⊎ (IsFreeRow S c v (row_at S i) × Tells S later now i e))
      → RowsHold S (put S (PassMoves v (slots_of c v) (Some q) GoesOnQuietly) c) later now
  step q fit counted = pass_rows S c v (slots_of c v) (Some q) GoesOnQuietly log (Some (call_on d what true)) journal now (record {
    cell = λ i t e copied sound pair disk sane. elim (touch i t e copied sound disk sane) [
      | inl same ↦ inl same
      | inr touched ↦ inr (
        subst (λ w. IsFreeRow S c w (row_at S i)) touched.volume (free_at i (sym touched.row_is)),
        touched_tells i t e copied pair touched,
      )
    ];
    content = same_content;
    submitted = λ i. submitted_stays S journal n i None tt;
    counts = counted;
    holds = λ r is sound.
        let one : q ≡ r = cc is in subst (NewPass S (slots_of c v) c.round.faults later now v) one fit;
    runs = λ i volume copied sound m. runs_still S c log journal rows v i volume m;
  }) rows

  -- the row goes on
  row_goes : moves (locked_by (Writes s) p.row wrote) later
  row_goes = step (locked_by (Writes s) p.row wrote) (record {
    lock = inl (let here : (p.row == p.row) ≡ true = grind (arith, nat_tests) in rw here refl);
    over = λ h. absurd (let is = in_row.0 in let it = sym locked.over ∙ h in cc (it, is));
    got = λ t. elim (old_later old t (old.got t)) [
      | inl none ↦ inl (ap (read_of t) locked.got ∙ none)
      | inr once ↦ inr (record {
        one = once.one;
        is = ap (read_of t) locked.got ∙ once.is;
        tells = λ i volume copied at pair. once.tells i volume copied (at ∙ locked.row) pair;
      })
    ];
    written = λ i t e volume copied at pair has_it disk sane.
        written_tells i t e volume copied (at ∙ locked.row) pair (sym (ap (has t) locked.written) ∙ has_it) disk sane;
  }) (λ i t e h. inl (counts S inside apart c log journal n rows g v p goes (locked_by (Writes s) p.row wrote) locked.row i t e h))
    where
      locked : LocksRow wrote (locked_by (Writes s) p.row wrote)
      locked = locked_is (Writes s) p.row wrote

  -- the row is done
  row_ends : all_written (p.written ++ s ∷ []) (work_at S c v p.row) ≡ true
      → moves (locked_by (Writes s) p.row (moves_to (shape_of S v) wrote (p.row + 1))) later
  row_ends all = step (locked_by (Writes s) p.row (moves_to (shape_of S v) wrote (p.row + 1)))
      (empty_pass S (slots_of c v) c.round.faults later now v
      (locked_by (Writes s) p.row (moves_to (shape_of S v) wrote (p.row + 1))) locked.got locked.written
      (λ h. absurd (let is = in_row.0 in let it = sym locked.over ∙ h in cc (it, is))))
      (λ i t e h. by i t e h h.why)
    where
      locked : LocksRow (moves_to (shape_of S v) wrote (p.row + 1)) (locked_by (Writes s) p.row (moves_to (shape_of S v) wrote (p.row + 1)))
      locked = locked_is (Writes s) p.row (moves_to (shape_of S v) wrote (p.row + 1))

      -- as the pass stood
      before : (i t e : ℕ) → IsToCount S c v (slots_of c v) (Some (locked_by (Writes s) p.row (moves_to (shape_of S v) wrote (p.row + 1)))) i t e
          → ((slot_at (slots_of c v) t).in_sync ≡ true) ⊎ IsPast (Some p) (row_at S i) → Counts S c i t e
      before i t e h why = counts S inside apart c log journal n rows g v p goes p refl i t e (record {
        volume = h.volume;
        copied = h.copied;
        sound = h.sound;
        pair = h.pair;
        disk = h.disk;
        works = h.works;
        why = why;
      })

      less : (a b : ℕ) → a < b + 1 → (a < b) ⊎ (a ≡ b)
      less a b lt = grind (arith, lt)

      by : (i t e : ℕ) → IsToCount S c v (slots_of c v) (Some (locked_by (Writes s) p.row (moves_to (shape_of S v) wrote (p.row + 1)))) i t e
          → ((slot_at (slots_of c v) t).in_sync ≡ true) ⊎ IsPast (Some (locked_by (Writes s) p.row (moves_to (shape_of S v) wrote (p.row + 1)))) (row_at S i)
          → Counts S c i t e ⊎ (IsFreeRow S c v (row_at S i) × Tells S later now i e)
      by i t e h (inl sync) = inl (before i t e h (inl sync))
      by i t e h (inr past) =
          let one : locked_by (Writes s) p.row (moves_to (shape_of S v) wrote (p.row + 1)) ≡ past.at = let e = past.is in cc e in
          let above : row_at S i < p.row + 1 = subst (λ r. row_at S i < r) (ap (λ (q : Pass). q.row) (sym one) ∙ locked.row) past.above in
          elim (less (row_at S i) p.row above) [
            | inl lower ↦ inl (before i t e h (inr (record { at = p; is = refl; above = lower })))
            | inr same ↦ inr (free_at i same, done_tells all i t e h.volume h.copied same h.pair h.disk h.works)
          ]

  pub write_keeps : RowsHold S (put S (PassMoves v (slots_of c v) (Some (pass_after S c v p (Writes s) x)) GoesOnQuietly) c)
      (log_after log (Some (call_on d (Write (row_place S v p.row) (new_sector S (work_at S c v p.row) p.got s ∷ []) 1) true)))
      (journal ++ entered n None)
  write_keeps = by (all_written (p.written ++ s ∷ []) (work_at S c v p.row)) refl
    where
      by : (b : Bool) → all_written (p.written ++ s ∷ []) (work_at S c v p.row) ≡ b
          → RowsHold S (put S (PassMoves v (slots_of c v)
          (Some (locked_by (Writes s) p.row (next_row (shape_of S v) b (record p { written = p.written ++ s ∷ []; touched = with_slot s p.touched })))) GoesOnQuietly) c)
          (log_after log (Some (call_on d (Write (row_place S v p.row) (new_sector S (work_at S c v p.row) p.got s ∷ []) 1) true)))
          (journal ++ entered n None)
      by true all = row_ends all
      by false some = row_goes
