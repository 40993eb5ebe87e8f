-- Where a pass stands behind what takes no call, and behind a call that went through or failed.
use Rattle.std.proofs.Common.{◌≡◌, ℕ, ◌+◌, ◌/◌, ◌==◌, ◌||◌, ◌&&◌, not, nat_lt, Bool, true, false, List, [], ◌∷◌, ◌++◌, filter, refl, ap, sym, ◌∙◌, subst, arith, Option, Some, None, ◌⊎◌, inl, inr, cond, eqb-true}
use Rattle.std.specs.List.{range_with_len}
use Rattle.units.specs.declared.bounds.TheConstants.{UNIT_ROWS}
use Rattle.units.specs.declared.disk.Sector.{Sector}
use Rattle.units.specs.declared.volume.Level.{Level}
use Rattle.units.specs.declared.volume.Level.TheVariants.{One, Five, Ten}
use Rattle.array_model.specs.Placement.{Shape}
use Rattle.array_machine.specs.Numbers.{has, without}
use Rattle.array_machine.specs.Setting.{Setting}
use Rattle.array_machine.specs.Volumes.{Slot, disk_in, Member, member_at, members_of, Pass}
use Rattle.array_machine.specs.Operations.{shape_of}
use Rattle.array_machine.specs.Faults.{past_syncs}
use Rattle.array_machine.specs.RowJobs.{usable_of, targets_in, first_only, Reads, Writes, Syncs}
use Rattle.array_machine.specs.SyncTurns.{Work, work_if, pair_work, gone_of, rebuilt_of, parity_work, work_by, row_work, next_checkpoint, moves_to, past_checkpoint, past_rows, settled, with_slot, all_written, next_row, pass_went, with_lock, locked_by}
use Rattle.array_base.proofs.Targets.{or_cases, or_first, or_second, has_less}
use Rattle.array_rest.specs.Between.{CanCall, work_over, PassStands}
use Rattle.array_rest.proofs.Parts.{member_is}

-- WORK DOESN'T DEPEND ON WHICH DISKS ARE BLOCKED

filter_same : (f g : ℕ → Bool) → ((s : ℕ) → f s ≡ g s) → (xs : List ℕ) → filter f xs ≡ filter g xs
filter_same f g same [] = refl
filter_same f g same (x ∷ xs) =
    ap (λ b. cond b (x ∷ filter f xs) (filter f xs)) (same x)
    ∙ ap (λ ys. cond (g x) (x ∷ ys) ys) (filter_same f g same xs)

module _ (ms ns : List Member) (works : (s : ℕ) → (member_at ms s).working ≡ (member_at ns s).working)
    (synced : (s : ℕ) → (member_at ms s).in_sync ≡ (member_at ns s).in_sync) where
  same_usable : (slots : List ℕ) → usable_of ms slots ≡ usable_of ns slots
  same_usable slots = filter_same _ _ (λ s.
      ap (λ b. b && (member_at ms s).in_sync) (works s) ∙ ap (λ b. (member_at ns s).working && b) (synced s)) slots

  same_targets : (slots : List ℕ) → targets_in ms slots ≡ targets_in ns slots
  same_targets slots = filter_same _ _ works slots

  same_pair : (s : ℕ) → pair_work ms s ≡ pair_work ns s
  same_pair s =
      let pair = s ∷ (s + 1) ∷ [] in
      ap (λ xs. work_if (first_only xs) (filter (λ t. not (has t (first_only xs))) (targets_in ms pair)))
      (same_usable pair)
      ∙ ap (λ xs. work_if (first_only (usable_of ns pair)) (filter (λ t. not (has t (first_only (usable_of ns pair)))) xs))
      (same_targets pair)

  same_gone : (shape : Shape) → gone_of shape ms ≡ gone_of shape ns
  same_gone shape = filter_same _ _ (λ s. ap not (works s)) (range_with_len 0 shape.members)

  same_rebuilt : (shape : Shape) → rebuilt_of shape ms ≡ rebuilt_of shape ns
  same_rebuilt shape = filter_same _ _ (λ s.
      ap (λ b. b && not (member_at ms s).in_sync) (works s) ∙ ap (λ b. (member_at ns s).working && not b) (synced s))
      (range_with_len 0 shape.members)

  same_work : (level : Option Level) (shape : Shape) (row : ℕ)
      → work_by level shape row ms ≡ work_by level shape row ns
  same_work None shape row = refl
  same_work (Some One) shape row = same_pair 0
  same_work (Some Five) shape row =
      ap (λ xs. parity_work shape row xs (rebuilt_of shape ms)) (same_gone shape)
      ∙ ap (parity_work shape row (gone_of shape ns)) (same_rebuilt shape)
  same_work (Some Ten) shape row =
      ap (λ xs. xs ++ pair_work ms 2) (same_pair 0) ∙ ap (λ xs. pair_work ns 0 ++ xs) (same_pair 2)

  same_row_work : (shape : Shape) (row : ℕ) → row_work shape ms row ≡ row_work shape ns row
  same_row_work shape row = ap (λ w. cond (nat_lt row shape.rows) w []) (same_work shape.level shape row)

pub work_is : (S : Setting) (faults blocked : List ℕ) (slots : List Slot) (v row : ℕ)
    → row_work (shape_of S v) (members_of faults blocked slots) row ≡ work_over S faults slots v row
work_is S faults blocked slots v row =
    same_row_work (members_of faults blocked slots) (members_of faults [] slots)
    (λ s. ap (λ (m : Member). m.working) (member_is faults blocked slots s)
    ∙ sym (ap (λ (m : Member). m.working) (member_is faults [] slots s)))
    (λ s. ap (λ (m : Member). m.in_sync) (member_is faults blocked slots s)
    ∙ sym (ap (λ (m : Member). m.in_sync) (member_is faults [] slots s)))
    (shape_of S v) row

-- LOCKS

passed_lock : (shape : Shape) (p : Pass) → (past_syncs shape p).lock ≡ p.lock
passed_lock shape p = at (p.row == shape.rows)
  where
    at : (b : Bool)
        → (cond b (record p { syncing = false; over = true })
        (record p { syncing = false; ready = p.row / UNIT_ROWS })).lock ≡ p.lock
    at true = refl
    at false = refl

pub checked_lock : (shape : Shape) (syncing : Bool) (touched : List ℕ) (p : Pass)
    → (past_checkpoint shape syncing touched p).lock ≡ p.lock
checked_lock shape true [] p = passed_lock shape p
checked_lock shape true (t ∷ ts) p = refl
checked_lock shape false touched p = refl

rows_lock : (shape : Shape) (stays : Bool) (work : List Work) (touched : List ℕ) (p : Pass) (row : ℕ)
    → (past_rows shape stays work touched p).lock ≡ Some row → p.lock ≡ Some row
rows_lock shape true work touched p row is = is
rows_lock shape false (w ∷ ws) touched p row is = is
rows_lock shape false [] [] p row is =
    absurd (let none = sym (passed_lock shape (moves_to shape p shape.rows)) ∙ is in cc none)
rows_lock shape false [] (t ∷ ts) p row is = absurd (cc is)

-- what takes no call takes no lock
pub settled_lock : (shape : Shape) (members : List Member) (p : Pass) (row : ℕ)
    → (settled shape members p).lock ≡ Some row → p.lock ≡ Some row
settled_lock shape members p row is =
    let q = past_checkpoint shape p.syncing p.touched p in
    sym (checked_lock shape p.syncing p.touched p)
    ∙ rows_lock shape (q.over || q.syncing) (row_work shape members q.row) q.touched q row is

-- WHERE A PASS STANDS

module _ (S : Setting) (faults : List ℕ) (slots : List Slot) (v : ℕ) where
  abbrev shape : Shape
  shape = shape_of S v

  abbrev Touched : List ℕ → Type 0
  Touched touched = (s : ℕ) → has s touched ≡ true → CanCall S faults (disk_in slots s)

  -- a pass without a lock, of which nothing is written in its row
  record IsFresh (p : Pass) : Type 0 where
    lock : (row : ℕ) → p.lock ≡ Some row → ⊥
    written : p.written ≡ []
    touched : Touched p.touched

  fresh_stands : (p : Pass) → IsFresh p → PassStands S faults slots v p
  fresh_stands p h = record {
    locked = λ row is. absurd (h.lock row is);
    begun = λ syncs. h.written;
    left = inl h.written;
    touched = h.touched;
  }

  passed_fresh : (p : Pass) → IsFresh p → PassStands S faults slots v (past_syncs shape p)
  passed_fresh p h = at (p.row == shape.rows)
    where
      at : (b : Bool)
          → PassStands S faults slots v
          (cond b (record p { syncing = false; over = true }) (record p { syncing = false; ready = p.row / UNIT_ROWS }))
      at true = fresh_stands _ (record { lock = h.lock; written = h.written; touched = h.touched })
      at false = fresh_stands _ (record { lock = h.lock; written = h.written; touched = h.touched })

  -- at a checkpoint it is fresh
  checkpoint_fresh : (p : Pass) → p.syncing ≡ true → PassStands S faults slots v p → IsFresh p
  checkpoint_fresh p syncs h = record {
    lock = λ row is. let none = (h.locked row is).2 in cc (none, syncs);
    written = h.begun syncs;
    touched = h.touched;
  }

  checked_stands : (syncing : Bool) (touched : List ℕ) (p : Pass) → p.syncing ≡ syncing → PassStands S faults slots v p
      → PassStands S faults slots v (past_checkpoint shape syncing touched p)
  checked_stands true [] p syncs h = passed_fresh p (checkpoint_fresh p syncs h)
  checked_stands true (t ∷ ts) p syncs h = h
  checked_stands false touched p syncs h = h

  moved_fresh : (p : Pass) (row : ℕ) → Touched p.touched → IsFresh (moves_to shape p row)
  moved_fresh p row touched = record { lock = λ row is. cc is; written = refl; touched = touched }

  rows_stand : (stays : Bool) (work : List Work) (touched : List ℕ) (p : Pass) → PassStands S faults slots v p
      → PassStands S faults slots v (past_rows shape stays work touched p)
  rows_stand true work touched p h = h
  rows_stand false (w ∷ ws) touched p h = h
  rows_stand false [] [] p h = passed_fresh (moves_to shape p shape.rows) (moved_fresh p shape.rows h.touched)
  rows_stand false [] (t ∷ ts) p h =
      fresh_stands _ (moved_fresh p (next_checkpoint shape p.row) h.touched)

  -- behind what takes no call
  pub settled_stands : (members : List Member) (p : Pass) → PassStands S faults slots v p
      → PassStands S faults slots v (settled shape members p)
  settled_stands members p h =
      let q = past_checkpoint shape p.syncing p.touched p in
      rows_stand (q.over || q.syncing) (row_work shape members q.row) q.touched q
      (checked_stands p.syncing p.touched p refl h)

  -- a pass that opens
  pub opened_stands : (p : Pass) → p.lock ≡ None → p.written ≡ [] → p.touched ≡ [] → PassStands S faults slots v p
  opened_stands p lock written touched = fresh_stands p (record {
    lock = λ row is. cc (lock, is);
    written = written;
    touched = λ s is. absurd (let never = sym (ap (has s) touched) ∙ is in cc never);
  })

  -- BEHIND A CALL

  -- one slot more to sync
  slot_more : (s : ℕ) (touched : List ℕ) (e : ℕ) → has e (with_slot s touched) ≡ true
      → (s ≡ e) ⊎ (has e touched ≡ true)
  slot_more s [] e is = elim (or_cases (s == e) false is) [
    | inl here ↦ inl (eqb-true s e here)
    | inr there ↦ absurd (cc there)
  ]
  slot_more s (t ∷ ts) e is = at (nat_lt t s) (t == s) is (slot_more s ts e)
    where
      first : ((t == e) || has e ts) ≡ true → (s ≡ e) ⊎ (((t == e) || has e ts) ≡ true)
      first h = inr h

      at : (less same : Bool)
          → has e (cond less (t ∷ with_slot s ts) (cond same (t ∷ ts) (s ∷ t ∷ ts))) ≡ true
          → (has e (with_slot s ts) ≡ true → (s ≡ e) ⊎ (has e ts ≡ true))
          → (s ≡ e) ⊎ (((t == e) || has e ts) ≡ true)
      at true same h more = elim (or_cases (t == e) (has e (with_slot s ts)) h) [
        | inl here ↦ inr (or_first (t == e) (has e ts) here)
        | inr there ↦ elim (more there) [
          | inl new ↦ inl new
          | inr old ↦ inr (or_second (t == e) (has e ts) old)
        ]
      ]
      at false true h more = inr h
      at false false h more = elim (or_cases (s == e) ((t == e) || has e ts) h) [
        | inl here ↦ inl (eqb-true s e here)
        | inr there ↦ inr there
      ]

  -- a pass that goes on in its row: it is neither over nor at a checkpoint
  pub record IsInRow (p : Pass) : Type 0 where
    pub goes_on : p.over ≡ false
    pub in_row : p.syncing ≡ false

  -- from its call in a row on it has the lock of that row
  pub with_lock_stands : (row : ℕ) (p : Pass) → (row ≡ p.row → IsInRow p) → PassStands S faults slots v p
      → PassStands S faults slots v (with_lock row p)
  with_lock_stands row p inside h = at (p.row == row) refl
    where
      at : (b : Bool) → (p.row == row) ≡ b → PassStands S faults slots v (cond b (record p { lock = Some row }) p)
      at false is = h
      at true is =
          let same : row ≡ p.row = sym (eqb-true p.row row is) in
          let goes = inside same in
          record {
            locked = λ other lock. (let eq : row ≡ other = cc lock in sym eq ∙ same, goes.goes_on, goes.in_row);
            begun = h.begun;
            left = h.left;
            touched = h.touched;
          }

  module _ (p : Pass) (work : List Work) (is_work : work ≡ work_over S faults slots v p.row)
      (h : PassStands S faults slots v p) where
    pub went_read : (s : ℕ) (x : Sector) → IsInRow p
        → PassStands S faults slots v (locked_by (Reads s) p.row (pass_went shape work (Reads s) x p))
    went_read s x inside =
        with_lock_stands p.row (pass_went shape work (Reads s) x p)
        (λ same. record { goes_on = inside.goes_on; in_row = inside.in_row })
        (record { locked = h.locked; begun = h.begun; left = h.left; touched = h.touched })

    pub went_write : (s : ℕ) (x : Sector) → IsInRow p → CanCall S faults (disk_in slots s)
        → PassStands S faults slots v (locked_by (Writes s) p.row (pass_went shape work (Writes s) x p))
    went_write s x inside can = at (all_written (p.written ++ s ∷ []) work) refl
      where
        touches : Touched (with_slot s p.touched)
        touches e is = elim (slot_more s p.touched e is) [
          | inl new ↦ subst (λ n. CanCall S faults (disk_in slots n)) new can
          | inr old ↦ h.touched e old
        ]

        at : (b : Bool) → all_written (p.written ++ s ∷ []) work ≡ b
            → PassStands S faults slots v
            (with_lock p.row
            (next_row shape b (record p { written = p.written ++ s ∷ []; touched = with_slot s p.touched })))
        at true is =
            let q = record p { written = p.written ++ s ∷ []; touched = with_slot s p.touched } in
            with_lock_stands p.row (moves_to shape q (p.row + 1))
            (λ same. absurd (omega (arith, same)))
            (fresh_stands _ (moved_fresh q (p.row + 1) touches))
        at false is =
            with_lock_stands p.row (record p { written = p.written ++ s ∷ []; touched = with_slot s p.touched })
            (λ same. record { goes_on = inside.goes_on; in_row = inside.in_row })
            (record {
              locked = h.locked;
              begun = λ syncs. absurd (let never = inside.in_row in cc (never, syncs));
              left = inr (ap (all_written (p.written ++ s ∷ [])) (sym is_work) ∙ is);
              touched = touches;
            })

    pub went_sync : (s : ℕ) (x : Sector)
        → PassStands S faults slots v (locked_by (Syncs s) p.row (pass_went shape work (Syncs s) x p))
    went_sync s x =
        checked_stands p.syncing (without s p.touched) (record p { touched = without s p.touched }) refl
        (record {
          locked = h.locked;
          begun = h.begun;
          left = h.left;
          touched = λ e is. h.touched e (has_less s e p.touched is);
        })
