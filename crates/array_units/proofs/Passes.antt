-- A pass stands where its checkpoints say, through all that becomes of it without a failure of the volume and with one.
use Rattle.std.proofs.Common.{◌≡◌, ℕ, ◌+◌, ◌*◌, ◌/◌, ◌%◌, ◌<◌, ◌≤◌, ◌==◌, ◌||◌, ◌++◌, Bool, true, false, cond, List, [], ◌∷◌, refl, sym, ◌∙◌, subst, arith, Some, ◌⊎◌, inl, inr}
use Rattle.std.proofs.lemmas.Bool.Decides.{nat_tests}
use Rattle.units.specs.declared.disk.Sector.{Sector}
use Rattle.array_model.specs.Placement.{Shape}
use Rattle.array_machine.specs.Volumes.{Slot, Member, Pass}
use Rattle.array_machine.specs.Numbers.{without}
use Rattle.array_machine.specs.RowJobs.{Need, NoNeed, Reads, Writes, Syncs, Answers, sync_or}
use Rattle.array_machine.specs.Faults.{past_syncs, touched_without, drops_sync, pass_without}
use Rattle.array_machine.specs.RoundEnds.{pass_from}
use Rattle.array_machine.specs.SyncTurns.{Work, row_work, is_checkpoint, next_checkpoint, moves_to, past_checkpoint, past_rows, settled, pass_need, with_slot, all_written, next_row, pass_went, with_lock, locked_by}
use Rattle.array_units.specs.Passes.{StandsAt, ComesTo, HasPassed}

or_parts : (a b : Bool) → (a || b) ≡ false → (a ≡ false) × (b ≡ false)
or_parts true b h = absurd cc
or_parts false b h = (refl, h)

-- NUMBERS

unit_below : (row : ℕ) → row / 128 * 128 ≤ row
unit_below row = omega arith

unit_reached : (row : ℕ) → 8 * (row / 1024) ≤ row / 128
unit_reached row = omega arith

unit_first : (unit : ℕ) → 8 * (unit * 128 / 1024) ≤ unit
unit_first unit = omega arith

same_checkpoint : (row : ℕ) → ((row + 1) % 1024 == 0) ≡ false → (row + 1) / 1024 ≡ row / 1024
same_checkpoint row off =
    let rest : ((row + 1) % 1024 ≡ 0) → ⊥ = λ is. grind (arith, nat_tests, off, is) in
    at ((row + 1) / 1024) (row / 1024) rest
  where
    at : (a b : ℕ) → (((row + 1) % 1024 ≡ 0) → ⊥) → (row + 1) / 1024 ≡ row / 1024
    at a b rest = grind (arith, rest)

no_further : (ready row : ℕ) → ready * 128 ≤ row → ready ≤ row / 128
no_further ready row le = omega (arith, le)

module _ (shape : Shape) where
  abbrev Stands : Pass → Type 0
  Stands p = StandsAt shape.rows p

  -- it stands, and comes from the other
  pub record Moved (p q : Pass) : Type 0 where
    pub stands : Stands q
    pub comes : ComesTo shape.rows p q

  -- ONE MOVE BEHIND ANOTHER

  comes_on : (p q r : Pass) → ComesTo shape.rows p q → ComesTo shape.rows q r → ComesTo shape.rows p r
  comes_on p q r first (inl over) = inl over
  comes_on p q r (inl over) (inr rises) = absurd (let going = rises.going in cc (over, going))
  comes_on p q r (inr before) (inr behind) =
      let a = before.ready in
      let b = behind.ready in
      inr (record {
        going = before.going;
        ready = omega (arith, a, b);
        inside = λ le. behind.inside (before.inside le);
      })

  pub moved_on : (p q r : Pass) → Moved p q → Moved q r → Moved p r
  moved_on p q r a b = record { stands = b.stands; comes = comes_on p q r a.comes b.comes }

  -- what has the same row, unit and flags
  alike : (p q : Pass) → Stands p → q.over ≡ p.over → q.syncing ≡ p.syncing → q.row ≡ p.row → q.ready ≡ p.ready
      → Moved p q
  alike p q s over syncing row ready = record {
    stands = record {
      below = λ going. elim (s.below (sym over ∙ going)) [
        | inl le ↦ inl (omega (arith, le, row, ready))
        | inr last ↦ inr (row ∙ last)
      ];
      reached = λ going here.
          let least = s.reached (sym over ∙ going) (sym syncing ∙ here) in
          subst (λ n. 8 * (n / 1024) ≤ q.ready) (sym row) (omega (arith, least, ready));
      inside = λ sync. let le = s.inside (sym syncing ∙ sync) in omega (arith, le, row);
    };
    comes = at p.over refl;
  }
    where
      at : (b : Bool) → p.over ≡ b → ComesTo shape.rows p q
      at true is = inl (over ∙ is)
      at false is =
          inr (record { going = is; ready = omega (arith, ready); inside = λ le. omega (arith, le, ready) })

  -- AT A CHECKPOINT

  synced_moved : (p : Pass) → Stands p → p.syncing ≡ true → Moved p (past_syncs shape p)
  synced_moved p s sync = at (p.row == shape.rows) refl
    where
      within : p.row ≤ shape.rows
      within = s.inside sync

      comes : (p.row == shape.rows) ≡ false → (b : Bool) → p.over ≡ b
          → ComesTo shape.rows p (record p { syncing = false; ready = p.row / 128 })
      comes off true is = inl is
      comes off false is = inr (record {
        going = is;
        ready = elim (s.below is) [
          | inl le ↦ no_further p.ready p.row le
          | inr last ↦ absurd (grind (arith, nat_tests, off, last))
        ];
        inside = λ le. let here = unit_below p.row in omega (arith, here, within);
      })

      at : (b : Bool) → (p.row == shape.rows) ≡ b
          → Moved p (cond b (record p { syncing = false; over = true })
          (record p { syncing = false; ready = p.row / 128 }))
      at true is = record {
        stands = record { below = λ going. absurd cc; reached = λ going here. absurd cc; inside = λ on. absurd cc };
        comes = inl refl;
      }
      at false off = record {
        stands = record {
          below = λ going. inl (unit_below p.row);
          reached = λ going here. unit_reached p.row;
          inside = λ on. absurd cc;
        };
        comes = comes off p.over refl;
      }

  checkpoint_moved : (p : Pass) (syncing : Bool) (touched : List ℕ) → p.syncing ≡ syncing → Stands p
      → Moved p (past_checkpoint shape syncing touched p)
  checkpoint_moved p true [] is s = synced_moved p s is
  checkpoint_moved p true (t ∷ ts) is s = alike p p s refl refl refl refl
  checkpoint_moved p false touched is s = alike p p s refl refl refl refl

  -- WHERE THE ROWS WANT NOTHING

  at_end : (p : Pass) → Moved p (past_syncs shape (moves_to shape p shape.rows))
  at_end p = at (shape.rows == shape.rows) refl
    where
      q : Pass
      q = moves_to shape p shape.rows

      at : (b : Bool) → (shape.rows == shape.rows) ≡ b
          → Moved p (cond b (record q { syncing = false; over = true })
          (record q { syncing = false; ready = shape.rows / 128 }))
      at true is = record {
        stands = record { below = λ going. absurd cc; reached = λ going here. absurd cc; inside = λ on. absurd cc };
        comes = inl refl;
      }
      at false off = absurd (grind (arith, nat_tests, off))

  next_is : (row : ℕ) → (next_checkpoint shape row ≡ shape.rows)
      ⊎ ((next_checkpoint shape row ≡ (row / 1024 + 1) * 1024) × ((row / 1024 + 1) * 1024 ≤ shape.rows))
  next_is row = grind arith

  is_at_checkpoint : (row : ℕ) → is_checkpoint shape (next_checkpoint shape row) ≡ true
  is_at_checkpoint row = elim (next_is row) [
    | inl last ↦
        let here : (next_checkpoint shape row == shape.rows) ≡ true = grind (arith, nat_tests, last) in
        rw here refl
    | inr next ↦
        let is = next.0 in
        let even : (next_checkpoint shape row) % 1024 ≡ 0 = omega (arith, is) in
        let here : ((next_checkpoint shape row) % 1024 == 0) ≡ true = grind (arith, nat_tests, even) in
        second (next_checkpoint shape row == shape.rows) _ here
  ]
    where
      second : (a b : Bool) → b ≡ true → (a || b) ≡ true
      second true b h = refl
      second false b h = h

  to_checkpoint : (p : Pass) → Stands p → p.over ≡ false
      → Moved p (moves_to shape p (next_checkpoint shape p.row))
  to_checkpoint p s going = record {
    stands = record {
      below = λ on. below (next_is p.row);
      reached = λ on here. absurd (let sync = is_at_checkpoint p.row in cc (sync, here));
      inside = λ on. inside (next_is p.row);
    };
    comes = inr (record { going = going; ready = omega arith; inside = λ le. le });
  }
    where
      next : ℕ
      next = next_checkpoint shape p.row

      below : (next ≡ shape.rows) ⊎ ((next ≡ (p.row / 1024 + 1) * 1024) × ((p.row / 1024 + 1) * 1024 ≤ shape.rows))
          → (p.ready * 128 ≤ next) ⊎ (next ≡ shape.rows)
      below (inl last) = inr last
      below (inr on) = elim (s.below going) [
        | inl le ↦ inl (let is = on.0 in omega (arith, le, is))
        | inr last ↦ absurd (let le = on.1 in omega (arith, last, le))
      ]

      inside : (next ≡ shape.rows) ⊎ ((next ≡ (p.row / 1024 + 1) * 1024) × ((p.row / 1024 + 1) * 1024 ≤ shape.rows))
          → next ≤ shape.rows
      inside (inl last) = omega (arith, last)
      inside (inr on) = let is = on.0 in let le = on.1 in omega (arith, is, le)

  rows_moved : (p : Pass) (stays : Bool) (work : List Work) (touched : List ℕ) → (p.over || p.syncing) ≡ stays
      → Stands p → Moved p (past_rows shape stays work touched p)
  rows_moved p true work touched is s = alike p p s refl refl refl refl
  rows_moved p false (w ∷ ws) touched is s = alike p p s refl refl refl refl
  rows_moved p false [] [] is s = at_end p
  rows_moved p false [] (t ∷ ts) is s = to_checkpoint p s (or_parts p.over p.syncing is).0

  pub settled_moved : (members : List Member) (p : Pass) → Stands p → Moved p (settled shape members p)
  settled_moved members p s =
      let q = past_checkpoint shape p.syncing p.touched p in
      let first = checkpoint_moved p p.syncing p.touched refl s in
      moved_on p q (settled shape members p) first
      (rows_moved q (q.over || q.syncing) (row_work shape members q.row) q.touched refl first.stands)

  -- A CALL THAT WENT THROUGH

  -- a row is read or written only by a pass that isn't over and has no sync to make
  pub record IsInRow (p : Pass) : Type 0 where
    pub going : p.over ≡ false
    pub rowing : p.syncing ≡ false

  no_sync : (touched : List ℕ) (s : ℕ) → sync_or touched NoNeed ≡ Reads s → ⊥
  no_sync [] s is = cc is
  no_sync (t ∷ ts) s is = cc is

  no_sync_write : (touched : List ℕ) (s : ℕ) → sync_or touched NoNeed ≡ Writes s → ⊥
  no_sync_write [] s is = cc is
  no_sync_write (t ∷ ts) s is = cc is

  pub reads_row : (p : Pass) (work : List Work) (s : ℕ) → pass_need p work p.over p.syncing ≡ Reads s → IsInRow p
  reads_row p work s is = at p.over p.syncing refl refl is
    where
      at : (a b : Bool) → p.over ≡ a → p.syncing ≡ b → pass_need p work a b ≡ Reads s → IsInRow p
      at true b over sync h = absurd (cc h)
      at false true over sync h = absurd (no_sync p.touched s h)
      at false false over sync h = record { going = over; rowing = sync }

  pub writes_row : (p : Pass) (work : List Work) (s : ℕ) → pass_need p work p.over p.syncing ≡ Writes s → IsInRow p
  writes_row p work s is = at p.over p.syncing refl refl is
    where
      at : (a b : Bool) → p.over ≡ a → p.syncing ≡ b → pass_need p work a b ≡ Writes s → IsInRow p
      at true b over sync h = absurd (cc h)
      at false true over sync h = absurd (no_sync_write p.touched s h)
      at false false over sync h = record { going = over; rowing = sync }

  off_checkpoint : (row : ℕ) → is_checkpoint shape (row + 1) ≡ false → (row + 1) / 1024 ≡ row / 1024
  off_checkpoint row off = same_checkpoint row (or_parts _ _ off).1

  next_moved : (p : Pass) (done : Bool) → Stands p → IsInRow p → p.row < shape.rows
      → Moved p (next_row shape done p)
  next_moved p false s here below = alike p p s refl refl refl refl
  next_moved p true s here below = record {
    stands = record {
      below = λ going. elim (s.below here.going) [
        | inl le ↦ inl (omega (arith, le))
        | inr last ↦ absurd (omega (arith, last, below))
      ];
      reached = λ going off.
          let least = s.reached here.going here.rowing in
          subst (λ n. 8 * n ≤ p.ready) (sym (off_checkpoint p.row off)) least;
      inside = λ on. omega (arith, below);
    };
    comes = inr (record { going = here.going; ready = omega arith; inside = λ le. le });
  }

  row_locked : (p : Pass) (row : ℕ) → Stands p → Moved p (with_lock row p)
  row_locked p row s = at (p.row == row)
    where
      at : (b : Bool) → Moved p (cond b (record p { lock = Some row }) p)
      at true = alike p (record p { lock = Some row }) s refl refl refl refl
      at false = alike p p s refl refl refl refl

  pub lock_moved : (p q : Pass) (need : Need) (row : ℕ) → Moved p q → Moved p (locked_by need row q)
  lock_moved p q (Reads s) row m = moved_on p q (with_lock row q) m (row_locked q row m.stands)
  lock_moved p q (Writes s) row m = moved_on p q (with_lock row q) m (row_locked q row m.stands)
  lock_moved p q (Syncs s) row m = m
  lock_moved p q NoNeed row m = m
  lock_moved p q (Answers answer) row m = m

  pub read_moved : (p : Pass) (work : List Work) (s : ℕ) (x : Sector) (row : ℕ) → Stands p
      → Moved p (locked_by (Reads s) row (pass_went shape work (Reads s) x p))
  read_moved p work s x row stands =
      let q = pass_went shape work (Reads s) x p in
      lock_moved p q (Reads s) row (alike p q stands refl refl refl refl)

  pub write_moved : (p : Pass) (work : List Work) (s : ℕ) (x : Sector) → Stands p → IsInRow p → p.row < shape.rows
      → Moved p (locked_by (Writes s) p.row (pass_went shape work (Writes s) x p))
  write_moved p work s x stands here below =
      let q = record p { written = p.written ++ s ∷ []; touched = with_slot s p.touched } in
      let first : Moved p q = alike p q stands refl refl refl refl in
      let inside : IsInRow q = record { going = here.going; rowing = here.rowing } in
      lock_moved p (pass_went shape work (Writes s) x p) (Writes s) p.row
      (moved_on p q (pass_went shape work (Writes s) x p) first
      (next_moved q (all_written q.written work) first.stands inside below))

  pub sync_moved : (p : Pass) (work : List Work) (s : ℕ) (x : Sector) (row : ℕ) → Stands p
      → Moved p (locked_by (Syncs s) row (pass_went shape work (Syncs s) x p))
  sync_moved p work s x row stands =
      let q = record p { touched = without s p.touched } in
      let first : Moved p q = alike p q stands refl refl refl refl in
      moved_on p q (pass_went shape work (Syncs s) x p) first
      (checkpoint_moved q q.syncing q.touched refl first.stands)

  -- A FAILURE

  drops_moved : (broken : Bool) (before after : List ℕ) (p : Pass) → Stands p → p.syncing ≡ true
      → Moved p (drops_sync shape broken before after p)
  drops_moved true before after p s on = alike p _ s refl refl refl refl
  drops_moved false [] after p s on = alike p _ s refl refl refl refl
  drops_moved false (t ∷ ts) [] p s on =
      let q = record p { touched = [] } in
      let first : Moved p q = alike p q s refl refl refl refl in
      moved_on p q (past_syncs shape q) first (synced_moved q first.stands on)
  drops_moved false (t ∷ ts) (u ∷ us) p s on = alike p _ s refl refl refl refl

  pub lost_moved : (d : ℕ) (slots : List Slot) (broken : Bool) (p : Pass) → Stands p
      → Moved p (pass_without shape d slots broken p)
  lost_moved d slots broken p s = at p.syncing refl
    where
      left : List ℕ
      left = touched_without d slots p.touched

      at : (b : Bool) → p.syncing ≡ b
          → Moved p (cond b (drops_sync shape broken p.touched left p)
          (record p { got = []; written = []; touched = left }))
      at true on = drops_moved broken p.touched left p s on
      at false off = alike p _ s refl refl refl refl

  -- A PASS THAT BEGINS

  pub begun_stands : (unit : ℕ) → Stands (pass_from unit)
  begun_stands unit = record {
    below = λ going. inl (omega arith);
    reached = λ going here. unit_first unit;
    inside = λ on. absurd cc;
  }

  -- WHAT HAS BEEN PASSED

  pub passed_on : (p q : Pass) (row : ℕ) → ComesTo shape.rows p q → HasPassed shape.rows p row
      → HasPassed shape.rows q row
  passed_on p q row (inl over) passed = inl over
  passed_on p q row (inr rises) (inl over) = absurd (let going = rises.going in cc (over, going))
  passed_on p q row (inr rises) (inr had) =
      let le = had.0 in
      let more = rises.ready in
      inr (omega (arith, le, more), rises.inside had.1)

  -- a row that is read now
  pub passed_here : (p : Pass) → Stands p → IsInRow p → p.row < shape.rows → HasPassed shape.rows p p.row
  passed_here p s here below = inr (
    s.reached here.going here.rowing,
    elim (s.below here.going) [
      | inl le ↦ omega (arith, le, below)
      | inr last ↦ absurd (omega (arith, last, below))
    ],
  )
