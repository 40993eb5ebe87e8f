-- The pass of a volume, where it is settled: which slots count by it, and that it fits the rows.
use Rattle.std.proofs.Common.{◌≡◌, ℕ, ◌<◌, ◌≤◌, nat_lt, Bool, true, false, List, [], refl, ap, sym, ◌∙◌, subst, arith, Some, ◌⊎◌, inl, inr, cond}
use Rattle.std.proofs.lemmas.Bool.Decides.{nat_tests}
use Rattle.device_log.specs.Log.{Call}
use Rattle.array_model.specs.declared.journal.Entry.{Entry}
use Rattle.array_machine.specs.Setting.{Setting}
use Rattle.array_machine.specs.Numbers.{has}
use Rattle.array_machine.specs.Volumes.{Slot, slot_at, disk_in, Member, member_at, is_usable, Pass}
use Rattle.array_machine.specs.Operations.{volume_of, shape_of, the_place}
use Rattle.array_machine.specs.Control.{Control}
use Rattle.array_machine.specs.SyncTurns.{work_by}
use Rattle.array_paths.specs.InTurn.{is_broken}
use Rattle.array_paths.specs.PassMove.{slots_of, members_at}
use Rattle.array_paths.specs.Ready.{RowsInside}
use Rattle.array_values.specs.Copies.{row_at, IsCopied, InPair}
use Rattle.array_values.proofs.Rows.{pass_of, disk_of, read_of, IsPast, content_at, is_unsure_at, stood, Counts, Tells, ReadOnce, PassHolds, MayRead, RowsHold}
use Rattle.array_values.proofs.Pairs.{pair_at, usable_is, usable_by, working_by}
use Rattle.array_values.proofs.Settled.{pair_rests, rows_rest, in_pair_from, StaysInRow, GoesPast}
use Rattle.array_values.proofs.Ground.{Ground}
use Rattle.array_values.proofs.PassRows.{NewPass, IsToCount}

module _ (S : Setting) where
  -- PASSES THAT FIT

  -- one that has read and written nothing
  pub empty_pass : (slots : List Slot) (faults : List ℕ) (log : List Call) (journal : List Entry) (v : ℕ) (p : Pass)
      → p.got ≡ [] → p.written ≡ [] → (p.over ≡ true → (shape_of S v).rows ≤ p.row) → NewPass S slots faults log journal v p
  empty_pass slots faults log journal v p got written over = record {
    lock = inr (got, written);
    over = over;
    got = λ s. inl (ap (read_of s) got);
    written = λ i s d volume copied row pair has_it disk works.
        absurd (let none : has s p.written ≡ false = ap (has s) written in cc (none, has_it));
  }

  -- one with the row and the work of another
  pub like_pass : (slots : List Slot) (faults : List ℕ) (log : List Call) (journal : List Entry) (v : ℕ) (p q : Pass)
      → NewPass S slots faults log journal v p → q.row ≡ p.row → q.got ≡ p.got → q.written ≡ p.written
      → (q.lock ≡ p.lock) ⊎ (q.lock ≡ Some q.row) → (q.over ≡ true → (shape_of S v).rows ≤ q.row)
      → NewPass S slots faults log journal v q
  like_pass slots faults log journal v p q n row got written lock over = record {
    lock = locked lock n.lock;
    over = over;
    got = λ s. read s (n.got s);
    written = λ i s d volume copied at pair has_it disk works.
        n.written i s d volume copied (at ∙ row) pair (sym (ap (has s) written) ∙ has_it) disk works;
  }
    where
      locked : (q.lock ≡ p.lock) ⊎ (q.lock ≡ Some q.row) → (p.lock ≡ Some p.row) ⊎ ((p.got ≡ []) × (p.written ≡ []))
          → (q.lock ≡ Some q.row) ⊎ ((q.got ≡ []) × (q.written ≡ []))
      locked (inr own) old = inl own
      locked (inl same) (inl is) = inl (same ∙ is ∙ ap (λ r. Some r) (sym row))
      locked (inl same) (inr none) = inr (got ∙ none.0, written ∙ none.1)

      read : (s : ℕ) → (read_of s p.got ≡ []) ⊎ ReadOnce S journal v p.row s p.got
          → (read_of s q.got ≡ []) ⊎ ReadOnce S journal v q.row s q.got
      read s (inl none) = inl (ap (read_of s) got ∙ none)
      read s (inr once) = inr (record {
        one = once.one;
        is = ap (read_of s) got ∙ once.is;
        tells = λ i volume copied at pair. once.tells i volume copied (at ∙ row) pair;
      })

  -- behind a call that leaves what it wrote
  pub later_pass : (slots : List Slot) (faults : List ℕ) (log later : List Call) (journal now : List Entry) (v : ℕ)
      (p : Pass)
      → ((i : ℕ) → (content_at S now i ≡ content_at S journal i) × (is_unsure_at S now i ≡ is_unsure_at S journal i))
      → ((i s d : ℕ) → volume_of S i ≡ v → IsCopied S i → InPair (the_place S i) s → disk_in slots s ≡ Some d
      → has d faults ≡ false → row_at S i ≡ p.row → p.lock ≡ Some p.row → has s p.written ≡ true
      → stood S later i d ≡ stood S log i d)
      → NewPass S slots faults log journal v p → NewPass S slots faults later now v p
  later_pass slots faults log later journal now v p content cell n = record {
    lock = n.lock;
    over = n.over;
    got = λ s. read s (n.got s);
    written = λ i s d volume copied row pair has_it disk works. wrote i s d volume copied row pair has_it disk works n.lock;
  }
    where
      read : (s : ℕ) → (read_of s p.got ≡ []) ⊎ ReadOnce S journal v p.row s p.got
          → (read_of s p.got ≡ []) ⊎ ReadOnce S now v p.row s p.got
      read s (inl none) = inl none
      read s (inr once) = inr (record {
        one = once.one;
        is = once.is;
        tells = λ i volume copied at pair x.
            once.tells i volume copied at pair (sym (content i).1 ∙ x) ∙ sym (content i).0;
      })

      wrote : (i s d : ℕ) → volume_of S i ≡ v → IsCopied S i → row_at S i ≡ p.row → InPair (the_place S i) s
          → has s p.written ≡ true → disk_in slots s ≡ Some d → has d faults ≡ false
          → (p.lock ≡ Some p.row) ⊎ ((p.got ≡ []) × (p.written ≡ [])) → Tells S later now i d
      wrote i s d volume copied row pair has_it disk works (inr none) =
          absurd (let not_it : has s p.written ≡ false = ap (has s) none.1 in cc (not_it, has_it))
      wrote i s d volume copied row pair has_it disk works (inl lock) = λ x.
          cell i s d volume copied pair disk works row lock has_it
          ∙ n.written i s d volume copied row pair has_it disk works (sym (content i).1 ∙ x) ∙ sym (content i).0

  module _ (c : Control) (log : List Call) (journal : List Entry) (rows : RowsHold S c log journal) (v : ℕ) where
    pub had_pass : (p : Pass) → PassHolds S c log journal v p → NewPass S (slots_of c v) c.round.faults log journal v p
    had_pass p h = record { lock = h.lock; over = h.over; got = h.got; written = h.written }

    -- WHERE IT IS SETTLED

    pub settled_pass : (ms : List Member) (had p : Pass) → StaysInRow (shape_of S v) ms had p ⊎ GoesPast (shape_of S v) ms had p
        → NewPass S (slots_of c v) c.round.faults log journal v had
        → NewPass S (slots_of c v) c.round.faults log journal v p
    settled_pass ms had p (inl stays) n =
        like_pass (slots_of c v) c.round.faults log journal v had p n stays.row stays.got stays.written (inl stays.lock)
        (λ h. subst (λ r. (shape_of S v).rows ≤ r) (sym stays.row) (over (stays.over h)))
      where
        over : (had.over ≡ true) ⊎ ((shape_of S v).rows ≤ had.row) → (shape_of S v).rows ≤ had.row
        over (inl h) = n.over h
        over (inr le) = le
    settled_pass ms had p (inr past) n =
        empty_pass (slots_of c v) c.round.faults log journal v p past.got past.written past.over

    -- what members say of the slots of the volume
    pub record Sees (ms : List Member) : Type 0 where
      pub works : (s d : ℕ) → disk_of c v s ≡ Some d → has d c.round.faults ≡ false → (member_at ms s).working ≡ true
      pub usable : (s d : ℕ) → disk_of c v s ≡ Some d → has d c.round.faults ≡ false
          → (slot_at (slots_of c v) s).in_sync ≡ true → is_usable (member_at ms s) ≡ true
      pub in_sync : (s : ℕ) → is_usable (member_at ms s) ≡ true → (slot_at (slots_of c v) s).in_sync ≡ true

    pub sees_now : Sees (members_at c v)
    sees_now = record {
      works = λ s d is works. working_by c.round.faults c.round.blocked (slots_of c v) s d is works;
      usable = λ s d is works sync. usable_by c.round.faults c.round.blocked (slots_of c v) s d is works sync;
      in_sync = λ s h. (usable_is c.round.faults c.round.blocked (slots_of c v) s h).3;
    }

    -- a slot counts by the pass as it was
    pub settled_counts : RowsInside S → Ground S c → (ms : List Member) → Sees ms → (q had p n : Pass) → pass_of c v ≡ Some q
        → had.row ≡ q.row → StaysInRow (shape_of S v) ms had p ⊎ GoesPast (shape_of S v) ms had p → n.row ≡ p.row
        → (i s d : ℕ) → IsToCount S c v (slots_of c v) (Some n) i s d → Counts S c i s d
    settled_counts inside g ms sees q had p n is same goes row i s d h = counts (why h.why)
      where
        mine : disk_of c (volume_of S i) s ≡ Some d
        mine = subst (λ w. disk_of c w s ≡ Some d) (sym h.volume) h.disk

        counts : ((slot_at (slots_of c v) s).in_sync ≡ true) ⊎ IsPast (pass_of c v) (row_at S i) → Counts S c i s d
        counts w = record {
          sound = subst (λ z. is_broken c z ≡ false) (sym h.volume) h.sound;
          pair = h.pair;
          disk = mine;
          works = h.works;
          why = subst (λ z. ((slot_at (slots_of c z) s).in_sync ≡ true) ⊎ IsPast (pass_of c z) (row_at S i)) (sym h.volume) w;
        }

        past_q : (r : ℕ) → r ≡ q.row → row_at S i < r → IsPast (pass_of c v) (row_at S i)
        past_q r e lt = record { at = q; is = is; above = subst (λ z. row_at S i < z) e lt }

        may : MayRead S c i
        may = rows.runs i h.copied (subst (λ w. S.start.is_started w ≡ true) (sym h.volume) (g.begun v s d h.disk))
            (subst (λ z. is_broken c z ≡ false) (sym h.volume) h.sound)

        level_is : (shape_of S (volume_of S i)).level ≡ (shape_of S v).level
        level_is = ap (λ w. (shape_of S w).level) h.volume

        in_sync : work_by (shape_of S (volume_of S i)).level (shape_of S v) had.row ms ≡ [] → (slot_at (slots_of c v) s).in_sync ≡ true
        in_sync none =
            let m = may in
            let pair = pair_at S i h.copied in
            let rests = rows_rest ms (shape_of S (volume_of S i)).level (shape_of S v) had.row (the_place S i) h.copied.copies pair none in
            let disk_there = subst (λ w. disk_of c w m.slot ≡ Some m.disk) h.volume m.is in
            let sync_there = subst (λ w. (slot_at (slots_of c w) m.slot).in_sync ≡ true) h.volume m.in_sync in
            sees.in_sync s
            (pair_rests ms pair.base m.slot s rests (in_pair_from _ (the_place S i) pair m.slot m.pair)
            (sees.usable m.slot m.disk disk_there m.works sync_there)
            (in_pair_from _ (the_place S i) pair s h.pair) (sees.works s d h.disk h.works))

        by : (b : Bool) → nat_lt had.row (shape_of S v).rows ≡ b
            → cond b (work_by (shape_of S v).level (shape_of S v) had.row ms) [] ≡ []
            → ((slot_at (slots_of c v) s).in_sync ≡ true) ⊎ IsPast (pass_of c v) (row_at S i)
        by true lt none = inl (in_sync (ap (λ l. work_by l (shape_of S v) had.row ms) level_is ∙ none))
        by false ge none =
            let below = inside i (the_place S i) h.copied.placed in
            let rows_are : (shape_of S (volume_of S i)).rows ≡ (shape_of S v).rows = ap (λ w. (shape_of S w).rows) h.volume in
            let above : (shape_of S v).rows ≤ had.row = grind (arith, nat_tests, ge) in
            inr (past_q had.row same (omega (arith, below, rows_are, above)))

        past : IsPast (Some n) (row_at S i) → StaysInRow (shape_of S v) ms had p ⊎ GoesPast (shape_of S v) ms had p
            → ((slot_at (slots_of c v) s).in_sync ≡ true) ⊎ IsPast (pass_of c v) (row_at S i)
        past x (inl stays) =
            let one : n ≡ x.at = let e = x.is in cc e in
            inr (past_q x.at.row (ap (λ (z : Pass). z.row) (sym one) ∙ row ∙ stays.row ∙ same) x.above)
        past x (inr gone) = by (nat_lt had.row (shape_of S v).rows) refl gone.none

        why : ((slot_at (slots_of c v) s).in_sync ≡ true) ⊎ IsPast (Some n) (row_at S i)
            → ((slot_at (slots_of c v) s).in_sync ≡ true) ⊎ IsPast (pass_of c v) (row_at S i)
        why (inl sync) = inl sync
        why (inr x) = past x goes

    -- the slot that may be read goes on to be one, where slots stay
    pub runs_still : (i : ℕ) → volume_of S i ≡ v → MayRead S c i
        → (s : ℕ) × (d : ℕ) × InPair (the_place S i) s × (disk_of c v s ≡ Some d) × (has d c.round.faults ≡ false)
        × ((slot_at (slots_of c v) s).in_sync ≡ true)
    runs_still i volume m = (
      m.slot,
      m.disk,
      m.pair,
      subst (λ w. disk_of c w m.slot ≡ Some m.disk) volume m.is,
      m.works,
      subst (λ w. (slot_at (slots_of c w) m.slot).in_sync ≡ true) volume m.in_sync,
    )
