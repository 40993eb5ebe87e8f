-- The turns of a sync worker are made of such changes.
use Rattle.std.proofs.Common.{◌≡◌, ℕ, zero, suc, ◌+◌, ◌≤◌, ◌==◌, ◌||◌, not, nat_lt, Bool, true, false, List, [], ◌∷◌, ◌++◌, length, refl, ap, sym, ◌∙◌, subst, arith, Option, Some, None, ◌⊎◌, inl, inr, cond, eq-eqb}
use Rattle.std.specs.List.{list_any}
use Rattle.std.specs.Option.{option_map_or}
use Rattle.std.proofs.lemmas.Bool.{and_parts}
use Rattle.units.specs.declared.bounds.TheConstants.{CLIENTS}
use Rattle.units.specs.declared.disk.Sector.{Sector}
use Rattle.array_model.specs.Placement.{Shape}
use Rattle.array_machine.specs.Numbers.{without}
use Rattle.array_machine.specs.Setting.{Setting}
use Rattle.array_machine.specs.Volumes.{Slot, disk_in, members_of, Member, Pass, Volume, volume_at, source_in}
use Rattle.array_machine.specs.Operations.{shape_of}
use Rattle.array_machine.specs.Clients.{Client, no_client, client_at}
use Rattle.array_machine.specs.Rounds.{Ended}
use Rattle.array_machine.specs.Control.{Control}
use Rattle.array_machine.specs.Changes.{DiskFails, PassMoves, GoesOnQuietly}
use Rattle.array_machine.specs.Faults.{pass_without}
use Rattle.array_machine.specs.Locks.{holds, locked_from, pass_holds}
use Rattle.array_machine.specs.Puts.{put}
use Rattle.array_machine.specs.RowJobs.{Need, NoNeed, Reads, Writes, Syncs, Answers, sync_or}
use Rattle.array_machine.specs.SyncTurns.{Work, row_work, settled, pass_need, with_slot, all_written, next_row, pass_went, with_lock, locked_by, pass_what, pass_moves, pass_changes, pass_on, pass_meets, is_free_row, pass_at, synced}
use Rattle.array_machine.specs.Turns.{idle, quietly, may_call, call_if, calling}
use Rattle.array_paths.specs.InTurn.{job_of}
use Rattle.array_rest.specs.Between.{PassStands, Kept, TurnIsOver, PassGoes}
use Rattle.array_rest.proofs.Parts.{not_true, same_or_not}
use Rattle.array_rest.proofs.Failures.{lost_lock, stands_lost, same_slots, same_started, started_by, fault_holds, fault_pass_holds}
use Rattle.array_rest.proofs.Changes.{others_free}
use Rattle.array_rest.proofs.PassSteps.{work_is, checked_lock, settled_lock, settled_stands, IsInRow, with_lock_stands, went_read, went_write, went_sync}
use Rattle.array_rest.proofs.Turns.{MayEnd, over_may, fault_may, Turns, over, next, ended_turn}

-- LOCKS

-- past the last of some clients there is none
pub past_clients : (xs : List Client) (k : ℕ) → length xs ≤ k → client_at xs k ≡ no_client
past_clients [] k le = refl
past_clients (x ∷ xs) zero le = absurd (omega (arith, le))
past_clients (x ∷ xs) (suc k) le = past_clients xs k (omega (arith, le))

-- the lock that a pass has behind its call is that of its row, or the one that it had
lock_cases : (row : ℕ) (p : Pass) (other : ℕ) → (with_lock row p).lock ≡ Some other
    → (row ≡ other) ⊎ (p.lock ≡ Some other)
lock_cases row p other is = at (p.row == row) is
  where
    at : (b : Bool) → (cond b (record p { lock = Some row }) p).lock ≡ Some other
        → (row ≡ other) ⊎ (p.lock ≡ Some other)
    at true is = inl (cc is)
    at false is = inr is

went_lock : (shape : Shape) (work : List Work) (need : Need) (x : Sector) (p : Pass) (row : ℕ)
    → (pass_went shape work need x p).lock ≡ Some row → p.lock ≡ Some row
went_lock shape work NoNeed x p row is = is
went_lock shape work (Reads s) x p row is = is
went_lock shape work (Writes s) x p row is = at (all_written (p.written ++ s ∷ []) work) is
  where
    at : (b : Bool)
        → (next_row shape b (record p { written = p.written ++ s ∷ []; touched = with_slot s p.touched })).lock ≡ Some row
        → p.lock ≡ Some row
    at true is = absurd cc
    at false is = is
went_lock shape work (Syncs s) x p row is =
    sym (checked_lock shape p.syncing (without s p.touched) (record p { touched = without s p.touched })) ∙ is
went_lock shape work (Answers answer) x p row is = is

-- a call in a row is made in a row
reads_inside : (p : Pass) (work : List Work) (over syncing : Bool) (s : ℕ)
    → pass_need p work over syncing ≡ Reads s → (over ≡ false) × (syncing ≡ false)
reads_inside p work true syncing s is = absurd cc
reads_inside p work false true s is = absurd (at p.touched is)
  where
    at : (touched : List ℕ) → sync_or touched NoNeed ≡ Reads s → ⊥
    at [] is = cc is
    at (t ∷ ts) is = cc is
reads_inside p work false false s is = (refl, refl)

writes_inside : (p : Pass) (work : List Work) (over syncing : Bool) (s : ℕ)
    → pass_need p work over syncing ≡ Writes s → (over ≡ false) × (syncing ≡ false)
writes_inside p work true syncing s is = absurd cc
writes_inside p work false true s is = absurd (at p.touched is)
  where
    at : (touched : List ℕ) → sync_or touched NoNeed ≡ Writes s → ⊥
    at [] is = cc is
    at (t ∷ ts) is = cc is
writes_inside p work false false s is = (refl, refl)

module _ (S : Setting) (c : Control) (kept : Kept S c) (ends : TurnIsOver S c) (v : ℕ) where
  abbrev y : Volume
  y = volume_at c.volumes v

  abbrev shape : Shape
  shape = shape_of S v

  abbrev members : List Member
  members = members_of c.round.faults c.round.blocked y.slots

  -- nobody holds a row that is free
  pub nobody : (row : ℕ) → is_free_row S c v row ≡ true → (k : ℕ) → holds S v row (job_of c k) ≡ false
  nobody row free k = elim (same_or_not k CLIENTS) [
    | inl last ↦
        let count = kept.count in
        ap (λ (x : Client). holds S v row x.job) (past_clients c.clients k (omega (arith, last, count)))
    | inr other ↦
        let both = and_parts (nat_lt row shape.rows) (not (locked_from S v row CLIENTS 0 c.clients)) free in
        let none : locked_from S v row CLIENTS 0 c.clients ≡ false = not_true _ (λ is. let bad = both.1 in cc (is, bad)) in
        others_free S c kept v row CLIENTS 0 c.clients none k
        (let same : 0 + k ≡ k = omega arith in ap (λ n. n == CLIENTS) same ∙ other)
  ]

  -- a pass that moves leaves what holds where a turn may end
  moved_may : (e : Control) (slots : List Slot) (p : Pass) → MayEnd S e
      → MayEnd S (put S (PassMoves v slots (Some p) GoesOnQuietly) e)
  moved_may e slots p m = record { halted = m.halted; submitted = m.submitted; applied = m.applied }

  -- THE PASS

  module _ (had : Pass) (is_had : y.pass ≡ Some had) where
    abbrev q : Pass
    q = settled shape members had

    abbrev work : List Work
    work = row_work shape members q.row

    stands : PassStands S c.round.faults y.slots v q
    stands = settled_stands S c.round.faults y.slots v members had (kept.passes v had is_had)

    started : y.started ≡ true
    started = started_by S c 0 kept v had y.started refl is_had

    -- the lock that it had, it holds
    held : (row : ℕ) → q.lock ≡ Some row → pass_holds row y.pass ≡ true
    held row is =
        let lock = settled_lock shape members had row is in
        let same : (row == row) ≡ true = eq-eqb row row refl in
        ap (pass_holds row) is_had ∙ ap (λ l. option_map_or (λ r. r == row) l false) lock ∙ same

    -- it comes to its end without a call
    comes_fine : PassGoes S c v y.slots q
    comes_fine = record { started = started; same = refl; stands = stands; free = λ row lock. inl (held row lock) }

    -- ITS CALL

    -- whether the row of a need is free
    abbrev FreeFor : Need → Type 0
    FreeFor (Reads s) = is_free_row S c v q.row ≡ true
    FreeFor (Writes s) = is_free_row S c v q.row ≡ true
    FreeFor _ = q.row ≡ q.row

    inside : (s : ℕ) (need : Need) → pass_need q work q.over q.syncing ≡ need → (need ≡ Reads s) ⊎ (need ≡ Writes s)
        → IsInRow S c.round.faults y.slots v q
    inside s need is (inl reads) =
        let both = reads_inside q work q.over q.syncing s (is ∙ reads) in record { goes_on = both.0; in_row = both.1 }
    inside s need is (inr writes) =
        let both = writes_inside q work q.over q.syncing s (is ∙ writes) in record { goes_on = both.0; in_row = both.1 }

    -- the lock behind the call of a need, of a pass that has no lock but that of q
    lock_free : (need : Need) → FreeFor need → (p : Pass) → ((row : ℕ) → p.lock ≡ Some row → q.lock ≡ Some row)
        → (row : ℕ) → (locked_by need q.row p).lock ≡ Some row
        → (pass_holds row y.pass ≡ true) ⊎ ((k : ℕ) → holds S v row (job_of c k) ≡ false)
    lock_free NoNeed free p was row is = inl (held row (was row is))
    lock_free (Reads s) free p was row is = elim (lock_cases q.row p row is) [
      | inl here ↦ inr (subst (λ n. (k : ℕ) → holds S v n (job_of c k) ≡ false) here (nobody q.row free))
      | inr old ↦ inl (held row (was row old))
    ]
    lock_free (Writes s) free p was row is = elim (lock_cases q.row p row is) [
      | inl here ↦ inr (subst (λ n. (k : ℕ) → holds S v n (job_of c k) ≡ false) here (nobody q.row free))
      | inr old ↦ inl (held row (was row old))
    ]
    lock_free (Syncs s) free p was row is = inl (held row (was row is))
    lock_free (Answers answer) free p was row is = inl (held row (was row is))

    -- it went through
    went_stands : (need : Need) → pass_need q work q.over q.syncing ≡ need → (x : Sector) (d : ℕ)
        → may_call S c.round d ≡ true
        → ((s : ℕ) → need ≡ Writes s → disk_in y.slots s ≡ Some d)
        → PassStands S c.round.faults y.slots v (locked_by need q.row (pass_went shape work need x q))
    went_stands NoNeed is x d may on = stands
    went_stands (Reads s) is x d may on =
        went_read S c.round.faults y.slots v q work
        (work_is S c.round.faults c.round.blocked y.slots v q.row) stands s x (inside s (Reads s) is (inl refl))
    went_stands (Writes s) is x d may on =
        went_write S c.round.faults y.slots v q work
        (work_is S c.round.faults c.round.blocked y.slots v q.row) stands s x (inside s (Writes s) is (inr refl))
        (record { number = d; is = on s refl; may = may })
    went_stands (Syncs s) is x d may on =
        went_sync S c.round.faults y.slots v q work
        (work_is S c.round.faults c.round.blocked y.slots v q.row) stands s x
    went_stands (Answers answer) is x d may on = stands

    went_fine : (need : Need) → pass_need q work q.over q.syncing ≡ need → FreeFor need → (x : Sector) (d : ℕ)
        → may_call S c.round d ≡ true
        → ((s : ℕ) → need ≡ Writes s → disk_in y.slots s ≡ Some d)
        → PassGoes S c v y.slots (locked_by need q.row (pass_went shape work need x q))
    went_fine need is free x d may on = record {
      started = started;
      same = refl;
      stands = went_stands need is x d may on;
      free = lock_free need free (pass_went shape work need x q) (λ row. went_lock shape work need x q row);
    }

    -- it failed
    module _ (d : ℕ) where
      abbrev failed : Control
      failed = put S (DiskFails d) c

      abbrev lost : Pass
      lost = pass_without shape d y.slots (volume_at failed.volumes v).broken q

      lost_stands : PassStands S (d ∷ c.round.faults) y.slots v lost
      lost_stands = stands_lost S d c.round.faults y.slots v (volume_at failed.volumes v).broken q stands

      lost_inside : (slots : List Slot) (broken : Bool) (p : Pass) → p.over ≡ false → p.syncing ≡ false
          → IsInRow S (d ∷ c.round.faults) y.slots v (pass_without shape d slots broken p)
      lost_inside slots broken p goes_on in_row = rw in_row (record { goes_on = goes_on; in_row = refl })

      locked_stands : (need : Need) → pass_need q work q.over q.syncing ≡ need
          → PassStands S (d ∷ c.round.faults) y.slots v (locked_by need q.row lost)
      locked_stands NoNeed is = lost_stands
      locked_stands (Reads s) is =
          let within = inside s (Reads s) is (inl refl) in
          with_lock_stands S (d ∷ c.round.faults) y.slots v q.row lost
          (λ same. lost_inside y.slots (volume_at failed.volumes v).broken q within.goes_on within.in_row) lost_stands
      locked_stands (Writes s) is =
          let within = inside s (Writes s) is (inr refl) in
          with_lock_stands S (d ∷ c.round.faults) y.slots v q.row lost
          (λ same. lost_inside y.slots (volume_at failed.volumes v).broken q within.goes_on within.in_row) lost_stands
      locked_stands (Syncs s) is = lost_stands
      locked_stands (Answers answer) is = lost_stands

      lost_fine : (need : Need) → pass_need q work q.over q.syncing ≡ need → FreeFor need
          → PassGoes S failed v y.slots (locked_by need q.row lost)
      lost_fine need is free = record {
        started = same_started S c d kept v ∙ started;
        same = sym (same_slots S c d kept v);
        stands = locked_stands need is;
        free = λ row lock. elim (lock_free need free lost
            (λ r l. sym (lost_lock shape d y.slots (volume_at failed.volumes v).broken q) ∙ l) row lock) [
              | inl mine ↦ inl (fault_pass_holds S c d kept v row ∙ mine)
              | inr none ↦ inr (λ k. fault_holds S c d kept v row k ∙ none k)
            ];
      }

    -- ITS TURN

    call_made : (need : Need) → pass_need q work q.over q.syncing ≡ need → FreeFor need → (x : Ended) (d : ℕ)
        → may_call S c.round d ≡ true → ((s : ℕ) → need ≡ Writes s → disk_in y.slots s ≡ Some d) → (went : Bool)
        → Turns S c (pass_changes S c v y q work x need d went)
    call_made need is free x d may on true =
        next (pass_moves v y need q.row (pass_went shape work need x.got q)) (went_fine need is free x.got d may on)
        (over ends)
    call_made need is free x d may on false =
        let e = failed d in
        let a = pass_moves v y need q.row (lost d) in
        next (DiskFails d) tt (next a (lost_fine d need is free)
        (ended_turn S (put S a e)
        (moved_may e y.slots (locked_by need q.row (lost d)) (fault_may S c d (over_may S c ends)))))

    on_made : (need : Need) → pass_need q work q.over q.syncing ≡ need → FreeFor need → (x : Ended) (disk : Option ℕ)
        → ((d s : ℕ) → disk ≡ Some d → need ≡ Writes s → disk_in y.slots s ≡ Some d)
        → Turns S c (pass_on S c v y q work x need disk).changes
    on_made need is free x None on = over ends
    on_made need is free x (Some d) on = at (may_call S c.round d) refl
      where
        at : (b : Bool) → may_call S c.round d ≡ b
            → Turns S c
            (call_if b (calling d (pass_what S v q work x need) x (pass_changes S c v y q work x need d x.went))).changes
        at true may = call_made need is free x d may (λ s. on d s refl) x.went
        at false may = over ends

    meets_made : (x : Ended) (free : Bool) → is_free_row S c v q.row ≡ free → (need : Need)
        → pass_need q work q.over q.syncing ≡ need → Turns S c (pass_meets S c v y q work x free need).changes
    meets_made x free is_free NoNeed is = at q.over
      where
        at : (b : Bool)
            → Turns S c (cond b (quietly (PassMoves v y.slots (Some q) GoesOnQuietly ∷ [])) idle).changes
        at true = next (PassMoves v y.slots (Some q) GoesOnQuietly) comes_fine (over ends)
        at false = over ends
    meets_made x true is_free (Reads s) is =
        on_made (Reads s) is is_free x (source_in y s) (λ d t on bad. absurd (cc bad))
    meets_made x false is_free (Reads s) is = over ends
    meets_made x true is_free (Writes s) is =
        on_made (Writes s) is is_free x (disk_in y.slots s)
        (λ d t on same. let eq : s ≡ t = cc same in ap (disk_in y.slots) (sym eq) ∙ on)
    meets_made x false is_free (Writes s) is = over ends
    meets_made x true is_free (Syncs s) is =
        on_made (Syncs s) is refl x (disk_in y.slots s) (λ d t on bad. absurd (cc bad))
    meets_made x false is_free (Syncs s) is =
        on_made (Syncs s) is refl x (disk_in y.slots s) (λ d t on bad. absurd (cc bad))
    meets_made x true is_free (Answers answer) is = over ends
    meets_made x false is_free (Answers answer) is = over ends

  sync_at : (x : Ended) (stops : Bool) (pass : Option Pass) → y.pass ≡ pass
      → Turns S c (pass_at S c v y x stops pass).changes
  sync_at x stops None is = over ends
  sync_at x true (Some p) is = over ends
  sync_at x false (Some p) is =
      meets_made p is x (is_free_row S c v (q p is).row) refl
      (pass_need (q p is) (work p is) (q p is).over (q p is).syncing) refl

  pub sync_turn : (x : Ended) → Turns S c (synced S c v x).changes
  sync_turn x =
      sync_at x
      (y.broken || option_map_or (λ p. p.over) y.pass false || list_any (λ m. m.blocked) members) y.pass refl
