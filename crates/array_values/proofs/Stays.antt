-- The rows hold on where no job moves, no pass moves, and no row of a working disk is written: whatever else fails or
-- changes.
use Rattle.std.proofs.Common.{◌≡◌, ℕ, zero, suc, ◌<◌, ◌≤◌, true, false, List, [], ◌∷◌, ◌++◌, length, refl, ap, sym, ◌∙◌, subst, arith, length-append, Option, Some, None, ◌⊎◌, inl, inr, slice_get}
use Rattle.std.proofs.lemmas.List.{take-append-le}
use Rattle.units.specs.declared.disk.Sector.{Sector}
use Rattle.device_log.specs.Log.{Call}
use Rattle.array_model.specs.declared.journal.Entry.{Entry}
use Rattle.array_model.specs.AnswerLaw.{IsGiven, submitted_from}
use Rattle.array_model.specs.Start.{Start}
use Rattle.array_machine.specs.Setting.{Setting}
use Rattle.array_machine.specs.Numbers.{has}
use Rattle.array_machine.specs.Volumes.{Slot, slot_at, disk_in, Pass}
use Rattle.array_machine.specs.Operations.{volume_of, shape_of, the_place}
use Rattle.array_machine.specs.Clients.{Row, Busy}
use Rattle.array_machine.specs.Control.{Control}
use Rattle.array_machine.specs.Machine.{log_after}
use Rattle.array_paths.specs.InTurn.{is_broken, job_of}
use Rattle.array_paths.specs.PassMove.{slots_of}
use Rattle.array_values.specs.Copies.{row_at, IsCopied, InPair}
use Rattle.array_values.proofs.Rows.{pass_of, disk_of, disk_then, read_of, IsPast, IsOneSlot, content_at, is_unsure_at, IsSure, stood, Counts, IsWriting, Tells, WriterHolds, HasRead, ReaderHolds, ReadOnce, PassHolds, MayRead, RowsHold}

-- WHAT WAS GIVEN

get_first : {X : Type 0} (xs ys : List X) (k : ℕ) (x : X) → slice_get xs k ≡ Some x → slice_get (xs ++ ys) k ≡ Some x
get_first [] ys k x is = absurd cc
get_first (y ∷ xs) ys zero x is = is
get_first (y ∷ xs) ys (suc k) x is = get_first xs ys k x is

given_more : (start : Start) (log more : List Call) (v row since stamp : ℕ) (y : Sector) → length log ≤ stamp
    → IsGiven start log v row since (length log) y → IsGiven start (log ++ more) v row since stamp y
given_more start log more v row since stamp y le g = record {
  before = g.before;
  disk = g.disk;
  place = g.place;
  from = g.from;
  until = let lt = g.until in omega (arith, le, lt);
  at_row = g.at_row;
  call = get_first log more g.before _ g.call;
  gives = let lt = g.until in let early : g.before ≤ length log = omega (arith, lt) in
      rw (take-append-le g.before log more early) g.gives;
}

-- what a read gave, with a call more
pub given_later : (start : Start) (log : List Call) (call : Option Call) (v row since : ℕ) (y : Sector)
    → IsGiven start log v row since (length log) y
    → IsGiven start (log_after log call) v row since (length (log_after log call)) y
given_later start log None v row since y g = g
given_later start log (Some k) v row since y g =
    let long = length-append log (k ∷ []) in given_more start log (k ∷ []) v row since _ y (omega (arith, long)) g

-- WHAT STAYS

module _ (S : Setting) where
  -- a job's row: a read may begin anew
  pub record RowStays (old new : Row) : Type 0 where
    pub begun : new.begun ≡ old.begun
    pub written : new.written ≡ old.written
    pub disks : new.disks ≡ old.disks
    pub got : ((new.plan ≡ old.plan) × (new.got ≡ old.got)) ⊎ ((new.plan ≡ None) × (new.got ≡ []))

  -- a pass: it may begin its row again, or come to its end
  pub record PassStays (v : ℕ) (old new : Pass) : Type 0 where
    pub row : new.row ≡ old.row
    pub lock : new.lock ≡ old.lock
    pub over : new.over ≡ true → (old.over ≡ true) ⊎ ((shape_of S v).rows ≤ old.row)
    pub work : ((new.got ≡ old.got) × (new.written ≡ old.written)) ⊎ ((new.got ≡ []) × (new.written ≡ []))
    pub at_checkpoint : old.syncing ≡ true → (new.got ≡ old.got) × (new.written ≡ old.written)

  pub row_itself : (r : Row) → RowStays r r
  row_itself r = record { begun = refl; written = refl; disks = refl; got = inl (refl, refl) }

  pub pass_itself : (v : ℕ) (p : Pass) → PassStays v p p
  pass_itself v p = record { row = refl; lock = refl; over = λ h. inl h; work = inl (refl, refl); at_checkpoint = λ h. (refl, refl) }

  -- one control state behind another, with a call and what was entered
  pub record Stays (c new : Control) (log : List Call) (call : Option Call) (journal now : List Entry) : Type 0 where
    pub faults : (d : ℕ) → has d new.round.faults ≡ false → has d c.round.faults ≡ false
    pub sound : (v : ℕ) → is_broken new v ≡ false → is_broken c v ≡ false
    pub slots : (v : ℕ) → slots_of new v ≡ slots_of c v
    pub pass : (v : ℕ) (q : Pass) → pass_of new v ≡ Some q → (p : Pass) × (pass_of c v ≡ Some p) × PassStays v p q
    pub had : (k i : ℕ) (q : Row) → job_of new k ≡ Busy i q → (r : Row) × (job_of c k ≡ Busy i r) × RowStays r q
    pub has_still : (k i : ℕ) (r : Row) → job_of c k ≡ Busy i r → (q : Row) × (job_of new k ≡ Busy i q) × RowStays r q
    pub clients : length new.clients ≡ length c.clients
    pub content : (i : ℕ) → content_at S now i ≡ content_at S journal i
    pub unsure : (i : ℕ) → is_unsure_at S now i ≡ is_unsure_at S journal i
    pub submitted : (k i : ℕ) (r : Row) → job_of c k ≡ Busy i r
        → submitted_from i 0 now ≡ submitted_from i 0 journal
    pub cells : (i s d : ℕ) → IsCopied S i → is_broken new (volume_of S i) ≡ false
        → disk_of new (volume_of S i) s ≡ Some d → has d new.round.faults ≡ false
        → stood S (log_after log call) i d ≡ stood S log i d
    pub runs : (i : ℕ) → IsCopied S i → S.start.is_started (volume_of S i) ≡ true
        → is_broken new (volume_of S i) ≡ false → MayRead S new i

  module _ (c new : Control) (log : List Call) (call : Option Call) (journal now : List Entry)
      (same : Stays c new log call journal now) (rows : RowsHold S c log journal) where
    sure : (i : ℕ) → IsSure S now i → IsSure S journal i
    sure i h = sym (same.unsure i) ∙ h

    -- what counts did before
    counted : (i s d : ℕ) → Counts S new i s d → Counts S c i s d
    counted i s d h = record {
      sound = same.sound (volume_of S i) h.sound;
      pair = h.pair;
      disk = ap (λ (x : List Slot). disk_in x s) (sym (same.slots (volume_of S i))) ∙ h.disk;
      works = same.faults d h.works;
      why = at h.why;
    }
      where
        at : ((slot_at (slots_of new (volume_of S i)) s).in_sync ≡ true) ⊎ IsPast (pass_of new (volume_of S i)) (row_at S i)
            → ((slot_at (slots_of c (volume_of S i)) s).in_sync ≡ true) ⊎ IsPast (pass_of c (volume_of S i)) (row_at S i)
        at (inl sync) =
            inl (ap (λ (x : List Slot). (slot_at x s).in_sync) (sym (same.slots (volume_of S i))) ∙ sync)
        at (inr past) =
            let old = same.pass (volume_of S i) past.at past.is in
            inr (record { at = old.0; is = old.1; above = subst (λ n. row_at S i < n) old.2.row past.above })

    cell : (i s d : ℕ) → IsCopied S i → Counts S new i s d → stood S (log_after log call) i d ≡ stood S log i d
    cell i s d copied h = same.cells i s d copied h.sound h.disk h.works

    tells : (i d : ℕ) → stood S (log_after log call) i d ≡ stood S log i d → Tells S log journal i d
        → Tells S (log_after log call) now i d
    tells i d cell old h = cell ∙ old (sure i h) ∙ sym (same.content i)

    writing : (i : ℕ) → IsWriting S c i → IsWriting S new i
    writing i w =
        let still = same.has_still w.client w.op w.row w.has in
        record {
          client = w.client;
          op = w.op;
          row = still.0;
          has = still.1;
          begun = still.2.begun ∙ w.begun;
          writes = w.writes;
          volume = w.volume;
          sector = w.sector;
        }

    writer : (i : ℕ) (r q : Row) → IsCopied S i → RowStays r q → WriterHolds S c log i r
        → WriterHolds S new (log_after log call) i q
    writer i r q copied stays w = record {
      early = λ h. stays.written ∙ w.early (sym stays.begun ∙ h);
      wrote = λ h s d counts has_it.
          cell i s d copied counts
          ∙ w.wrote (sym stays.begun ∙ h) s d (counted i s d counts) (sym (ap (has s) stays.written) ∙ has_it);
      saw = λ h s d counts no_it.
          ap (λ ds. disk_then ds s) stays.disks
          ∙ w.saw (sym stays.begun ∙ h) s d (counted i s d counts) (sym (ap (has s) stays.written) ∙ no_it);
    }

    read_still : (i : ℕ) (r q : Row) → q.plan ≡ r.plan → q.got ≡ r.got → q.begun ≡ r.begun
        → submitted_from i 0 now ≡ submitted_from i 0 journal → HasRead S log journal i r
        → HasRead S (log_after log call) now i q
    read_still i r q plan got begun submitted h = record {
      got = h.got;
      is = got ∙ h.is;
      plan = plan ∙ h.plan;
      begun = begun ∙ h.begun;
      sure = λ x. h.sure (sure i x) ∙ sym (same.content i);
      given = rw submitted (given_later S.start log call (volume_of S i) (row_at S i) _ h.got.sector h.given);
    }

    reader : (i : ℕ) (r q : Row) → RowStays r q → submitted_from i 0 now ≡ submitted_from i 0 journal
        → ReaderHolds S log journal i r → ReaderHolds S (log_after log call) now i q
    reader i r q stays submitted w = at stays.got
      where
        by : q.plan ≡ r.plan → q.got ≡ r.got → (r.got ≡ []) ⊎ HasRead S log journal i r
            → (q.got ≡ []) ⊎ HasRead S (log_after log call) now i q
        by plan got (inl none) = inl (got ∙ none)
        by plan got (inr h) = inr (read_still i r q plan got stays.begun submitted h)

        at : ((q.plan ≡ r.plan) × (q.got ≡ r.got)) ⊎ ((q.plan ≡ None) × (q.got ≡ []))
            → ReaderHolds S (log_after log call) now i q
        at (inl old) = record { plan = subst (IsOneSlot (the_place S i)) (sym old.0) w.plan; got = by old.0 old.1 w.got }
        at (inr none) = record { plan = subst (IsOneSlot (the_place S i)) (sym none.0) tt; got = inl none.1 }

    pass_still : (v : ℕ) (p q : Pass) → is_broken new v ≡ false → PassStays v p q → PassHolds S c log journal v p
        → PassHolds S new (log_after log call) now v q
    pass_still v p q sound stays h = record {
      lock = lock h.lock stays.work;
      over = λ o. subst (λ n. (shape_of S v).rows ≤ n) (sym stays.row) (over (stays.over o));
      got = λ s. got s stays.work (h.got s);
      written = λ i s d volume copied row pair has_it disk works.
          wrote i s d volume copied row pair has_it disk works stays.work;
    }
      where
        over : (p.over ≡ true) ⊎ ((shape_of S v).rows ≤ p.row) → (shape_of S v).rows ≤ p.row
        over (inl o) = h.over o
        over (inr le) = le

        lock : (p.lock ≡ Some p.row) ⊎ ((p.got ≡ []) × (p.written ≡ []))
            → ((q.got ≡ p.got) × (q.written ≡ p.written)) ⊎ ((q.got ≡ []) × (q.written ≡ []))
            → (q.lock ≡ Some q.row) ⊎ ((q.got ≡ []) × (q.written ≡ []))
        lock l (inr none) = inr none
        lock (inl is) (inl old) = inl (stays.lock ∙ is ∙ ap (λ n. Some n) (sym stays.row))
        lock (inr none) (inl old) = inr (old.0 ∙ none.0, old.1 ∙ none.1)

        got : (s : ℕ) → ((q.got ≡ p.got) × (q.written ≡ p.written)) ⊎ ((q.got ≡ []) × (q.written ≡ []))
            → (read_of s p.got ≡ []) ⊎ ReadOnce S journal v p.row s p.got
            → (read_of s q.got ≡ []) ⊎ ReadOnce S now v q.row s q.got
        got s (inr none) old = inl (ap (read_of s) none.0)
        got s (inl kept) (inl none) = inl (ap (read_of s) kept.0 ∙ none)
        got s (inl kept) (inr once) = inr (record {
          one = once.one;
          is = ap (read_of s) kept.0 ∙ once.is;
          tells = λ i volume copied row pair x.
              once.tells i volume copied (row ∙ stays.row) pair (sure i x) ∙ sym (same.content i);
        })

        wrote : (i s d : ℕ) → volume_of S i ≡ v → IsCopied S i → row_at S i ≡ q.row → InPair (the_place S i) s
            → has s q.written ≡ true → disk_of new v s ≡ Some d → has d new.round.faults ≡ false
            → ((q.got ≡ p.got) × (q.written ≡ p.written)) ⊎ ((q.got ≡ []) × (q.written ≡ []))
            → Tells S (log_after log call) now i d
        wrote i s d volume copied row pair has_it disk works (inr none) =
            absurd (let not_it : has s q.written ≡ false = ap (has s) none.1 in cc (not_it, has_it))
        wrote i s d volume copied row pair has_it disk works (inl kept) =
            tells i d
            (same.cells i s d copied (subst (λ x. is_broken new x ≡ false) (sym volume) sound)
            (subst (λ x. disk_of new x s ≡ Some d) (sym volume) disk) works)
            (h.written i s d volume copied (row ∙ stays.row) pair (sym (ap (has s) kept.1) ∙ has_it)
            (ap (λ (x : List Slot). disk_in x s) (sym (same.slots v)) ∙ disk) (same.faults d works))

    pub rows_stay : RowsHold S new (log_after log call) now
    rows_stay = record {
      holds = λ i s d copied counts. at i d (cell i s d copied counts) (rows.holds i s d copied (counted i s d counts));
      writers = λ k i q has writes copied.
          let old = same.had k i q has in writer i old.0 q copied old.2 (rows.writers k i old.0 old.1 writes copied);
      readers = λ k i q has reads copied.
          let old = same.had k i q has in
          reader i old.0 q old.2 (same.submitted k i old.0 old.1) (rows.readers k i old.0 old.1 reads copied);
      passes = λ v q sound is.
          let old = same.pass v q is in
          pass_still v old.0 q sound old.2 (rows.passes v old.0 (same.sound v sound) old.1);
      runs = same.runs;
      clients = same.clients ∙ rows.clients;
    }
      where
        at : (i d : ℕ) → stood S (log_after log call) i d ≡ stood S log i d → Tells S log journal i d ⊎ IsWriting S c i
            → Tells S (log_after log call) now i d ⊎ IsWriting S new i
        at i d cell (inl old) = inl (tells i d cell old)
        at i d cell (inr w) = inr (writing i w)
