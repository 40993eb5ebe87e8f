-- The rows where the pass of one volume moves: what it leaves alone, and what it may bring to a row that is free.
use Rattle.std.proofs.Common.{◌≡◌, ℕ, ◌≤◌, true, false, List, [], refl, ap, sym, ◌∙◌, subst, Option, Some, ◌⊎◌, inl, inr}
use Rattle.device_log.specs.Log.{Call}
use Rattle.array_model.specs.declared.journal.Entry.{Entry}
use Rattle.array_model.specs.AnswerLaw.{submitted_from}
use Rattle.array_machine.specs.Setting.{Setting}
use Rattle.array_machine.specs.Numbers.{has}
use Rattle.array_machine.specs.Volumes.{Slot, slot_at, disk_in, Pass, Volume, volume_at}
use Rattle.array_machine.specs.Operations.{volume_of, shape_of, the_place}
use Rattle.array_machine.specs.Clients.{Row, Busy}
use Rattle.array_machine.specs.Control.{Control}
use Rattle.array_machine.specs.Changes.{PassMoves, PassWord}
use Rattle.array_machine.specs.Puts.{put}
use Rattle.array_machine.specs.Machine.{log_after}
use Rattle.array_paths.specs.InTurn.{is_broken, job_of}
use Rattle.array_base.proofs.Slots.{volume_set}
use Rattle.array_values.specs.Copies.{row_at, IsCopied, InPair}
use Rattle.array_values.proofs.Rows.{pass_of, disk_of, read_of, IsPast, content_at, is_unsure_at, stood, Counts, IsWriting, Tells, WriterHolds, HasRead, ReaderHolds, ReadOnce, PassHolds, MayRead, RowsHold}
use Rattle.array_values.proofs.Stays.{given_later}
use Rattle.array_values.proofs.Needs.{IsFreeRow}

module _ (S : Setting) where
  -- a pass over these slots
  pub record NewPass (slots : List Slot) (faults : List ℕ) (log : List Call) (journal : List Entry) (v : ℕ)
      (p : Pass) : Type 0 where
    pub lock : (p.lock ≡ Some p.row) ⊎ ((p.got ≡ []) × (p.written ≡ []))
    pub over : p.over ≡ true → (shape_of S v).rows ≤ p.row
    pub got : (s : ℕ) → (read_of s p.got ≡ []) ⊎ ReadOnce S journal v p.row s p.got
    pub written : (i s d : ℕ) → volume_of S i ≡ v → IsCopied S i → row_at S i ≡ p.row → InPair (the_place S i) s
        → has s p.written ≡ true → disk_in slots s ≡ Some d → has d faults ≡ false → Tells S log journal i d

  -- a slot that is to count: of these slots, by this pass
  pub record IsToCount (c : Control) (v : ℕ) (slots : List Slot) (new : Option Pass) (i s d : ℕ) : Type 0 where
    pub volume : volume_of S i ≡ v
    pub copied : IsCopied S i
    pub sound : is_broken c v ≡ false
    pub pair : InPair (the_place S i) s
    pub disk : disk_in slots s ≡ Some d
    pub works : has d c.round.faults ≡ false
    pub why : ((slot_at slots s).in_sync ≡ true) ⊎ IsPast new (row_at S i)

  pub record PassStep (c : Control) (v : ℕ) (slots : List Slot) (new : Option Pass) (log : List Call)
      (call : Option Call) (journal now : List Entry) : Type 0 where
    pub cell : (i s d : ℕ) → IsCopied S i → is_broken c (volume_of S i) ≡ false → InPair (the_place S i) s
        → disk_of c (volume_of S i) s ≡ Some d → has d c.round.faults ≡ false
        → (stood S (log_after log call) i d ≡ stood S log i d)
        ⊎ (IsFreeRow S c (volume_of S i) (row_at S i) × Tells S (log_after log call) now i d)
    pub content : (i : ℕ) → (content_at S now i ≡ content_at S journal i) × (is_unsure_at S now i ≡ is_unsure_at S journal i)
    pub submitted : (i : ℕ) → submitted_from i 0 now ≡ submitted_from i 0 journal
    pub counts : (i s d : ℕ) → IsToCount c v slots new i s d
        → Counts S c i s d ⊎ (IsFreeRow S c v (row_at S i) × Tells S (log_after log call) now i d)
    pub holds : (p : Pass) → new ≡ Some p → is_broken c v ≡ false
        → NewPass slots c.round.faults (log_after log call) now v p
    pub runs : (i : ℕ) → volume_of S i ≡ v → IsCopied S i → is_broken c v ≡ false → MayRead S c i
        → (s : ℕ) × (d : ℕ) × InPair (the_place S i) s × (disk_in slots s ≡ Some d) × (has d c.round.faults ≡ false)
        × ((slot_at slots s).in_sync ≡ true)

  module _ (c : Control) (v : ℕ) (slots : List Slot) (new : Option Pass) (word : PassWord) (log : List Call)
      (call : Option Call) (journal now : List Entry) (step : PassStep c v slots new log call journal now)
      (rows : RowsHold S c log journal) where
    abbrev moved : Control
    moved = put S (PassMoves v slots new word) c

    abbrev later : List Call
    later = log_after log call

    abbrev set_one : Volume
    set_one = record (volume_at c.volumes v) { slots = slots; pass = new }

    volume_now : (w : ℕ) → ((v ≡ w) × (volume_at moved.volumes w ≡ record (volume_at c.volumes v) { slots = slots; pass = new }))
        ⊎ (volume_at moved.volumes w ≡ volume_at c.volumes w)
    volume_now w = volume_set c.volumes v (record (volume_at c.volumes v) { slots = slots; pass = new }) w

    -- a slot that counts now, by its volume
    record CountsBy (x : Volume) (i s d : ℕ) : Type 0 where
      sound : x.broken ≡ false
      pair : InPair (the_place S i) s
      disk : disk_in x.slots s ≡ Some d
      works : has d c.round.faults ≡ false
      why : ((slot_at x.slots s).in_sync ≡ true) ⊎ IsPast x.pass (row_at S i)

    counts_by : (i s d : ℕ) → Counts S moved i s d → CountsBy (volume_at moved.volumes (volume_of S i)) i s d
    counts_by i s d h = record { sound = h.sound; pair = h.pair; disk = h.disk; works = h.works; why = h.why }

    counts_old : (i s d : ℕ) → CountsBy (volume_at c.volumes (volume_of S i)) i s d → Counts S c i s d
    counts_old i s d h = record { sound = h.sound; pair = h.pair; disk = h.disk; works = h.works; why = h.why }

    counted : (i s d : ℕ) → IsCopied S i → Counts S moved i s d
        → Counts S c i s d ⊎ (IsFreeRow S c (volume_of S i) (row_at S i) × Tells S later now i d)
    counted i s d copied h = elim (volume_now (volume_of S i)) [
      | inl here ↦
          let by = subst (λ x. CountsBy x i s d) here.1 (counts_by i s d h) in
          elim (step.counts i s d (record {
            volume = sym here.0;
            copied = copied;
            sound = by.sound;
            pair = by.pair;
            disk = by.disk;
            works = by.works;
            why = by.why;
          })) [
            | inl old ↦ inl old
            | inr fresh ↦ inr (subst (λ w. IsFreeRow S c w (row_at S i)) here.0 fresh.0, fresh.1)
          ]
      | inr same ↦ inl (counts_old i s d (subst (λ x. CountsBy x i s d) same (counts_by i s d h)))
    ]

    tells_on : (i d : ℕ) → stood S later i d ≡ stood S log i d → Tells S log journal i d → Tells S later now i d
    tells_on i d cell old h = cell ∙ old (sym (step.content i).1 ∙ h) ∙ sym (step.content i).0

    writing_on : (i : ℕ) → IsWriting S c i → IsWriting S moved i
    writing_on i w = record {
      client = w.client;
      op = w.op;
      row = w.row;
      has = w.has;
      begun = w.begun;
      writes = w.writes;
      volume = w.volume;
      sector = w.sector;
    }

    holds_on : (i s d : ℕ) → IsCopied S i → Counts S moved i s d → Tells S later now i d ⊎ IsWriting S moved i
    holds_on i s d copied counts = elim (counted i s d copied counts) [
      | inr fresh ↦ inl fresh.1
      | inl old ↦ at (step.cell i s d copied old.sound old.pair old.disk old.works) (rows.holds i s d copied old)
    ]
      where
        at : (stood S later i d ≡ stood S log i d)
            ⊎ (IsFreeRow S c (volume_of S i) (row_at S i) × Tells S later now i d)
            → Tells S log journal i d ⊎ IsWriting S c i → Tells S later now i d ⊎ IsWriting S moved i
        at (inr fresh) old = inl fresh.1
        at (inl cell) (inl old) = inl (tells_on i d cell old)
        at (inl cell) (inr w) = inr (writing_on i w)

    -- a job that has begun keeps its row from being free
    writer_on : (k i : ℕ) (r : Row) → job_of c k ≡ Busy i r → IsCopied S i → WriterHolds S c log i r
        → WriterHolds S moved later i r
    writer_on k i r is copied w = record {
      early = w.early;
      wrote = λ begun s d counts has_it.
          let old = mine begun s d counts in cell begun s d old ∙ w.wrote begun s d old has_it;
      saw = λ begun s d counts no_it. w.saw begun s d (mine begun s d counts) no_it;
    }
      where
        mine : r.begun ≡ true → (s d : ℕ) → Counts S moved i s d → Counts S c i s d
        mine begun s d counts = elim (counted i s d copied counts) [
          | inl old ↦ old
          | inr fresh ↦ absurd (fresh.0 k i r is begun refl refl)
        ]

        cell : r.begun ≡ true → (s d : ℕ) → Counts S c i s d → stood S later i d ≡ stood S log i d
        cell begun s d old = elim (step.cell i s d copied old.sound old.pair old.disk old.works) [
          | inl same ↦ same
          | inr fresh ↦ absurd (fresh.0 k i r is begun refl refl)
        ]

    reader_on : (i : ℕ) (r : Row) → ReaderHolds S log journal i r → ReaderHolds S later now i r
    reader_on i r w = record { plan = w.plan; got = at w.got }
      where
        at : (r.got ≡ []) ⊎ HasRead S log journal i r → (r.got ≡ []) ⊎ HasRead S later now i r
        at (inl none) = inl none
        at (inr h) = inr (record {
          got = h.got;
          is = h.is;
          plan = h.plan;
          begun = h.begun;
          sure = λ x. h.sure (sym (step.content i).1 ∙ x) ∙ sym (step.content i).0;
          given = rw (step.submitted i)
              (given_later S.start log call (volume_of S i) (row_at S i) _ h.got.sector h.given);
        })

    once_on : (w row s : ℕ) (p : Pass) → ReadOnce S journal w row s p.got → ReadOnce S now w row s p.got
    once_on w row s p o = record {
      one = o.one;
      is = o.is;
      tells = λ i volume copied at pair x.
          o.tells i volume copied at pair (sym (step.content i).1 ∙ x) ∙ sym (step.content i).0;
    }

    -- the pass of another volume
    other_pass : (w : ℕ) (p : Pass) → volume_at moved.volumes w ≡ volume_at c.volumes w → is_broken c w ≡ false
        → PassHolds S c log journal w p → PassHolds S moved later now w p
    other_pass w p same sound h = record {
      lock = h.lock;
      over = h.over;
      got = λ s. got s (h.got s);
      written = λ i s d volume copied row pair has_it disk works.
          wrote i s d volume copied row pair has_it
          (ap (λ (x : Volume). disk_in x.slots s) (sym same) ∙ disk) works;
    }
      where
        got : (s : ℕ) → (read_of s p.got ≡ []) ⊎ ReadOnce S journal w p.row s p.got
            → (read_of s p.got ≡ []) ⊎ ReadOnce S now w p.row s p.got
        got s (inl none) = inl none
        got s (inr o) = inr (once_on w p.row s p o)

        wrote : (i s d : ℕ) → volume_of S i ≡ w → IsCopied S i → row_at S i ≡ p.row → InPair (the_place S i) s
            → has s p.written ≡ true → disk_of c w s ≡ Some d → has d c.round.faults ≡ false → Tells S later now i d
        wrote i s d volume copied row pair has_it disk works =
            elim (step.cell i s d copied (subst (λ x. is_broken c x ≡ false) (sym volume) sound) pair
            (subst (λ x. disk_of c x s ≡ Some d) (sym volume) disk) works) [
              | inl cell ↦ tells_on i d cell (h.written i s d volume copied row pair has_it disk works)
              | inr fresh ↦ fresh.1
            ]

    own_pass : (w : ℕ) (p : Pass) → v ≡ w → volume_at moved.volumes w ≡ record (volume_at c.volumes v) { slots = slots; pass = new }
        → NewPass slots c.round.faults later now v p → PassHolds S moved later now w p
    own_pass w p here same n = subst (λ z. volume_at moved.volumes z ≡ record (volume_at c.volumes v) { slots = slots; pass = new } → PassHolds S moved later now z p) here
        (λ is. record {
          lock = n.lock;
          over = n.over;
          got = n.got;
          written = λ i s d volume copied row pair has_it disk works.
              n.written i s d volume copied row pair has_it (ap (λ (x : Volume). disk_in x.slots s) (sym is) ∙ disk) works;
        }) same

    pass_on : (w : ℕ) (p : Pass) → is_broken moved w ≡ false → pass_of moved w ≡ Some p → PassHolds S moved later now w p
    pass_on w p sound is = elim (volume_now w) [
      | inl here ↦ own_pass w p here.0 here.1
          (step.holds p (ap (λ (x : Volume). x.pass) (sym here.1) ∙ is) (ap (λ (x : Volume). x.broken) (sym here.1) ∙ sound))
      | inr same ↦
          let old = ap (λ (x : Volume). x.broken) (sym same) ∙ sound in
          other_pass w p same old (rows.passes w p old (ap (λ (x : Volume). x.pass) (sym same) ∙ is))
    ]

    runs_on : (i : ℕ) → IsCopied S i → S.start.is_started (volume_of S i) ≡ true → is_broken moved (volume_of S i) ≡ false
        → MayRead S moved i
    runs_on i copied begun sound = elim (volume_now (volume_of S i)) [
      | inl here ↦
          let own = ap (λ (x : Volume). x.broken) (sym here.1) ∙ sound in
          let m = step.runs i (sym here.0) copied own (rows.runs i copied begun (subst (λ w. is_broken c w ≡ false) here.0 own)) in
          record {
            slot = m.0;
            disk = m.1;
            pair = m.2;
            is = ap (λ (x : Volume). disk_in x.slots m.0) here.1 ∙ m.3;
            works = m.4;
            in_sync = ap (λ (x : Volume). (slot_at x.slots m.0).in_sync) here.1 ∙ m.5;
          }
      | inr same ↦
          let m = rows.runs i copied begun (ap (λ (x : Volume). x.broken) (sym same) ∙ sound) in
          record {
            slot = m.slot;
            disk = m.disk;
            pair = m.pair;
            is = ap (λ (x : Volume). disk_in x.slots m.slot) same ∙ m.is;
            works = m.works;
            in_sync = ap (λ (x : Volume). (slot_at x.slots m.slot).in_sync) same ∙ m.in_sync;
          }
    ]

    pub pass_rows : RowsHold S moved later now
    pass_rows = record {
      holds = holds_on;
      writers = λ k i r is writes copied. writer_on k i r is copied (rows.writers k i r is writes copied);
      readers = λ k i r is reads copied. reader_on i r (rows.readers k i r is reads copied);
      passes = pass_on;
      runs = runs_on;
      clients = rows.clients;
    }
