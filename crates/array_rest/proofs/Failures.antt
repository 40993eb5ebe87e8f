-- A disk's failure keeps what holds of locks, passes, updates and slots.
use Rattle.std.proofs.Common.{◌≡◌, ℕ, suc, ◌/◌, ◌==◌, ◌||◌, ◌&&◌, not, Bool, true, false, List, [], ◌∷◌, filter, length, refl, ap, sym, ◌∙◌, subst, Option, Some, None, inl, inr, cond}
use Rattle.std.specs.Option.{option_map_or, option_map}
use Rattle.units.specs.declared.bounds.TheConstants.{UNIT_ROWS}
use Rattle.array_model.specs.Placement.{Shape}
use Rattle.array_machine.specs.Numbers.{has}
use Rattle.array_machine.specs.Setting.{Setting}
use Rattle.array_machine.specs.Volumes.{Slot, disk_in, same_disk, has_disk, Pass, Volume, volume_at}
use Rattle.array_machine.specs.Operations.{volume_of, shape_of, the_place}
use Rattle.array_machine.specs.Clients.{Row, Job, NoJob, Submitted, Busy, Client, client_at}
use Rattle.array_machine.specs.Control.{Control}
use Rattle.array_machine.specs.Changes.{DiskFails}
use Rattle.array_machine.specs.Faults.{round_without, touched_without, drops_sync, pass_without, job_without, clients_without}
use Rattle.array_machine.specs.Locks.{holds, pass_holds}
use Rattle.array_machine.specs.Puts.{put}
use Rattle.array_machine.specs.RoundEnds.{has_other}
use Rattle.array_machine.specs.RowJobs.{unread, lost_if, lost_row}
use Rattle.array_machine.specs.SyncTurns.{row_work, all_written}
use Rattle.array_paths.proofs.ClientPaths.{slots_kept, job_kept}
use Rattle.array_base.proofs.Targets.{or_first, or_second, or_cases, has_passes}
use Rattle.array_rest.specs.Between.{CanCall, PassStands, Kept}
use Rattle.array_rest.proofs.Parts.{IsElsewhere, elsewhere, members_kept, FailedVolume, keeps, loses, failed_volume}

-- LISTS

-- what a filter leaves was there
pub filter_has : (test : ℕ → Bool) (ds : List ℕ) (d : ℕ) → has d (filter test ds) ≡ true → has d ds ≡ true
filter_has test [] d h = h
filter_has test (e ∷ es) d h = at (test e) h (filter_has test es d)
  where
    at : (b : Bool) → has d (cond b (e ∷ filter test es) (filter test es)) ≡ true
        → (has d (filter test es) ≡ true → has d es ≡ true) → ((e == d) || has d es) ≡ true
    at true h more = elim (or_cases (e == d) (has d (filter test es)) h) [
      | inl here ↦ or_first (e == d) (has d es) here
      | inr there ↦ or_second (e == d) (has d es) (more there)
    ]
    at false h more = or_second (e == d) (has d es) (more h)

clients_count : (S : Setting) (d : ℕ) (volumes : List Volume) (clients : List Client)
    → length (clients_without S d volumes clients) ≡ length clients
clients_count S d volumes [] = refl
clients_count S d volumes (x ∷ xs) = ap suc (clients_count S d volumes xs)

mapped : (f : Pass → Pass) (old : Option Pass) (p : Pass) → option_map f old ≡ Some p
    → (q : Pass) × (old ≡ Some q) × (f q ≡ p)
mapped f None p is = absurd cc
mapped f (Some q) p is = (q, refl, cc is)

-- JOBS

pub lost_begun : (plan : Option (List ℕ)) (r : Row) → (lost_row plan r).begun ≡ r.begun
lost_begun None r = refl
lost_begun (Some plan) r = at (unread plan r.got)
  where
    at : (left : List ℕ) → (lost_if left r).begun ≡ r.begun
    at [] = refl
    at (s ∷ ss) = refl

-- a job holds the row that it held
pub holds_lost : (S : Setting) (d v row : ℕ) (volumes : List Volume) (job : Job)
    → holds S v row (job_without S d volumes job) ≡ holds S v row job
holds_lost S d v row volumes NoJob = refl
holds_lost S d v row volumes (Submitted i) = refl
holds_lost S d v row volumes (Busy i r) = at (has_disk d (volume_at volumes (volume_of S i)).slots)
  where
    at : (b : Bool) → holds S v row (Busy i (cond b (lost_row r.plan r) r)) ≡ holds S v row (Busy i r)
    at true = ap (λ b. b && (volume_of S i == v) && ((the_place S i).row == row)) (lost_begun r.plan r)
    at false = refl

-- PASSES

-- a pass keeps its lock
pub lost_lock : (shape : Shape) (d : ℕ) (slots : List Slot) (broken : Bool) (p : Pass)
    → (pass_without shape d slots broken p).lock ≡ p.lock
lost_lock shape d slots broken p = at p.syncing
  where
    dropped : (broken : Bool) (before after : List ℕ) → (drops_sync shape broken before after p).lock ≡ p.lock
    dropped true before after = refl
    dropped false [] after = refl
    dropped false (s ∷ ss) (t ∷ ts) = refl
    dropped false (s ∷ ss) [] = passed (p.row == shape.rows)
      where
        passed : (b : Bool)
            → (cond b (record p { touched = []; syncing = false; over = true })
            (record p { touched = []; syncing = false; ready = p.row / UNIT_ROWS })).lock ≡ p.lock
        passed true = refl
        passed false = refl

    at : (b : Bool)
        → (cond b (drops_sync shape broken p.touched (touched_without d slots p.touched) p)
        (record p { got = []; written = []; touched = touched_without d slots p.touched })).lock ≡ p.lock
    at true = dropped broken p.touched (touched_without d slots p.touched)
    at false = refl

pass_holds_lost : (shape : Shape) (d : ℕ) (slots : List Slot) (broken : Bool) (row : ℕ) (old : Option Pass)
    → pass_holds row (option_map (pass_without shape d slots broken) old) ≡ pass_holds row old
pass_holds_lost shape d slots broken row None = refl
pass_holds_lost shape d slots broken row (Some p) =
    ap (λ lock. option_map_or (λ r. r == row) lock false) (lost_lock shape d slots broken p)

module _ (S : Setting) (d : ℕ) (faults : List ℕ) where
  -- a disk that may be called and that is another one
  call_stays : (disk : Option ℕ) → IsElsewhere d disk → CanCall S faults disk → CanCall S (d ∷ faults) disk
  call_stays disk other can =
      let apart : (d == can.number) ≡ false = sym (ap (same_disk (Some d)) can.is) ∙ other in
      record { number = can.number; is = can.is; may = rw apart can.may }

  -- a pass whose volume hasn't the disk
  stands_kept : (slots : List Slot) (v : ℕ) (p : Pass) → has_disk d slots ≡ false → PassStands S faults slots v p
      → PassStands S (d ∷ faults) slots v p
  stands_kept slots v p none h = record {
    locked = h.locked;
    begun = h.begun;
    left = elim h.left [
      | inl nothing ↦ inl nothing
      | inr more ↦
          inr (ap (λ ms. all_written p.written (row_work (shape_of S v) ms p.row)) (members_kept d faults [] slots none)
          ∙ more)
    ];
    touched = λ s t. call_stays (disk_in slots s) (elsewhere d slots none s) (h.touched s t);
  }

  -- at a checkpoint it is left with these slots to sync, or passes it
  module _ (slots : List Slot) (v : ℕ) (p : Pass) (h : PassStands S faults slots v p) (syncs : p.syncing ≡ true) where
    waits : (after : List ℕ) → ((s : ℕ) → has s after ≡ true → CanCall S (d ∷ faults) (disk_in slots s))
        → PassStands S (d ∷ faults) slots v (record p { touched = after })
    waits after good = record {
      locked = λ row lock. absurd (let none = (h.locked row lock).2 in cc (none, syncs));
      begun = h.begun;
      left = inl (h.begun syncs);
      touched = good;
    }

    passed : (b : Bool)
        → PassStands S (d ∷ faults) slots v
        (cond b (record p { touched = []; syncing = false; over = true })
        (record p { touched = []; syncing = false; ready = p.row / UNIT_ROWS }))
    passed true = record {
      locked = λ row lock. absurd (let none = (h.locked row lock).2 in cc (none, syncs));
      begun = λ bad. absurd cc;
      left = inl (h.begun syncs);
      touched = λ s bad. absurd cc;
    }
    passed false = record {
      locked = λ row lock. absurd (let none = (h.locked row lock).2 in cc (none, syncs));
      begun = λ bad. absurd cc;
      left = inl (h.begun syncs);
      touched = λ s bad. absurd cc;
    }

    dropped : (broken : Bool) (before after : List ℕ)
        → ((s : ℕ) → has s after ≡ true → CanCall S (d ∷ faults) (disk_in slots s))
        → PassStands S (d ∷ faults) slots v (drops_sync (shape_of S v) broken before after p)
    dropped true before after good = waits after good
    dropped false [] after good = waits after good
    dropped false (s ∷ ss) (t ∷ ts) good = waits (t ∷ ts) good
    dropped false (s ∷ ss) [] good = passed (p.row == (shape_of S v).rows)

  -- and one whose volume lost it
  pub stands_lost : (slots : List Slot) (v : ℕ) (broken : Bool) (p : Pass) → PassStands S faults slots v p
      → PassStands S (d ∷ faults) slots v (pass_without (shape_of S v) d slots broken p)
  stands_lost slots v broken p h = at p.syncing refl
    where
      is_kept : (s : ℕ) → not (same_disk (Some d) (disk_in slots s)) ≡ true → IsElsewhere d (disk_in slots s)
      is_kept s is = at (same_disk (Some d) (disk_in slots s)) is
        where
          at : (b : Bool) → not b ≡ true → b ≡ false
          at true h = absurd cc
          at false h = refl

      touches : (s : ℕ) → has s (touched_without d slots p.touched) ≡ true → CanCall S (d ∷ faults) (disk_in slots s)
      touches s is =
          let test = λ (t : ℕ). not (same_disk (Some d) (disk_in slots t)) in
          call_stays (disk_in slots s) (is_kept s (has_passes test p.touched s is))
          (h.touched s (filter_has test p.touched s is))

      at : (b : Bool) → p.syncing ≡ b
          → PassStands S (d ∷ faults) slots v
          (cond b (drops_sync (shape_of S v) broken p.touched (touched_without d slots p.touched) p)
          (record p { got = []; written = []; touched = touched_without d slots p.touched }))
      at true is = dropped slots v p h is broken p.touched (touched_without d slots p.touched) touches
      at false is = record {
        locked = h.locked;
        begun = λ never. refl;
        left = inl refl;
        touched = touches;
      }

-- ALL OF IT

module _ (S : Setting) (c : Control) (d : ℕ) (k : Kept S c) where
  abbrev volumes : List Volume
  volumes = (put S (DiskFails d) c).volumes

  abbrev clients : List Client
  clients = (put S (DiskFails d) c).clients

  fell : (v : ℕ) → FailedVolume S d (round_without S d c.round) v (volume_at c.volumes v) (volume_at volumes v)
  fell v = failed_volume S d (round_without S d c.round) c.volumes v

  pub same_slots : (v : ℕ) → (volume_at volumes v).slots ≡ (volume_at c.volumes v).slots
  same_slots v = slots_kept S d (round_without S d c.round) 0 c.volumes v

  pub fault_holds : (v row j : ℕ) → holds S v row (client_at clients j).job ≡ holds S v row (client_at c.clients j).job
  fault_holds v row j =
      ap (holds S v row) (job_kept S d c.volumes c.clients j)
      ∙ holds_lost S d v row c.volumes (client_at c.clients j).job

  pub fault_pass_holds : (v row : ℕ) → pass_holds row (volume_at volumes v).pass
      ≡ pass_holds row (volume_at c.volumes v).pass
  fault_pass_holds v row = at (fell v)
    where
      at : FailedVolume S d (round_without S d c.round) v (volume_at c.volumes v) (volume_at volumes v)
          → pass_holds row (volume_at volumes v).pass ≡ pass_holds row (volume_at c.volumes v).pass
      at (keeps same none) = ap (λ (x : Volume). pass_holds row x.pass) same
      at (loses broken started same) =
          ap (λ (x : Volume). pass_holds row x.pass) same
          ∙ pass_holds_lost (shape_of S v) d (volume_at c.volumes v).slots broken row (volume_at c.volumes v).pass

  pub same_started : (v : ℕ) → (volume_at volumes v).started ≡ (volume_at c.volumes v).started
  same_started v = at (fell v)
    where
      at : FailedVolume S d (round_without S d c.round) v (volume_at c.volumes v) (volume_at volumes v)
          → (volume_at volumes v).started ≡ (volume_at c.volumes v).started
      at (keeps same none) = ap (λ (x : Volume). x.started) same
      at (loses broken started same) = ap (λ (x : Volume). x.started) same

  -- a volume with a pass was started
  pub started_by : (v : ℕ) (p : Pass) (b : Bool) → (volume_at c.volumes v).started ≡ b
      → (volume_at c.volumes v).pass ≡ Some p → (volume_at c.volumes v).started ≡ true
  started_by v p true is has_it = is
  started_by v p false is has_it = absurd (let none = k.started v is in cc (none, has_it))

  passes_lost : (v : ℕ) (p : Pass) → (volume_at volumes v).pass ≡ Some p
      → PassStands S (d ∷ c.round.faults) (volume_at volumes v).slots v p
  passes_lost v p is =
      subst (λ slots. PassStands S (d ∷ c.round.faults) slots v p) (sym (same_slots v)) (at (fell v))
    where
      at : FailedVolume S d (round_without S d c.round) v (volume_at c.volumes v) (volume_at volumes v)
          → PassStands S (d ∷ c.round.faults) (volume_at c.volumes v).slots v p
      at (keeps same none) =
          let was = sym (ap (λ (x : Volume). x.pass) same) ∙ is in
          stands_kept S d c.round.faults (volume_at c.volumes v).slots v p (none (started_by v p _ refl was))
          (k.passes v p was)
      at (loses broken started same) =
          let slots = (volume_at c.volumes v).slots in
          let old = mapped (pass_without (shape_of S v) d slots broken) (volume_at c.volumes v).pass p
          (sym (ap (λ (x : Volume). x.pass) same) ∙ is) in
          subst (PassStands S (d ∷ c.round.faults) slots v) old.2
          (stands_lost S d c.round.faults slots v broken old.0 (k.passes v old.0 old.1))

  stopped : (v : ℕ) → (volume_at volumes v).started ≡ false → (volume_at volumes v).pass ≡ None
  stopped v is = at (fell v)
    where
      at : FailedVolume S d (round_without S d c.round) v (volume_at c.volumes v) (volume_at volumes v)
          → (volume_at volumes v).pass ≡ None
      at (keeps same none) =
          ap (λ (x : Volume). x.pass) same ∙ k.started v (sym (ap (λ (x : Volume). x.started) same) ∙ is)
      at (loses broken started same) =
          absurd (let was = sym (ap (λ (x : Volume). x.started) same) ∙ is in cc (was, started))

  pub kept_fault : Kept S (put S (DiskFails d) c)
  kept_fault = record {
    count = clients_count S d c.volumes c.clients ∙ k.count;
    queued = k.queued;
    there = λ v s e is. k.there v s e (sym (ap (λ slots. disk_in slots s) (same_slots v)) ∙ is);
    locks = record {
      one = λ v row j l a b. k.locks.one v row j l (sym (fault_holds v row j) ∙ a) (sym (fault_holds v row l) ∙ b);
      pass = λ v row j a. fault_pass_holds v row ∙ k.locks.pass v row j (sym (fault_holds v row j) ∙ a);
    };
    passes = passes_lost;
    started = stopped;
    seated = λ v is.
        ap (has_other S (S.start.words.slots c.round.last v)) (same_slots v) ∙ k.seated v (sym (same_started v) ∙ is);
  }
