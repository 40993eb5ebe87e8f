-- The rows hold on where a disk fails, on its own or with a call: its slots count no more.
use Rattle.std.proofs.Common.{◌≡◌, ℕ, zero, suc, ◌+◌, ◌≤◌, ◌==◌, ◌||◌, ◌&&◌, not, Bool, true, false, List, [], ◌∷◌, ◌++◌, length, refl, ap, sym, ◌∙◌, subst, arith, Option, Some, None, inl, inr, cond}
use Rattle.std.proofs.lemmas.Bool.Decides.{nat_tests}
use Rattle.std.proofs.lemmas.List.{length-map}
use Rattle.device_log.specs.Log.{Call}
use Rattle.array_model.specs.declared.journal.Entry.{Entry}
use Rattle.array_machine.specs.Setting.{Setting}
use Rattle.array_machine.specs.Numbers.{has}
use Rattle.array_machine.specs.Volumes.{Slot, slot_at, disk_in, same_disk, has_disk, member_of, members_of, can_run, Pass, Volume, volume_at}
use Rattle.array_machine.specs.Operations.{volume_of, shape_of, the_place, place_on}
use Rattle.array_machine.specs.Clients.{Row, Job, NoJob, Submitted, Busy, Client}
use Rattle.array_machine.specs.Rounds.{Round}
use Rattle.array_machine.specs.RowJobs.{lost_row, lost_if, unread}
use Rattle.array_machine.specs.Faults.{round_without, breaks, is_torn, past_syncs, touched_without, drops_sync, pass_without, volume_lost, volume_without, volumes_without, job_without, clients_without}
use Rattle.array_machine.specs.Control.{Control}
use Rattle.array_machine.specs.Changes.{DiskFails, entry_of}
use Rattle.array_machine.specs.Puts.{put}
use Rattle.array_machine.specs.Machine.{log_after, entered}
use Rattle.array_paths.specs.InTurn.{is_broken, job_of}
use Rattle.array_paths.specs.PassMove.{slots_of}
use Rattle.array_paths.specs.Honest.{stood_at}
use Rattle.array_paths.proofs.ClientPaths.{job_kept}
use Rattle.array_values.specs.Copies.{HasCopies, sector_at, IsCopied, InPair}
use Rattle.array_values.proofs.Journal.{content_stays, unsure_stays, submitted_stays}
use Rattle.array_values.proofs.Rows.{MayRead, RowsHold}
use Rattle.array_values.proofs.Stays.{RowStays, PassStays, row_itself, pass_itself, Stays, rows_stay}
use Rattle.array_values.proofs.Pairs.{pair_at, usable_is, slots_for, runs_with}

-- A PASS

module _ (S : Setting) (v : ℕ) where
  past_stays : (p : Pass) (touched : List ℕ) → PassStays S v p (past_syncs (shape_of S v) (record p { touched = touched }))
  past_stays p touched = at (p.row == (shape_of S v).rows) refl
    where
      q : Pass
      q = record p { touched = touched }

      at : (b : Bool) → (p.row == (shape_of S v).rows) ≡ b
          → PassStays S v p (past_syncs (shape_of S v) (record p { touched = touched }))
      at true is = rw is (record {
        row = refl;
        lock = refl;
        over = λ h. inr (grind (arith, nat_tests, is));
        work = inl (refl, refl);
        at_checkpoint = λ h. (refl, refl);
      })
      at false is = rw is (record { row = refl; lock = refl; over = λ h. inl h; work = inl (refl, refl); at_checkpoint = λ h. (refl, refl) })

  drops_stays : (broken : Bool) (before after : List ℕ) (p : Pass)
      → PassStays S v p (drops_sync (shape_of S v) broken before after p)
  drops_stays true before after p = record { row = refl; lock = refl; over = λ h. inl h; work = inl (refl, refl); at_checkpoint = λ h. (refl, refl) }
  drops_stays false [] after p = record { row = refl; lock = refl; over = λ h. inl h; work = inl (refl, refl); at_checkpoint = λ h. (refl, refl) }
  drops_stays false (s ∷ ss) [] p = past_stays p []
  drops_stays false (s ∷ ss) (t ∷ ts) p =
      record { row = refl; lock = refl; over = λ h. inl h; work = inl (refl, refl); at_checkpoint = λ h. (refl, refl) }

  pub without_stays : (d : ℕ) (slots : List Slot) (broken : Bool) (p : Pass)
      → PassStays S v p (pass_without (shape_of S v) d slots broken p)
  without_stays d slots broken p = at p.syncing refl
    where
      touched : List ℕ
      touched = touched_without d slots p.touched

      at : (b : Bool) → p.syncing ≡ b → PassStays S v p
          (cond b (drops_sync (shape_of S v) broken p.touched touched p) (record p { got = []; written = []; touched = touched }))
      at true is = drops_stays broken p.touched touched p
      at false is = record {
        row = refl;
        lock = refl;
        over = λ h. inl h;
        work = inr (refl, refl);
        at_checkpoint = λ h. absurd (cc (is, h));
      }

-- DISKS OF SLOTS

has_its_disk : (d : ℕ) (slots : List Slot) (s : ℕ) → disk_in slots s ≡ Some d → has_disk d slots ≡ true
has_its_disk d [] s is = absurd cc
has_its_disk d (x ∷ xs) zero is =
    let here : same_disk (Some d) x.disk ≡ true =
    subst (λ (o : Option ℕ). same_disk (Some d) o ≡ true) (sym is) (grind (arith, nat_tests)) in
    rw here refl
has_its_disk d (x ∷ xs) (suc s) is = or_true (same_disk (Some d) x.disk) (has_disk d xs) (has_its_disk d xs s is)
  where
    or_true : (a b : Bool) → b ≡ true → (a || b) ≡ true
    or_true true b h = refl
    or_true false b h = h

length_without : (S : Setting) (d : ℕ) (volumes : List Volume) (clients : List Client)
    → length (clients_without S d volumes clients) ≡ length clients
length_without S d volumes [] = refl
length_without S d volumes (x ∷ xs) = ap suc (length_without S d volumes xs)

module _ (S : Setting) where
  -- the volumes that were started are those that the opening says
  abbrev pub AreStarted : Control → Type 0
  AreStarted c = (v : ℕ) → (volume_at c.volumes v).started ≡ S.start.is_started v

  -- and have no more slots than their level
  abbrev pub HaveFewSlots : Control → Type 0
  HaveFewSlots c =
      (v : ℕ) → HasCopies S v → length (slots_of c v) ≤ slots_for (shape_of S v).level

  -- A VOLUME

  pub record VolumeFails (d : ℕ) (r : Round) (v : ℕ) (x y : Volume) : Type 0 where
    pub sound : y.broken ≡ false → x.broken ≡ false
    pub slots : y.slots ≡ x.slots
    pub started : y.started ≡ x.started
    pub pass : (q : Pass) → y.pass ≡ Some q → (p : Pass) × (x.pass ≡ Some p) × PassStays S v p q
    pub pass_still : (p : Pass) → x.pass ≡ Some p → (q : Pass) × (y.pass ≡ Some q)
    pub runs : y.broken ≡ false → x.started ≡ true → has_disk d x.slots ≡ true → breaks S r v x.slots ≡ false

  or_none : (a b : Bool) → (a || b) ≡ false → (a ≡ false) × (b ≡ false)
  or_none true b h = absurd cc
  or_none false b h = (refl, h)

  volume_fails : (d : ℕ) (r : Round) (v : ℕ) (x : Volume) → VolumeFails d r v x (volume_without S d r v x)
  volume_fails d r v x = at (x.started && has_disk d x.slots) refl
    where
      broken : Bool
      broken = x.broken || breaks S r v x.slots

      pass : (old : Option Pass) → x.pass ≡ old → (q : Pass)
          → (volume_lost S d v (x.broken || breaks S r v x.slots) (record x { pass = old })).pass ≡ Some q
          → (p : Pass) × (x.pass ≡ Some p) × PassStays S v p q
      pass None is q new = absurd cc
      pass (Some p) is q new =
          let same : pass_without (shape_of S v) d x.slots (x.broken || breaks S r v x.slots) p ≡ q = cc new in
          (p, is, subst (PassStays S v p) same (without_stays S v d x.slots (x.broken || breaks S r v x.slots) p))

      at : (b : Bool) → (x.started && has_disk d x.slots) ≡ b
          → VolumeFails d r v x (cond b (volume_lost S d v (x.broken || breaks S r v x.slots) x) x)
      at true is = record {
        sound = λ h. (or_none x.broken (breaks S r v x.slots) h).0;
        slots = refl;
        started = refl;
        pass = λ q new. pass x.pass refl q new;
        pass_still = λ p is. (
          pass_without (shape_of S v) d x.slots (x.broken || breaks S r v x.slots) p,
          ap (λ o. Rattle.std.specs.Option.option_map (pass_without (shape_of S v) d x.slots (x.broken || breaks S r v x.slots)) o) is,
        );
        runs = λ h started there. (or_none x.broken (breaks S r v x.slots) h).1;
      }
      at false is = record {
        sound = λ h. h;
        slots = refl;
        started = refl;
        pass = λ q new. (q, new, pass_itself S v q);
        pass_still = λ p is. (p, is);
        runs = λ h started there. absurd (let both : (x.started && has_disk d x.slots) ≡ true = rw (started, there) refl in cc (both, is));
      }

  volume_then : (d : ℕ) (r : Round) (n : ℕ) (xs : List Volume) (w : ℕ)
      → volume_at (volumes_without S d r n xs) w ≡ volume_without S d r (n + w) (volume_at xs w)
  volume_then d r n [] w = refl
  volume_then d r n (x ∷ xs) zero = let same : n ≡ n + 0 = omega arith in ap (λ k. volume_without S d r k x) same
  volume_then d r n (x ∷ xs) (suc w) =
      volume_then d r (n + 1) xs w
      ∙ (let same : n + 1 + w ≡ n + suc w = omega arith in ap (λ k. volume_without S d r k (volume_at xs w)) same)

  -- A JOB

  lost_if_stays : (left : List ℕ) (r : Row) → RowStays S r (lost_if left r)
  lost_if_stays [] r = row_itself S r
  lost_if_stays (s ∷ ss) r = record { begun = refl; written = refl; disks = refl; got = inr (refl, refl) }

  lost_stays : (plan : Option (List ℕ)) (r : Row) → RowStays S r (lost_row plan r)
  lost_stays None r = row_itself S r
  lost_stays (Some plan) r = lost_if_stays (unread plan r.got) r

  abbrev row_then : Bool → Row → Row
  row_then b r = cond b (lost_row r.plan r) r

  row_stays : (b : Bool) (r : Row) → RowStays S r (row_then b r)
  row_stays true r = lost_stays r.plan r
  row_stays false r = row_itself S r

  job_had : (d : ℕ) (volumes : List Volume) (job : Job) (i : ℕ) (q : Row) → job_without S d volumes job ≡ Busy i q
      → (r : Row) × (job ≡ Busy i r) × RowStays S r q
  job_had d volumes NoJob i q is = absurd cc
  job_had d volumes (Submitted j) i q is = absurd cc
  job_had d volumes (Busy j r) i q is =
      let same : j ≡ i = cc is in
      let row : row_then (has_disk d (volume_at volumes (volume_of S j)).slots) r ≡ q = cc is in
      (r, ap (λ n. Busy n r) same, subst (RowStays S r) row (row_stays (has_disk d (volume_at volumes (volume_of S j)).slots) r))

  -- THE WHOLE

  module _ (c : Control) (d : ℕ) where
    abbrev failed : Control
    failed = put S (DiskFails d) c

    abbrev round : Round
    round = round_without S d c.round

    pub fails_at : (v : ℕ) → VolumeFails d round v (volume_at c.volumes v) (volume_at failed.volumes v)
    fails_at v =
        subst (VolumeFails d round v (volume_at c.volumes v))
        (sym (volume_then d round 0 c.volumes v ∙ (let same : 0 + v ≡ v = omega arith in
        ap (λ k. volume_without S d round k (volume_at c.volumes v)) same)))
        (volume_fails d round v (volume_at c.volumes v))

    other : (e : ℕ) → has e (d ∷ c.round.faults) ≡ false → ((d == e) ≡ false) × (has e c.round.faults ≡ false)
    other e h = or_none (d == e) (has e c.round.faults) h

    not_false : (a : Bool) → not a ≡ false → a ≡ true
    not_false true h = refl
    not_false false h = absurd cc

    still_runs : (i : ℕ) → AreStarted c → HaveFewSlots c → IsCopied S i → S.start.is_started (volume_of S i) ≡ true
        → is_broken failed (volume_of S i) ≡ false → MayRead S c i → MayRead S failed i
    still_runs i started few copied begun sound m = at (d == m.disk) refl
      where
        v : ℕ
        v = volume_of S i

        slots : List Slot
        slots = slots_of c (volume_of S i)

        same : slots_of failed (volume_of S i) ≡ slots_of c (volume_of S i)
        same = (fails_at (volume_of S i)).slots

        read : (s e : ℕ) → InPair (the_place S i) s → disk_in (slots_of c (volume_of S i)) s ≡ Some e
            → has e (d ∷ c.round.faults) ≡ false → (slot_at (slots_of c (volume_of S i)) s).in_sync ≡ true
            → MayRead S failed i
        read s e pair is works sync = record {
          slot = s;
          disk = e;
          pair = pair;
          is = ap (λ (x : List Slot). disk_in x s) same ∙ is;
          works = works;
          in_sync = ap (λ (x : List Slot). (slot_at x s).in_sync) same ∙ sync;
        }

        short : length (members_of round.faults round.blocked (slots_of c (volume_of S i)))
            ≤ slots_for (shape_of S (volume_of S i)).level
        short =
            let long = length-map (slots_of c (volume_of S i)) (member_of round.faults round.blocked) in
            let le = few (volume_of S i) copied.copies in omega (arith, long, le)

        at : (b : Bool) → (d == m.disk) ≡ b → MayRead S failed i
        at false ne = read m.slot m.disk m.pair m.is (rw (ne, m.works) refl) m.in_sync
        at true is =
            let disk : m.disk ≡ d = grind (arith, nat_tests, is) in
            let there = has_its_disk d (slots_of c (volume_of S i)) m.slot (m.is ∙ ap (λ e. Some e) disk) in
            let whole = (fails_at (volume_of S i)).runs sound (started (volume_of S i) ∙ begun) there in
            let run = not_false _ (or_none (not (can_run (shape_of S (volume_of S i)).level
            (members_of round.faults round.blocked (slots_of c (volume_of S i))))) (is_torn S round (volume_of S i) (shape_of S (volume_of S i)).level) whole).0 in
            let found = runs_with (shape_of S (volume_of S i)).level (the_place S i) (members_of round.faults round.blocked (slots_of c (volume_of S i))) copied.copies (pair_at S i copied) short run in
            let usable = usable_is round.faults round.blocked (slots_of c (volume_of S i)) found.0 found.2 in
            read found.0 usable.0 found.1 usable.1 usable.2 usable.3

    module _ (log : List Call) (call : Option Call) (journal : List Entry) (n : ℕ)
        (cells : (e p : ℕ) → (d == e) ≡ false → stood_at S (log_after log call) e p ≡ stood_at S log e p)
        (started : AreStarted c) (few : HaveFewSlots c) (rows : RowsHold S c log journal) where
      stays : Stays S c failed log call journal (journal ++ entered n (entry_of S (DiskFails d)))
      stays = record {
        faults = λ e h. (other e h).1;
        sound = λ v. (fails_at v).sound;
        slots = λ v. (fails_at v).slots;
        pass = λ v. (fails_at v).pass;
        had = λ k i q is. job_had d c.volumes (job_of c k) i q (sym (job_kept S d c.volumes c.clients k) ∙ is);
        has_still = λ k i r is.
            let b = has_disk d (volume_at c.volumes (volume_of S i)).slots in
            (row_then b r, job_kept S d c.volumes c.clients k ∙ ap (job_without S d c.volumes) is, row_stays b r);
        clients = length_without S d c.volumes c.clients;
        content = λ i. content_stays S journal n (entry_of S (DiskFails d)) tt (volume_of S i) (sector_at S i);
        unsure = λ i. unsure_stays S journal n (entry_of S (DiskFails d)) tt (volume_of S i) (sector_at S i);
        submitted = λ k i r is. submitted_stays S journal n i (entry_of S (DiskFails d)) tt;
        cells = λ i s e copied sound disk works. cells e (place_on S i) (other e works).0;
        runs = λ i copied begun sound.
            still_runs i started few copied begun sound
            (rows.runs i copied begun ((fails_at (volume_of S i)).sound sound));
      }

      pub fails_keep : RowsHold S failed (log_after log call) (journal ++ entered n (entry_of S (DiskFails d)))
      fails_keep = rows_stay S c failed log call journal (journal ++ entered n (entry_of S (DiskFails d))) stays rows
