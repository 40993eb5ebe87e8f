-- The rows behind a call of a client's job that went through: a read gave the content, a write brings its value to one
-- slot, a sync changes nothing that stands.
use Rattle.std.proofs.Common.{◌≡◌, ℕ, ◌<◌, ◌≤◌, ◌==◌, ◌||◌, Bool, true, false, List, [], ◌∷◌, ◌++◌, length, refl, ap, sym, ◌∙◌, subst, arith, length-append, Option, Some, None, ◌⊎◌, inl, inr, slice_get}
use Rattle.std.proofs.lemmas.Bool.Decides.{nat_tests}
use Rattle.std.proofs.lemmas.List.{take-append-le, take_all}
use Rattle.units.specs.declared.disk.Sector.{Sector}
use Rattle.units.specs.declared.volume.Level.{Level}
use Rattle.units.specs.declared.volume.Level.TheVariants.{One, Five, Ten}
use Rattle.device_log.specs.Log.{Call, What, Read, Write, Sync}
use Rattle.array_model.specs.declared.journal.Entry.{Entry}
use Rattle.array_model.specs.Placement.{Shape, Placement}
use Rattle.array_model.specs.AnswerLaw.{submitted_from}
use Rattle.array_disks.specs.Calls.{call_on}
use Rattle.array_machine.specs.Setting.{Setting}
use Rattle.array_machine.specs.Numbers.{has}
use Rattle.array_machine.specs.Volumes.{disk_in, Member, member_at, is_usable, Got, volume_at, source_in}
use Rattle.array_machine.specs.Operations.{volume_of, shape_of, the_place, place_on, value_at, is_write}
use Rattle.array_machine.specs.Clients.{Row, Busy, Client, with_job}
use Rattle.array_machine.specs.RowJobs.{Reads, Writes, Syncs, usable_of, first_only, read_plan, planned, plan_or, unread, sector_to, disks_begun, went_on, pair_of}
use Rattle.array_machine.specs.ClientTurns.{members_now, the_plan, row_tried}
use Rattle.array_machine.specs.Rounds.{Ended}
use Rattle.array_machine.specs.Control.{Control}
use Rattle.array_machine.specs.Changes.{ClientMoves, IsSilent}
use Rattle.array_machine.specs.Puts.{put}
use Rattle.array_machine.specs.Machine.{log_after, entered}
use Rattle.array_paths.specs.InTurn.{is_broken, job_of, left_of}
use Rattle.array_paths.specs.PassMove.{slots_of}
use Rattle.array_paths.specs.ClientMove.{Needs}
use Rattle.array_paths.specs.Honest.{stood_at}
use Rattle.array_paths.specs.Ready.{RowsInside}
use Rattle.array_order.specs.ClientOrder.{InOrder}
use Rattle.array_values.specs.Copies.{has_copies, sector_at, row_at, IsCopied, InPair}
use Rattle.array_values.proofs.Cells.{read_spares, sync_spares, spared, brings}
use Rattle.array_values.proofs.Journal.{content_stays, unsure_stays, submitted_stays}
use Rattle.array_values.proofs.Rows.{disk_of, disk_then, IsOneSlot, content_at, is_unsure_at, IsSure, stood, Counts, IsWriting, Tells, WriterHolds, ReaderHolds, RowsHold}
use Rattle.array_values.proofs.Pairs.{in_pair, one_sector_at}
use Rattle.array_values.proofs.Needs.{from_filter, source_is, has_last, reads_left, writes_in, syncs_write, alone}
use Rattle.array_values.proofs.ClientRows.{client_set, client_rows}
use Rattle.array_values.proofs.ClientMoves.{there_by_job, one_job, begun_writer}
use Rattle.array_values.proofs.Moves.{AreOne, row_of_one, kept_out, pass_kept_out}
use Rattle.array_values.proofs.Ground.{AreApart, Ground, Touches, touched_or_not}

-- PLANS

-- of one slot, of which no sector was read: that slot is read
one_slot : (p : Placement) (plan : List ℕ) (s : ℕ) (more : List ℕ) → IsOneSlot p (Some plan)
    → unread plan [] ≡ s ∷ more → (plan ≡ s ∷ []) × InPair p s
one_slot p [] s more one is = absurd one
one_slot p (t ∷ []) s more one is =
    let same : t ≡ s = cc is in (ap (λ n. n ∷ []) same, subst (InPair p) same one)
one_slot p (t ∷ u ∷ xs) s more one is = absurd one

first_slot : (xs : List ℕ) (s : ℕ) (more : List ℕ) → unread (first_only xs) [] ≡ s ∷ more
    → (first_only xs ≡ s ∷ []) × (has s xs ≡ true)
first_slot [] s more is = absurd cc
first_slot (x ∷ xs) s more is =
    let same : x ≡ s = cc is in
    let here : (x == s) ≡ true = grind (arith, nat_tests, same) in (ap (λ n. n ∷ []) same, rw here refl)

-- a read of a copy goes to one slot of the pair
first_usable : (p : Placement) (ms : List Member) (s : ℕ) (more : List ℕ)
    → unread (first_only (usable_of ms (pair_of p))) [] ≡ s ∷ more
    → (first_only (usable_of ms (pair_of p)) ≡ s ∷ []) × InPair p s
first_usable p ms s more is =
    let first = first_slot (usable_of ms (pair_of p)) s more is in
    (first.0, in_pair p s (from_filter (λ t. is_usable (member_at ms t)) (pair_of p) s first.1))

read_planned : (level : Option Level) (shape : Shape) (p : Placement) (ms : List Member) (s : ℕ) (more : List ℕ)
    → has_copies level ≡ true → unread (read_plan level shape p ms) [] ≡ s ∷ more
    → (read_plan level shape p ms ≡ s ∷ []) × InPair p s
read_planned None shape p ms s more h is = absurd cc
read_planned (Some One) shape p ms s more h is = first_usable p ms s more is
read_planned (Some Five) shape p ms s more h is = absurd cc
read_planned (Some Ten) shape p ms s more h is = first_usable p ms s more is

-- so the plan has that slot alone
none_left : (s : ℕ) (t : ℕ) (x : Sector) (more : List ℕ)
    → unread (s ∷ []) (record { slot = s; sector = x } ∷ []) ≡ t ∷ more → ⊥
none_left s t x more is = absurd (let here : (s == s) ≡ true = grind (arith, nat_tests) in
    let none : unread (s ∷ []) (record { slot = s; sector = x } ∷ []) ≡ [] = rw here refl in cc (none, is))

module _ (S : Setting) (inside : RowsInside S) (apart : AreApart S) (c : Control) (log : List Call)
    (journal : List Entry) (calls n : ℕ) (order : InOrder S c journal) (rows : RowsHold S c log journal)
    (g : Ground S c) (k : ℕ) where
  abbrev now : List Entry
  now = journal ++ entered n None

  content : (j : ℕ) → (content_at S now j ≡ content_at S journal j) × (is_unsure_at S now j ≡ is_unsure_at S journal j)
  content j = (
    content_stays S journal n None tt (volume_of S j) (sector_at S j),
    unsure_stays S journal n None tt (volume_of S j) (sector_at S j),
  )

  -- A CALL THAT WRITES NOTHING

  calm : (i : ℕ) (r q : Row) (d : ℕ) (what : What) → job_of c k ≡ Busy i r → q.begun ≡ true
      → ((e p : ℕ) → stood_at S (log_after log (Some (call_on d what true))) e p ≡ stood_at S log e p)
      → (is_write S i ≡ true → IsCopied S i → WriterHolds S c log i q)
      → (is_write S i ≡ false → IsCopied S i → ReaderHolds S (log_after log (Some (call_on d what true))) now i q)
      → RowsHold S (put S (ClientMoves k (with_job (left_of c k) (Busy i q)) IsSilent) c)
      (log_after log (Some (call_on d what true))) now
  calm i r q d what has_it begun same write read =
      client_rows S c k (with_job (left_of c k) (Busy i q)) IsSilent log (Some (call_on d what true)) journal now (λ j. ⊥)
      (record {
        there = there_by_job c.clients k (Busy i r) has_it (λ e. absurd cc);
        kept_out = λ m j r other is b hit. hit;
        no_pass = λ v j p is volume row lock hit. hit;
        cell = λ j s e copied sound pair disk works. inl (same e (place_on S j));
        content = λ j. inl (content j);
        submitted = λ m j r other is. submitted_stays S journal n j None tt;
        hit = λ j s d copied counts hit. absurd hit;
        goes_on = λ op q2 is b w sound. inr (q, ap (λ z. Busy z q) (one_job i op r q2 (sym has_it ∙ is)).0, begun);
        writes = λ j q2 is w copied.
            let both = one_job i j q q2 is in
            subst (WriterHolds S c (log_after log (Some (call_on d what true))) j) both.1
            (later j (write (subst (λ z. is_write S z ≡ true) (sym both.0) w) (subst (IsCopied S) (sym both.0) copied)) both.0);
        reads = λ j q2 is w copied.
            let both = one_job i j q q2 is in
            subst (ReaderHolds S (log_after log (Some (call_on d what true))) now j) both.1
            (subst (λ z. ReaderHolds S (log_after log (Some (call_on d what true))) now z q) both.0
            (read (subst (λ z. is_write S z ≡ false) (sym both.0) w) (subst (IsCopied S) (sym both.0) copied)));
      }) rows
    where
      later : (j : ℕ) → WriterHolds S c log i q → i ≡ j → WriterHolds S c (log_after log (Some (call_on d what true))) j q
      later j old is = subst (λ z. WriterHolds S c (log_after log (Some (call_on d what true))) z q) is (record {
        early = old.early;
        wrote = λ b s e counts h. same e (place_on S i) ∙ old.wrote b s e counts h;
        saw = old.saw;
      })

  -- A READ

  got_at : (xs : List Call) (x : Call) → slice_get (xs ++ x ∷ []) (length xs) ≡ Some x
  got_at [] x = refl
  got_at (y ∷ ys) x = got_at ys x

  module _ (i : ℕ) (r : Row) (s d : ℕ) (x : Ended) (needs : Needs S c k i r (Reads s))
      (source : source_in (volume_at c.volumes (volume_of S i)) s ≡ Some d) (works : has d c.round.faults ≡ false)
      (gave : x.got ≡ stood_at S log d (place_on S i)) (stamps : submitted_from i 0 journal ≤ length log) where
    abbrev call : Call
    call = call_on d (Read (place_on S i)) true

    abbrev plan : List ℕ
    plan = plan_or r.plan (the_plan S c i r)

    abbrev new : Row
    new = went_on (Reads s) x.got (row_tried S c i r)

    left_first : (more : List ℕ) × (unread plan r.got ≡ s ∷ more)
    left_first =
        reads_left S (members_now S c i r) (pair_of (the_place S i)) (unread plan r.got) r (is_write S i) s needs.is

    module _ (reads : is_write S i ≡ false) (copied : IsCopied S i) where
      old : ReaderHolds S log journal i r
      old = rows.readers k i r needs.has reads copied

      first_plan : r.got ≡ [] → (plan ≡ s ∷ []) × InPair (the_place S i) s
      first_plan none = at r.plan old.plan (subst (λ g. unread plan g ≡ s ∷ left_first.0) none left_first.1)
        where
          at : (had : Option (List ℕ)) → IsOneSlot (the_place S i) had
              → unread (plan_or had (the_plan S c i r)) [] ≡ s ∷ left_first.0
              → (plan_or had (the_plan S c i r) ≡ s ∷ []) × InPair (the_place S i) s
          at None one is =
              let by : planned (shape_of S (volume_of S i)) (the_place S i) (is_write S i) (members_now S c i r)
              ≡ read_plan (shape_of S (volume_of S i)).level (shape_of S (volume_of S i)) (the_place S i) (members_now S c i r) =
              ap (λ w. planned (shape_of S (volume_of S i)) (the_place S i) w (members_now S c i r)) reads in
              let planned_is = read_planned (shape_of S (volume_of S i)).level (shape_of S (volume_of S i)) (the_place S i)
              (members_now S c i r) s left_first.0 copied.copies (subst (λ p. unread p [] ≡ s ∷ left_first.0) by is) in
              (by ∙ planned_is.0, planned_is.1)
          at (Some had) one is = one_slot (the_place S i) had s left_first.0 one is

      nothing_yet : r.got ≡ []
      nothing_yet = elim old.got [
        | inl none ↦ none
        | inr h ↦ absurd (none_left h.got.slot s h.got.sector left_first.0
            (subst (λ p. unread p (h.got ∷ []) ≡ s ∷ left_first.0)
            (ap (λ o. plan_or o (the_plan S c i r)) h.plan)
            (subst (λ gs. unread plan gs ≡ s ∷ left_first.0) h.is left_first.1)))
      ]

      plan_is : plan ≡ s ∷ []
      plan_is = (first_plan nothing_yet).0

      pair : InPair (the_place S i) s
      pair = (first_plan nothing_yet).1

      counts : Counts S c i s d
      counts = record {
        sound = needs.sound;
        pair = pair;
        disk = (source_is (volume_at c.volumes (volume_of S i)) s d source).1;
        works = works;
        why = inl (source_is (volume_at c.volumes (volume_of S i)) s d source).0;
      }

      told : IsSure S journal i → x.got ≡ content_at S journal i
      told sure = gave ∙ at (rows.holds i s d copied counts)
        where
          at : Tells S log journal i d ⊎ IsWriting S c i → stood S log i d ≡ content_at S journal i
          at (inl tells) = tells sure
          at (inr w) =
              let own = alone S c k i needs.free w.client w.op w.row w.has w.begun w.volume
              (row_of_one S w.op i (w.volume, w.sector)) in
              let same = (one_job i w.op r w.row (sym needs.has ∙ subst (λ m. job_of c m ≡ Busy w.op w.row) own w.has)).0 in
              let not_it = subst (λ z. is_write S z ≡ false) same reads in
              let it = w.writes in absurd (cc (it, not_it))

      pub read_holds : ReaderHolds S (log_after log (Some (call_on d (Read (place_on S i)) true))) now i new
      read_holds = record {
        plan = subst (λ p. IsOneSlot (the_place S i) (Some p)) (sym plan_is) pair;
        got = inr (record {
          got = record { slot = s; sector = x.got };
          is = ap (λ gs. gs ++ record { slot = s; sector = x.got } ∷ []) nothing_yet;
          plan = ap (λ p. Some p) plan_is;
          begun = refl;
          sure = λ h. told (sym (content i).1 ∙ h) ∙ sym (content i).0;
          given = rw (submitted_stays S journal n i None tt) (record {
            before = length log;
            disk = d;
            place = place_on S i;
            from = stamps;
            until = let long = length-append log (call ∷ []) in omega (arith, long);
            at_row = refl;
            call = got_at log call;
            gives = gave ∙ ap (λ l. stood_at S l d (place_on S i))
                (sym (take-append-le (length log) log (call ∷ []) (omega arith) ∙ take_all (length log) log (omega arith)));
          });
        });
      }

    pub read_keeps : RowsHold S (put S (ClientMoves k (with_job (left_of c k) (Busy i new)) IsSilent) c)
        (log_after log (Some (call_on d (Read (place_on S i)) true))) now
    read_keeps =
        calm i r new d (Read (place_on S i)) needs.has refl
        (λ e p. spared S log d (Read (place_on S i)) true e p (λ same. read_spares p (place_on S i) true))
        (λ w copied. begun_writer S c log journal n order rows k i r new needs.has w copied refl refl refl)
        read_holds

  -- A SYNC

  module _ (i : ℕ) (r : Row) (s d : ℕ) (x : Ended) (needs : Needs S c k i r (Syncs s)) where
    synced_row : Row
    synced_row = went_on (Syncs s) x.got (row_tried S c i r)

    pub sync_keeps : RowsHold S (put S (ClientMoves k (with_job (left_of c k) (Busy i (went_on (Syncs s) x.got (row_tried S c i r)))) IsSilent) c)
        (log_after log (Some (call_on d Sync true))) now
    sync_keeps =
        calm i r (went_on (Syncs s) x.got (row_tried S c i r)) d Sync needs.has refl
        (λ e p. spared S log d Sync true e p (λ same. sync_spares p true))
        (λ w copied. begun_writer S c log journal n order rows k i r (went_on (Syncs s) x.got (row_tried S c i r)) needs.has w copied refl refl refl)
        (λ reads copied. absurd (let w = syncs_write S (members_now S c i r) (pair_of (the_place S i))
        (unread (plan_or r.plan (the_plan S c i r)) r.got) r (is_write S i) s needs.is in cc (w, reads)))

  -- A WRITE

  brought_is : (level : Option Level) (p : Placement) (v : Sector) (got : List Got) (s : ℕ) → has_copies level ≡ true
      → sector_to S level p v got s ≡ v
  brought_is None p v got s h = absurd cc
  brought_is (Some One) p v got s h = refl
  brought_is (Some Five) p v got s h = absurd cc
  brought_is (Some Ten) p v got s h = refl

  module _ (i : ℕ) (r : Row) (s d : ℕ) (x : Ended) (needs : Needs S c k i r (Writes s))
      (is_on : disk_in (slots_of c (volume_of S i)) s ≡ Some d) (works : has d c.round.faults ≡ false)
      (below : row_at S i < (shape_of S (volume_of S i)).rows) where
    abbrev written_row : Row
    written_row = went_on (Writes s) x.got (row_tried S c i r)

    abbrev brought : Sector
    brought = sector_to S (shape_of S (volume_of S i)).level (the_place S i) (value_at S i) (row_tried S c i r).got s

    abbrev what : What
    what = Write (place_on S i) (brought ∷ []) 1

    abbrev later : List Call
    later = log_after log (Some (call_on d what true))

    is_writing : (is_write S i ≡ true) × (has s (pair_of (the_place S i)) ≡ true)
    is_writing = writes_in S (members_now S c i r) (pair_of (the_place S i))
        (unread (plan_or r.plan (the_plan S c i r)) r.got) r (is_write S i) s needs.is

    touch : (j t e : ℕ) → IsCopied S j → is_broken c (volume_of S j) ≡ false → disk_of c (volume_of S j) t ≡ Some e
        → has e c.round.faults ≡ false
        → (stood S later j e ≡ stood S log j e) ⊎ Touches S (volume_of S i) (row_at S i) s d j t e
    touch j t e copied sound is sane =
        touched_or_not S inside apart c g (volume_of S i) (row_at S i) s d below is_on log (place_on S i) brought 1 true refl j t e copied sound is sane

    -- what is touched is the operation's own sector
    own_sector : (j t e : ℕ) → (placed : Rattle.array_machine.specs.Operations.place_at S i ≡ Some (the_place S i)) → IsCopied S j → InPair (the_place S j) t
        → Touches S (volume_of S i) (row_at S i) s d j t e → AreOne S i j
    own_sector j t e placed copied pair touched = (
      touched.volume,
      one_sector_at S i j s mine copied touched.volume touched.row_is (in_pair (the_place S i) s is_writing.1)
          (subst (InPair (the_place S j)) (sym touched.slot) pair),
    )
      where
        mine : IsCopied S i
        mine = record {
          placed = placed;
          copies = subst (λ v. Rattle.array_values.specs.Copies.HasCopies S v) (sym touched.volume) copied.copies;
        }

    module _ (placed : Rattle.array_machine.specs.Operations.place_at S i ≡ Some (the_place S i)) where
      cell : (j t e : ℕ) → IsCopied S j → is_broken c (volume_of S j) ≡ false → InPair (the_place S j) t
          → disk_of c (volume_of S j) t ≡ Some e → has e c.round.faults ≡ false
          → (stood S later j e ≡ stood S log j e) ⊎ AreOne S i j
      cell j t e copied sound pair is sane = elim (touch j t e copied sound is sane) [
        | inl same ↦ inl same
        | inr touched ↦ inr (own_sector j t e placed copied pair touched)
      ]

      written_holds : IsCopied S i → WriterHolds S c later i written_row
      written_holds copied = record { early = λ b. absurd cc; wrote = wrote; saw = saw }
        where
          old : WriterHolds S c log i (row_tried S c i r)
          old = begun_writer S c log journal n order rows k i r (row_tried S c i r) needs.has is_writing.0 copied refl refl refl

          not_last : (t : ℕ) (a b : Bool) → has t (r.written ++ s ∷ []) ≡ (a || b) → b ≡ false
              → has t (r.written ++ s ∷ []) ≡ a
          not_last t true b is none = is
          not_last t false b is none = is ∙ none

          wrote : true ≡ true → (t e : ℕ) → Counts S c i t e → has t (r.written ++ s ∷ []) ≡ true
              → stood S later i e ≡ value_at S i
          wrote begun t e counts has_it = by (s == t) refl
            where
              by : (b : Bool) → (s == t) ≡ b → stood S later i e ≡ value_at S i
              by true is =
                  let slot : s ≡ t = grind (arith, nat_tests, is) in
                  let disk : d ≡ e = cc (sym is_on ∙ subst (λ u. disk_of c (volume_of S i) u ≡ Some e) (sym slot) counts.disk) in
                  subst (λ z. stood S later i z ≡ value_at S i) disk
                  (brings S log d (place_on S i) brought true
                  ∙ brought_is (shape_of S (volume_of S i)).level (the_place S i) (value_at S i) (row_tried S c i r).got s copied.copies)
              by false is = elim (touch i t e copied counts.sound counts.disk counts.works) [
                | inl same ↦ same ∙ old.wrote refl t e counts (sym (not_last t (has t r.written) (s == t) (has_last r.written s t) is) ∙ has_it)
                | inr touched ↦ absurd (let slot = touched.slot in let here : (s == t) ≡ true = grind (arith, nat_tests, slot) in cc (here, is))
              ]

          saw : true ≡ true → (t e : ℕ) → Counts S c i t e → has t (r.written ++ s ∷ []) ≡ false
              → disk_then (disks_begun r.begun r.disks (slots_of c (volume_of S i))) t ≡ Some e
          saw begun t e counts none =
              old.saw refl t e counts (or_first (has t r.written) (s == t) (sym (has_last r.written s t) ∙ none))
            where
              or_first : (a b : Bool) → (a || b) ≡ false → a ≡ false
              or_first true b h = absurd cc
              or_first false b h = refl

      pub write_keeps : RowsHold S (put S (ClientMoves k (with_job (left_of c k) (Busy i written_row)) IsSilent) c)
          (log_after log (Some (call_on d (Write (place_on S i) (brought ∷ []) 1) true))) now
      write_keeps =
          client_rows S c k (with_job (left_of c k) (Busy i written_row)) IsSilent log (Some (call_on d what true)) journal now (AreOne S i)
          (record {
            there = there_by_job c.clients k (Busy i r) needs.has (λ e. absurd cc);
            kept_out = kept_out S c k i needs.free;
            no_pass = pass_kept_out S c k i needs.free;
            cell = cell;
            content = λ j. inl (content j);
            submitted = λ m j q other is. submitted_stays S journal n j None tt;
            hit = λ j t e copied counts one. inr (record {
              client = k;
              op = i;
              row = written_row;
              has = own_job;
              begun = refl;
              writes = is_writing.0;
              volume = one.0;
              sector = one.1;
            });
            goes_on = λ op q is b w sound.
                inr (written_row, ap (λ z. Busy z written_row) (one_job i op r q (sym needs.has ∙ is)).0, refl);
            writes = λ j q is w copied.
                let both = one_job i j written_row q is in
                subst (WriterHolds S c later j) both.1
                (subst (λ z. WriterHolds S c later z written_row) both.0 (written_holds (subst (IsCopied S) (sym both.0) copied)));
            reads = λ j q is reads copied.
                let both = one_job i j written_row q is in
                absurd (let it = is_writing.0 in let none = subst (λ z. is_write S z ≡ false) (sym both.0) reads in cc (it, none));
          }) rows
        where
          own_job : job_of (put S (ClientMoves k (with_job (left_of c k) (Busy i written_row)) IsSilent) c) k ≡ Busy i written_row
          own_job = elim (client_set c.clients k (with_job (left_of c k) (Busy i written_row)) k (there_by_job c.clients k (Busy i r) needs.has (λ e. absurd cc))) [
            | inl here ↦ ap (λ (y : Client). y.job) here.1
            | inr there ↦ absurd (there.0 refl)
          ]
