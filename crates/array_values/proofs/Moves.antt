-- Any move of a client without a call keeps the rows. A write that is done was written on each slot that counts.
use Rattle.std.proofs.Common.{◌≡◌, ℕ, ◌==◌, Bool, true, false, List, [], ◌++◌, refl, ap, sym, ◌∙◌, subst, arith, Some, None, ◌⊎◌, inl, inr}
use Rattle.std.proofs.lemmas.Bool.Decides.{nat_tests}
use Rattle.device_log.specs.Log.{Call}
use Rattle.array_model.specs.declared.journal.Entry.{Entry}
use Rattle.array_model.specs.declared.journal.Answer.{Answer}
use Rattle.array_model.specs.declared.journal.Answer.TheVariants.{Done, Past, Failed, NoSpare}
use Rattle.array_model.specs.Placement.{Placement, placement_of}
use Rattle.array_model.specs.Events.{is_done}
use Rattle.array_machine.specs.Setting.{Setting}
use Rattle.array_machine.specs.Numbers.{has}
use Rattle.array_machine.specs.Volumes.{Slot, slot_at, member_at, Pass}
use Rattle.array_machine.specs.Operations.{volume_of, shape_of, the_place, value_at, is_write, is_write_kind}
use Rattle.array_machine.specs.Clients.{Row, no_row, NoJob, Submitted, Busy, Client, with_job}
use Rattle.array_machine.specs.RowJobs.{members_since, members_for, pair_of, Answers, plan_or, planned, unread, read_or, after_reads}
use Rattle.array_machine.specs.ClientTurns.{members_now}
use Rattle.array_machine.specs.Control.{Control}
use Rattle.array_machine.specs.Changes.{ClientMoves, ClientWord, IsSilent, Submits, Acknowledges, client_entry}
use Rattle.array_machine.specs.Puts.{put}
use Rattle.array_machine.specs.Machine.{entered}
use Rattle.array_paths.specs.InTurn.{is_broken, job_of}
use Rattle.array_paths.specs.PassMove.{slots_of}
use Rattle.array_paths.specs.ClientMove.{Needs, ClientMove, submits, takes, is_past, starts, loses, answers, fails, is_whole, has_no_spare}
use Rattle.array_order.specs.ClientOrder.{InOrder}
use Rattle.array_values.specs.Copies.{sector_at, row_at, IsCopied, InPair}
use Rattle.array_values.proofs.Journal.{names_it, content_written, content_beside, unsure_beside}
use Rattle.array_values.proofs.Rows.{pass_of, disk_of, IsPast, content_at, is_unsure_at, stood, Counts, IsWriting, Tells, WriterHolds, ReaderHolds, RowsHold}
use Rattle.array_values.proofs.Pairs.{one_place, one_place_on, pair_has, working_by}
use Rattle.array_values.proofs.Needs.{both_true, done_is, alone, no_pass}
use Rattle.array_values.proofs.ClientRows.{client_rows}
use Rattle.array_values.proofs.ClientMoves.{there_by_job, there_by_left, since_works, one_job, begun_writer, silent, quiet, submits_other, answered}

module _ (S : Setting) where
  -- both operations name one sector
  abbrev pub AreOne : ℕ → ℕ → Type 0
  AreOne i j = (volume_of S i ≡ volume_of S j) × (sector_at S i ≡ sector_at S j)

  pub row_of_one : (i j : ℕ) → AreOne i j → row_at S i ≡ row_at S j
  row_of_one i j one = ap (λ (p : Placement). p.row) (one_place S i j one.0 one.1)

  pub copied_too : (i j : ℕ) → AreOne i j → IsCopied S j → IsCopied S i
  copied_too i j one copied = record {
    placed = ap (λ v. placement_of (shape_of S v) (sector_at S i)) one.0
        ∙ ap (λ s. placement_of (shape_of S (volume_of S j)) s) one.1 ∙ copied.placed
        ∙ ap (λ (p : Placement). Some p) (sym (one_place S i j one.0 one.1));
    copies = subst (λ v. Rattle.array_values.specs.Copies.HasCopies S v) (sym one.0) copied.copies;
  }

  pub counts_too : (c : Control) (i j s d : ℕ) → AreOne i j → Counts S c j s d → Counts S c i s d
  counts_too c i j s d one counts = record {
    sound = subst (λ v. is_broken c v ≡ false) (sym one.0) counts.sound;
    pair = subst (λ p. InPair p s) (sym (one_place S i j one.0 one.1)) counts.pair;
    disk = subst (λ v. disk_of c v s ≡ Some d) (sym one.0) counts.disk;
    works = counts.works;
    why = at counts.why;
  }
    where
      at : ((slot_at (slots_of c (volume_of S j)) s).in_sync ≡ true) ⊎ IsPast (pass_of c (volume_of S j)) (row_at S j)
          → ((slot_at (slots_of c (volume_of S i)) s).in_sync ≡ true) ⊎ IsPast (pass_of c (volume_of S i)) (row_at S i)
      at (inl sync) = inl (subst (λ v. (slot_at (slots_of c v) s).in_sync ≡ true) (sym one.0) sync)
      at (inr past) = inr (subst (λ v. IsPast (pass_of c v) (row_at S i)) (sym one.0)
          (subst (λ r. IsPast (pass_of c (volume_of S j)) r) (sym (row_of_one i j one)) past))

  -- operation i holds its row: no other job has begun there, and no pass holds it
  module _ (c : Control) (k i : ℕ) (free : Rattle.array_machine.specs.ClientTurns.is_held S c k i ≡ false) where
    pub kept_out : (m j : ℕ) (r : Row) → (m ≡ k → ⊥) → job_of c m ≡ Busy j r → r.begun ≡ true → AreOne i j → ⊥
    kept_out m j r other is begun one =
        other (alone S c k i free m j r is begun (sym one.0) (sym (row_of_one i j one)))

    pub pass_kept_out : (v j : ℕ) (p : Pass) → pass_of c v ≡ Some p → volume_of S j ≡ v → row_at S j ≡ p.row
        → p.lock ≡ Some p.row → AreOne i j → ⊥
    pass_kept_out v j p is volume row lock one =
        no_pass S c k i free p (subst (λ w. pass_of c w ≡ Some p) (sym (one.0 ∙ volume)) is)
        (lock ∙ ap (λ n. Some n) (sym row ∙ sym (row_of_one i j one)))

  pub one_or_not : (i j : ℕ) → AreOne i j ⊎ (names_it S [] 0 i (volume_of S j) (sector_at S j) ≡ false)
  one_or_not i j = at (names_it S [] 0 i (volume_of S j) (sector_at S j)) refl
    where
      at : (b : Bool) → names_it S [] 0 i (volume_of S j) (sector_at S j) ≡ b
          → AreOne i j ⊎ (names_it S [] 0 i (volume_of S j) (sector_at S j) ≡ false)
      at true is =
          let both = both_true (volume_of S i == volume_of S j) (sector_at S i == sector_at S j) is in
          let volume = both.0 in let sector = both.1 in
          inl (grind (arith, nat_tests, volume), grind (arith, nat_tests, sector))
      at false is = inr is

  names_one : (i j : ℕ) → AreOne i j → names_it S [] 0 i (volume_of S j) (sector_at S j) ≡ true
  names_one i j one =
      let volume : (volume_of S i == volume_of S j) ≡ true = let e = one.0 in grind (arith, nat_tests, e) in
      let sector : (sector_at S i == sector_at S j) ≡ true = let e = one.1 in grind (arith, nat_tests, e) in
      rw (volume, sector) refl

  module _ (c : Control) (log : List Call) (journal : List Entry) (n : ℕ) (order : InOrder S c journal)
      (rows : RowsHold S c log journal) (k : ℕ) where
    abbrev after : ClientWord → List Entry
    after word = journal ++ entered n (client_entry word)

    -- A WRITE IS DONE

    module _ (i : ℕ) (r : Row) (answer : Answer) (needs : Needs S c k i r (Answers answer)) (writes : is_write S i ≡ true)
      where
        abbrev now : List Entry
        now = after (Acknowledges i answer)

        all : (answer ≡ Done) × ((s : ℕ) → has s (pair_of (the_place S i)) ≡ true
            → (member_at (members_now S c i r) s).working ≡ true → has s r.written ≡ true)
        all = done_is S (members_now S c i r) (pair_of (the_place S i))
            (unread (plan_or r.plan (planned (shape_of S (volume_of S i)) (the_place S i) true (members_now S c i r))) r.got)
            r answer
            (subst (λ w. read_or
            (unread (plan_or r.plan (planned (shape_of S (volume_of S i)) (the_place S i) w (members_now S c i r))) r.got)
            (after_reads S (members_now S c i r) (pair_of (the_place S i)) w r) ≡ Answers answer) writes needs.is)

        is_done_now : is_done answer ≡ true
        is_done_now = ap is_done all.0

        value : (s d : ℕ) → IsCopied S i → Counts S c i s d → stood S log i d ≡ value_at S i
        value s d copied counts = at r.begun refl
          where
            old : WriterHolds S c log i r
            old = rows.writers k i r needs.has writes copied

            pair : has s (pair_of (the_place S i)) ≡ true
            pair = pair_has (the_place S i) s counts.pair

            slots : List Slot
            slots = slots_of c (volume_of S i)

            written : (b : Bool) → r.begun ≡ b → (member_at (members_now S c i r) s).working ≡ true → has s r.written ≡ true
            written b is works = all.1 s pair works

            at : (b : Bool) → r.begun ≡ b → stood S log i d ≡ value_at S i
            at false is =
                let works : (member_at (members_now S c i r) s).working ≡ true = rw is
                (working_by c.round.faults c.round.blocked (slots_of c (volume_of S i)) s d counts.disk counts.works) in
                absurd (let yes_it = all.1 s pair works in let not_it : has s r.written ≡ false = ap (has s) (old.early is) in cc (yes_it, not_it))
            at true is = by (has s r.written) refl
              where
                by : (b : Bool) → has s r.written ≡ b → stood S log i d ≡ value_at S i
                by true has_it = old.wrote is s d counts has_it
                by false no_it =
                    let works : (member_at (members_now S c i r) s).working ≡ true = rw is
                    (since_works c.round.faults c.round.blocked r.disks (slots_of c (volume_of S i)) s d
                    (old.saw is s d counts no_it) counts.disk counts.works) in
                    absurd (let yes_it = all.1 s pair works in cc (yes_it, no_it))

        pub done_keeps : (left : List ℕ)
            → RowsHold S (put S (ClientMoves k (with_job left NoJob) (Acknowledges i answer)) c) log
            (after (Acknowledges i answer))
        done_keeps left =
            client_rows S c k (with_job left NoJob) (Acknowledges i answer) log None journal (after (Acknowledges i answer)) (AreOne i) (record {
              there = there_by_job c.clients k (Busy i r) needs.has (λ e. absurd cc);
              kept_out = kept_out c k i needs.free;
              no_pass = pass_kept_out c k i needs.free;
              cell = λ j s d copied sound pair disk works. inl refl;
              content = λ j. elim (one_or_not i j) [
                | inl one ↦ inr one
                | inr apart ↦ inl (
                  content_beside S journal n i answer writes is_done_now (volume_of S j) (sector_at S j) apart,
                  unsure_beside S journal n i answer writes is_done_now (volume_of S j) (sector_at S j) apart,
                )
              ];
              submitted = λ m j q other is. Rattle.array_values.proofs.Journal.submitted_stays S journal n j (client_entry (Acknowledges i answer)) tt;
              hit = λ j s d copied counts one.
                  inl (λ sure.
                  ap (λ p. Rattle.array_paths.specs.Honest.stood_at S log d p) (sym (one_place_on S i j one.0 one.1))
                  ∙ value s d (copied_too i j one copied) (counts_too c i j s d one counts)
                  ∙ sym (content_written S journal n i answer writes is_done_now (volume_of S j) (sector_at S j)
                  (names_one i j one)));
              goes_on = λ op q is begun w sound.
                  let same = (one_job i op r q (sym needs.has ∙ is)).0 in
                  inl (λ j volume sector. (ap (volume_of S) same ∙ volume, ap (sector_at S) same ∙ sector));
              writes = λ j q is. absurd cc;
              reads = λ j q is. absurd cc;
            }) rows

    -- ALL MOVES

    other_kind : (i : ℕ) → is_write S i ≡ true → is_write S i ≡ false → ⊥
    other_kind i a b = absurd (cc (a, b))

    not_write : (i op : ℕ) (r q : Row) → is_write S i ≡ false → job_of c k ≡ Busy i r → job_of c k ≡ Busy op q
        → is_write S op ≡ true → ⊥
    not_write i op r q none is also w =
        let same = (one_job i op r q (sym is ∙ also)).0 in other_kind op w (subst (λ z. is_write S z ≡ false) same none)

    pub client_keeps : (new : Client) (word : ClientWord) → ClientMove S c k new word
        → RowsHold S (put S (ClientMoves k new word) c) log (after word)
    client_keeps _ _ (submits i rest left free) =
        silent S c log journal n order rows k (with_job rest (Submitted i)) (Submits i)
        (there_by_left c.clients k i rest left) (quiet S c log journal n order rows k (Submits i) tt)
        (submits_other S c log journal n order rows k i rest left)
        (λ op r is begun w sound. absurd (cc (free, is))) (λ j q is. absurd cc) (λ j q is. absurd cc)
    client_keeps _ _ (takes i rest left free reading fits ready_now) =
        silent S c log journal n order rows k (with_job rest (Busy i no_row)) (Submits i)
        (there_by_left c.clients k i rest left) (quiet S c log journal n order rows k (Submits i) tt)
        (submits_other S c log journal n order rows k i rest left)
        (λ op r is begun w sound. absurd (cc (free, is)))
        (λ j q is w. absurd (other_kind j w (subst (λ z. is_write S z ≡ false) (one_job i j no_row q is).0 reading)))
        (λ j q is w copied. subst (ReaderHolds S log (after (Submits i)) j) (one_job i j no_row q is).1
        (record { plan = tt; got = inl refl }))
    client_keeps _ _ (is_past i left l was nowhere names) =
        answered S c log journal n order rows k i Past left
        (there_by_job c.clients k (Submitted i) was (λ e. absurd cc)) (inr refl)
        (λ op r is begun w sound. absurd (cc (was, is)))
    client_keeps _ _ (starts i left l was writing fits leave) =
        silent S c log journal n order rows k (with_job left (Busy i no_row)) IsSilent
        (there_by_job c.clients k (Submitted i) was (λ e. absurd cc))
        (quiet S c log journal n order rows k IsSilent tt) (λ m j r other is. tt)
        (λ op r is begun w sound. absurd (cc (was, is)))
        (λ j q is w copied. subst (WriterHolds S c log j) (one_job i j no_row q is).1
        (record { early = λ b. refl; wrote = λ b s d counts h. absurd cc; saw = λ b s d counts h. absurd cc }))
        (λ j q is w copied. absurd (other_kind i writing (subst (λ z. is_write S z ≡ false) (sym (one_job i j no_row q is).0) w)))
    client_keeps _ _ (loses i r new left l was lost) =
        silent S c log journal n order rows k (with_job left (Busy i new)) IsSilent
        (there_by_job c.clients k (Busy i r) was (λ e. absurd cc))
        (quiet S c log journal n order rows k IsSilent tt) (λ m j q other is. tt)
        (λ op q is begun w sound. (new, ap (λ z. Busy z new) (one_job i op r q (sym was ∙ is)).0, lost.begun))
        (λ j q is w copied.
        let both = one_job i j new q is in
        subst (WriterHolds S c log j) both.1
        (begun_writer S c log journal n order rows k j r new (was ∙ ap (λ z. Busy z r) both.0) w copied lost.begun lost.written
        (subst (λ z. new.disks ≡ Rattle.array_machine.specs.RowJobs.disks_begun r.begun r.disks (slots_of c (volume_of S z))) both.0 lost.disks)))
        (λ j q is w copied.
        let both = one_job i j new q is in
        subst (ReaderHolds S log (after IsSilent) j) both.1
        (again j new (subst (λ z. is_write S z ≡ false) (sym both.0) w) lost.again))
      where
        again : (j : ℕ) (new : Row) → is_write S i ≡ false
            → (is_write S i ≡ true) ⊎ ((new.plan ≡ None) × (new.got ≡ [])) → ReaderHolds S log (after IsSilent) j new
        again j new reads (inl w) = absurd (other_kind i w reads)
        again j new reads (inr none) = record {
          plan = subst (Rattle.array_values.proofs.Rows.IsOneSlot (the_place S j)) (sym none.0) tt;
          got = inl none.1;
        }
    client_keeps _ _ (answers i r answer left l needs) = at (is_write S i) refl
      where
        at : (b : Bool) → is_write S i ≡ b
            → RowsHold S (put S (ClientMoves k (with_job left NoJob) (Acknowledges i answer)) c) log
            (after (Acknowledges i answer))
        at true w = done_keeps i r answer needs w left
        at false w =
            answered S c log journal n order rows k i answer left
            (there_by_job c.clients k (Busy i r) needs.has (λ e. absurd cc)) (inl w)
            (λ op q is begun also sound. not_write i op r q w needs.has is also)
    client_keeps _ _ (fails i r left l was broken) =
        answered S c log journal n order rows k i Failed left
        (there_by_job c.clients k (Busy i r) was (λ e. absurd cc)) (inr refl)
        (λ op q is begun w sound.
        let same = (one_job i op r q (sym was ∙ is)).0 in
        let same_broken = subst (λ z. is_broken c (volume_of S z) ≡ true) same broken in absurd (cc (same_broken, sound)))
    client_keeps _ _ (is_whole i r left l was kind sound whole) =
        let reads : is_write S i ≡ false = ap is_write_kind kind in
        answered S c log journal n order rows k i Done left
        (there_by_job c.clients k (Busy i r) was (λ e. absurd cc)) (inl reads)
        (λ op q is begun w s. not_write i op r q reads was is w)
    client_keeps _ _ (has_no_spare i r left l was kind sound whole lacks) =
        let reads : is_write S i ≡ false = ap is_write_kind kind in
        answered S c log journal n order rows k i NoSpare left
        (there_by_job c.clients k (Busy i r) was (λ e. absurd cc)) (inl reads)
        (λ op q is begun w s. not_write i op r q reads was is w)
