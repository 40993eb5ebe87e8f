-- The rows behind a call of a pass that went through: it reads the content of its row, and brings it to the other slot.
use Rattle.std.proofs.Common.{◌≡◌, ℕ, ◌+◌, ◌≤◌, ◌==◌, Bool, true, false, List, [], ◌∷◌, ◌++◌, refl, ap, sym, ◌∙◌, subst, arith, append-nil, Some, None, ◌⊎◌, inl, inr}
use Rattle.std.proofs.lemmas.Bool.Decides.{nat_tests}
use Rattle.device_log.specs.Log.{Call, What, Read, Sync}
use Rattle.array_model.specs.declared.journal.Entry.{Entry}
use Rattle.array_disks.specs.Calls.{call_on}
use Rattle.array_machine.specs.Setting.{Setting}
use Rattle.array_machine.specs.Numbers.{has, without}
use Rattle.array_machine.specs.Volumes.{slot_at, Member, Got, Pass, volume_at, source_in}
use Rattle.array_machine.specs.Operations.{volume_of, shape_of, the_place, place_on}
use Rattle.array_machine.specs.RowJobs.{Reads, Syncs}
use Rattle.array_machine.specs.Rounds.{Ended}
use Rattle.array_machine.specs.Control.{Control}
use Rattle.array_machine.specs.Changes.{PassMoves, GoesOnQuietly}
use Rattle.array_machine.specs.Puts.{put}
use Rattle.array_machine.specs.SyncTurns.{Work, work_by, row_work, new_sector, with_slot, all_written, next_row, moves_to, past_checkpoint, with_lock, locked_by, row_place, is_free_row}
use Rattle.array_machine.specs.Machine.{log_after, entered}
use Rattle.array_paths.specs.InTurn.{is_broken}
use Rattle.array_paths.specs.PassMove.{slots_of, members_at, work_at, GoesOn, PassNeeds, pass_after}
use Rattle.array_paths.specs.Honest.{stood_at}
use Rattle.array_paths.specs.Ready.{RowsInside}
use Rattle.array_values.specs.Copies.{sector_at, row_at, IsCopied, InPair}
use Rattle.array_values.proofs.Cells.{read_spares, sync_spares, spared}
use Rattle.array_values.proofs.Journal.{content_stays, unsure_stays, submitted_stays}
use Rattle.array_values.proofs.Rows.{disk_of, read_of, content_at, is_unsure_at, IsSure, stood, Counts, Tells, ReadOnce, RowsHold}
use Rattle.array_values.proofs.Needs.{source_is, IsFreeRow, free_row}
use Rattle.array_values.proofs.Moves.{row_of_one}
use Rattle.array_values.proofs.Settled.{StaysInRow, GoesPast, settled_goes, past_checkpoint_stays}
use Rattle.array_values.proofs.Ground.{AreApart, Ground}
use Rattle.array_values.proofs.PassRows.{NewPass, IsToCount, pass_rows}
use Rattle.array_values.proofs.PassFits.{like_pass, later_pass, had_pass, settled_pass, sees_now, settled_counts, runs_still}
use Rattle.array_values.proofs.PassLoses.{LocksRow, locked_is}
use Rattle.array_values.proofs.PassNeeds.{reads_in_row, read_unread, none_read, read_more, read_one, read_other}

module _ (S : Setting) (inside : RowsInside S) (apart : AreApart S) (c : Control) (log : List Call)
    (journal : List Entry) (n : ℕ) (rows : RowsHold S c log journal) (g : Ground S c) (v : ℕ) (p : Pass)
    (goes : GoesOn S c v p) where
  abbrev now : List Entry
  now = journal ++ entered n None

  abbrev ms : List Member
  ms = members_at c v

  pub content : (i : ℕ) → (content_at S now i ≡ content_at S journal i) × (is_unsure_at S now i ≡ is_unsure_at S journal i)
  content i = (
    content_stays S journal n None tt (volume_of S i) (sector_at S i),
    unsure_stays S journal n None tt (volume_of S i) (sector_at S i),
  )

  go : StaysInRow (shape_of S v) ms goes.had p ⊎ GoesPast (shape_of S v) ms goes.had p
  go = subst (λ q. StaysInRow (shape_of S v) ms goes.had q ⊎ GoesPast (shape_of S v) ms goes.had q)
      (sym goes.settles) (settled_goes (shape_of S v) ms goes.had)

  -- the pass, settled, fits
  pub fits : NewPass S (slots_of c v) c.round.faults log journal v p
  fits = settled_pass S c log journal rows v ms goes.had p go
      (had_pass S c log journal rows v goes.had (rows.passes v goes.had goes.sound goes.is))

  pub counts : (q : Pass) → q.row ≡ p.row → (i s d : ℕ) → IsToCount S c v (slots_of c v) (Some q) i s d → Counts S c i s d
  counts q same = settled_counts S c log journal rows v inside g ms (sees_now S c log journal rows v) goes.had goes.had p q goes.is refl go same

  pub tells_on : (later : List Call) (i d : ℕ) → stood S later i d ≡ stood S log i d → Tells S log journal i d
      → Tells S later now i d
  tells_on later i d cell old h = cell ∙ old (sym (content i).1 ∙ h) ∙ sym (content i).0

  -- in a row that is free each slot that counts holds the content
  pub told : (i s d : ℕ) → volume_of S i ≡ v → IsCopied S i → IsFreeRow S c v (row_at S i) → Counts S c i s d
      → Tells S log journal i d
  told i s d volume copied free counts = elim (rows.holds i s d copied counts) [
    | inl tells ↦ tells
    | inr w ↦ absurd (free w.client w.op w.row w.has w.begun (w.volume ∙ volume) (row_of_one S w.op i (w.volume, w.sector)))
  ]

  pub place_is : (i : ℕ) → volume_of S i ≡ v → row_at S i ≡ p.row → place_on S i ≡ row_place S v p.row
  place_is i volume row =
      ap (λ w. (shape_of S w).pba + row_at S i) volume ∙ ap (λ r. (shape_of S v).pba + r) row

  -- a call that writes nothing
  calm : (d : ℕ) (what : What) (q : Pass) → q.row ≡ p.row
      → ((e place : ℕ) → stood_at S (log_after log (Some (call_on d what true))) e place ≡ stood_at S log e place)
      → NewPass S (slots_of c v) c.round.faults (log_after log (Some (call_on d what true))) now v q
      → RowsHold S (put S (PassMoves v (slots_of c v) (Some q) GoesOnQuietly) c)
      (log_after log (Some (call_on d what true))) now
  calm d what q row same fit =
      pass_rows S c v (slots_of c v) (Some q) GoesOnQuietly log (Some (call_on d what true)) journal now (record {
        cell = λ i s e copied sound pair disk works. inl (same e (place_on S i));
        content = content;
        submitted = λ i. submitted_stays S journal n i None tt;
        counts = λ i s e h. inl (counts q row i s e h);
        holds = λ r is sound.
            let one : q ≡ r = cc is in
            subst (NewPass S (slots_of c v) c.round.faults (log_after log (Some (call_on d what true))) now v) one fit;
        runs = λ i volume copied sound m. runs_still S c log journal rows v i volume m;
      }) rows

  later_fits : (later : List Call)
      → ((e place : ℕ) → stood_at S later e place ≡ stood_at S log e place)
      → NewPass S (slots_of c v) c.round.faults later now v p
  later_fits later same = later_pass S (slots_of c v) c.round.faults log later journal now v p content
      (λ i s d volume copied pair disk works row lock has_it. same d (place_on S i)) fits

  -- A SYNC

  module _ (s d : ℕ) (x : Ended) where
    abbrev touched_less : Pass
    touched_less = record p { touched = without s p.touched }

    stays : StaysInRow (shape_of S v) ms touched_less (pass_after S c v p (Syncs s) x)
    stays = past_checkpoint_stays (shape_of S v) ms (record p { touched = without s p.touched }) p.syncing (without s p.touched) refl

    pub sync_keeps : RowsHold S (put S (PassMoves v (slots_of c v) (Some (pass_after S c v p (Syncs s) x)) GoesOnQuietly) c)
        (log_after log (Some (call_on d Sync true))) now
    sync_keeps = calm d Sync (pass_after S c v p (Syncs s) x) stays.row same
        (like_pass S (slots_of c v) c.round.faults (log_after log (Some (call_on d Sync true))) now v p (pass_after S c v p (Syncs s) x)
        (later_fits (log_after log (Some (call_on d Sync true))) same) stays.row stays.got stays.written (inl stays.lock)
        (λ h. subst (λ r. (shape_of S v).rows ≤ r) (sym stays.row) (over (stays.over h))))
      where
        same : (e place : ℕ) → stood_at S (log_after log (Some (call_on d Sync true))) e place ≡ stood_at S log e place
        same e place = spared S log d Sync true e place (λ is. sync_spares place true)

        over : (p.over ≡ true) ⊎ ((shape_of S v).rows ≤ p.row) → (shape_of S v).rows ≤ p.row
        over (inl h) = fits.over h
        over (inr le) = le

  -- A READ

  module _ (s d : ℕ) (x : Ended) (needs : PassNeeds S c v p (Reads s)) (free : is_free_row S c v p.row ≡ true)
      (source : source_in (volume_at c.volumes v) s ≡ Some d) (works : has d c.round.faults ≡ false)
      (gave : x.got ≡ stood_at S log d (row_place S v p.row)) where
    abbrev later_read : List Call
    later_read = log_after log (Some (call_on d (Read (row_place S v p.row)) true))

    abbrev read_got : Got
    read_got = record { slot = s; sector = x.got }

    row : (p.over ≡ false) × (Rattle.array_machine.specs.SyncTurns.need_sets p (work_at S c v p.row) ≡ Reads s)
    row = reads_in_row p (work_at S c v p.row) s needs.is

    same_cells : (e place : ℕ) → stood_at S later_read e place ≡ stood_at S log e place
    same_cells e place = spared S log d (Read (row_place S v p.row)) true e place (λ is. read_spares place (row_place S v p.row) true)

    old : NewPass S (slots_of c v) c.round.faults later_read now v p
    old = later_fits later_read same_cells

    reads_content : (i : ℕ) → volume_of S i ≡ v → IsCopied S i → row_at S i ≡ p.row → InPair (the_place S i) s
        → IsSure S now i → x.got ≡ content_at S now i
    reads_content i volume copied at pair sure =
        let on = source_is (volume_at c.volumes v) s d source in
        gave ∙ ap (λ q. stood_at S log d q) (sym (place_is i volume at))
        ∙ told i s d volume copied (subst (IsFreeRow S c v) (sym at) (free_row S c v p.row rows.clients free).1)
        (record {
          sound = subst (λ w. is_broken c w ≡ false) (sym volume) goes.sound;
          pair = pair;
          disk = subst (λ w. disk_of c w s ≡ Some d) (sym volume) on.1;
          works = works;
          why = inl (subst (λ w. (slot_at (slots_of c w) s).in_sync ≡ true) (sym volume) on.0);
        }) (sym (content i).1 ∙ sure)
        ∙ sym (content i).0

    read_row : Pass
    read_row = record p { got = p.got ++ record { slot = s; sector = x.got } ∷ []; lock = Some p.row }

    got_now : (t : ℕ) → (read_of t (p.got ++ read_got ∷ []) ≡ []) ⊎ ReadOnce S now v p.row t (p.got ++ read_got ∷ [])
    got_now t = at (t == s) (s == t) refl (grind (arith, nat_tests)) (old.got t)
      where
        at : (b e : Bool) → (s == t) ≡ e → b ≡ e → (read_of t p.got ≡ []) ⊎ ReadOnce S now v p.row t p.got
            → (read_of t (p.got ++ read_got ∷ []) ≡ []) ⊎ ReadOnce S now v p.row t (p.got ++ read_got ∷ [])
        at b true is e had =
            let slot : s ≡ t = grind (arith, nat_tests, is) in
            let none : read_of t p.got ≡ [] =
            subst (λ z. read_of z p.got ≡ []) slot (none_read p.got s (read_unread p (work_at S c v p.row) s row.1)) in
            let here : (t == s) ≡ true = grind (arith, nat_tests, is) in
            inr (record {
              one = read_got;
              is = read_more p.got t read_got ∙ ap (λ l. l ++ read_of t (read_got ∷ [])) none ∙ read_hit t here;
              tells = λ i volume copied at pair.
                  reads_content i volume copied at (subst (InPair (the_place S i)) (sym slot) pair);
            })
          where
            read_hit : (t : ℕ) → (t == s) ≡ true → read_of t (read_got ∷ []) ≡ read_got ∷ []
            read_hit t is = flip t is
              where
                flip : (t : ℕ) → (t == s) ≡ true → read_of t (record { slot = s; sector = x.got } ∷ []) ≡ record { slot = s; sector = x.got } ∷ []
                flip t is = read_one s t x.got is
        at b false is e had =
            let off : (t == s) ≡ false = grind (arith, nat_tests, is) in
            let same : read_of t (p.got ++ read_got ∷ []) ≡ read_of t p.got =
            read_more p.got t read_got ∙ ap (λ l. read_of t p.got ++ l) (read_other s t x.got off) ∙ append-nil (read_of t p.got) in
            elim had [
              | inl none ↦ inl (same ∙ none)
              | inr once ↦ inr (record { one = once.one; is = same ∙ once.is; tells = once.tells })
            ]

    pub read_keeps : RowsHold S (put S (PassMoves v (slots_of c v) (Some (pass_after S c v p (Reads s) x)) GoesOnQuietly) c)
        (log_after log (Some (call_on d (Read (row_place S v p.row)) true))) now
    read_keeps = calm d (Read (row_place S v p.row)) (pass_after S c v p (Reads s) x) locked.row same_cells (record {
      lock = inl lock;
      over = λ h. absurd (let is = row.0 in let it = sym locked.over ∙ h in cc (it, is));
      got = λ t. elim (got_now t) [
        | inl none ↦ inl (ap (read_of t) locked.got ∙ none)
        | inr once ↦ inr (record {
          one = once.one;
          is = ap (read_of t) locked.got ∙ once.is;
          tells = λ i volume copied at pair. once.tells i volume copied (at ∙ locked.row) pair;
        })
      ];
      written = λ i t e volume copied at pair has_it disk sane.
          old.written i t e volume copied (at ∙ locked.row) pair (sym (ap (has t) locked.written) ∙ has_it) disk sane;
    })
      where
        locked : LocksRow (record p { got = p.got ++ read_got ∷ [] }) (pass_after S c v p (Reads s) x)
        locked = locked_is (Reads s) p.row (record p { got = p.got ++ record { slot = s; sector = x.got } ∷ [] })

        lock : (pass_after S c v p (Reads s) x).lock ≡ Some (pass_after S c v p (Reads s) x).row
        lock = let here : (p.row == p.row) ≡ true = grind (arith, nat_tests) in rw here refl
