-- The block of each round that begins counts what the passes have read, and goes on to: through each effect.
use Rattle.std.proofs.Common.{◌≡◌, ℕ, ◌+◌, ◌*◌, ◌<◌, ◌≤◌, Bool, true, false, List, [], ◌∷◌, ◌++◌, length, is_some, refl, ap, sym, ◌∙◌, subst, arith, Option, Some, None, ◌⊎◌, inl, inr, eq-eqb}
use Rattle.std.specs.Prelude.{IsSome}
use Rattle.units.specs.declared.disk.Sector.{Sector}
use Rattle.device_log.specs.Log.{Call, What, Read}
use Rattle.array_model.specs.declared.journal.Entry.{Entry}
use Rattle.array_model.specs.declared.journal.Event.{Event}
use Rattle.array_model.specs.declared.journal.Event.TheVariants.{Begin}
use Rattle.array_model.specs.Blocks.{Laid}
use Rattle.array_model.specs.Placement.{Shape, placement_of}
use Rattle.array_model.specs.Events.{AtEach}
use Rattle.array_model.specs.FailureLaw.{pass_from, IsNotAt, IsElsewhere, ReadsRow, BeginCounts}
use Rattle.array_model.proofs.Journals.{at_each_map, at_each_more}
use Rattle.array_disks.proofs.Rounds.{round_known}
use Rattle.array_machine.specs.Setting.{Setting}
use Rattle.array_machine.specs.Volumes.{Pass, volume_at}
use Rattle.array_machine.specs.Operations.{shape_of}
use Rattle.array_machine.specs.Rounds.{Ended, Rest, has_target}
use Rattle.array_machine.specs.RoundEnds.{has_other}
use Rattle.array_machine.specs.Control.{Control}
use Rattle.array_machine.specs.Changes.{Change, RoundBegins, entry_of}
use Rattle.array_machine.specs.Puts.{put}
use Rattle.array_machine.specs.Machine.{World, calls_after, log_after, entered}
use Rattle.array_machine.specs.TakeoverTurns.{has_all}
use Rattle.array_paths.specs.InTurn.{InTurn}
use Rattle.array_paths.specs.MayEdit.{IsNext}
use Rattle.array_paths.specs.Comes.{Comes, begins, begins_spare, ends, ends_spare, lapses, fails, unblocks, readies, pends, activates, again, idles, cleans, client, pass, manages, kills, takes_over, resumes, dies}
use Rattle.array_paths.specs.PassMove.{slots_of}
use Rattle.array_paths.specs.AtRows.{AtRows, by_client, by_pass, by_monitor, after_read}
use Rattle.array_paths.specs.Effects.{Effect, quiet, row, row_fails, steps, step_fails, after_effect}
use Rattle.array_base.specs.Premises.{generation_of, MayBeBook, Premises}
use Rattle.array_base.specs.Base.{disks_by}
use Rattle.array_base.specs.Laws.{OverBase}
use Rattle.array_base.proofs.NextBlock.{next_is_book}
use Rattle.array_form.specs.Behind.{Behind}
use Rattle.array_told.specs.Told.{Tells, Stamps}
use Rattle.array_told.proofs.Stamps.{later}
use Rattle.array_finished.proofs.Begun.{BeginsNone, Leaves, leaves_all}
use Rattle.array_gate.proofs.Dirty.{target_trusted}
use Rattle.array_gate.proofs.Entries.{at_entered}
use Rattle.array_failures.specs.Members.{LastLeads}
use Rattle.array_failures.proofs.Begun.{old_begun, old_block, new_begun, new_block}
use Rattle.array_units.specs.Passes.{checkpoint_unit, HasPassed}
use Rattle.array_units.specs.EditUnits.{EditsKeepUnits}
use Rattle.array_units.specs.Counted.{IsPassed, IsCounted, IsSince, CountsRead, HasCounted, HasCountedAt}
use Rattle.array_units.specs.Seats.{AreSeated}
use Rattle.array_units.specs.Rests.{NoneCount}
use Rattle.array_units.proofs.Begins.{opened_next, passed_counted}
use Rattle.array_units.proofs.Kept.{each_map, calls_on}
use Rattle.array_units.proofs.Due.{finished_by, due_order, due_own}

-- where operations name nothing, by the shape of the newest block too
elsewhere_by : (S : Setting) (m : Laid) (v k : ℕ) → S.start.words.shape m v ≡ shape_of S v
    → IsElsewhere S.start S.asked.ops m v k → IsElsewhere S.start S.asked.ops S.start.newest v k
elsewhere_by S m v k same elsewhere i s kind is named =
    subst (λ (z : Shape). IsNotAt (placement_of z s) k) same (elsewhere i s kind is named)

module _ (S : Setting) (P : Premises S) (units : EditsKeepUnits S P.edits.formed) (t : InTurn) (w : World)
    (prev : Option Change) (more : List Change) where
  abbrev c : Control
  c = w.control

  -- THE ROUND THAT BEGINS

  module _ (none : NoneCount prev w.journal) (seated : AreSeated S t.before)
      (since : (v n : ℕ) → pass_from v None w.journal ≡ Some n → IsSince S c w.log v n) where
    counts_new : (x : Ended) (m : Laid) → OverBase S P t w None x (RoundBegins m) → c.round.phase ≡ Rest
        → has_target S c.round ≡ true → IsNext S t c m → Behind S t.before c prev more (RoundBegins m) → (v n : ℕ)
        → pass_from v None w.journal ≡ Some n → CountsRead S w.log v n w.calls m
    counts_new x m o rest target next (inr update) v n counted =
        absurd (let without = subst (λ p. NoneCount p w.journal) update.update.behind none v in cc (counted, without))
    counts_new x m o rest target next (inl due) v n counted =
        each_map (λ before y. n ≤ before → IsCounted S c v y)
        (λ before y. n ≤ before → before < w.calls → (k : ℕ) → ReadsRow S.start m v k y
        → IsElsewhere S.start S.asked.ops m v k → IsSome (S.start.words.pass m v)
        → checkpoint_unit k ≤ S.start.words.unit m v)
        (λ j y had from to k reads elsewhere open_in. in_block k (had from k
        (reads.what ∙ ap (λ (z : Shape). Read (z.pba + k)) shape)
        (subst (λ (z : Shape). k < z.rows) shape reads.below)
        (elsewhere_by S m v k shape elsewhere))
        open_in) 0 w.log s.calls
      where
        s : IsSince S c w.log v n
        s = since v n counted

        book : MayBeBook S P.edits.formed c.round.book
        book = o.before.core.hand.book

        shape : S.start.words.shape m v ≡ shape_of S v
        shape = (next_is_book S P t c m next book).shape v

        is_later : c.round.first ≡ false
        is_later = finished_by S P t w.log c o.before.core.generations s.ended

        in_block : (k : ℕ) → IsPassed S c v k → is_some (S.start.words.pass m v) ≡ true
            → checkpoint_unit k ≤ S.start.words.unit m v
        in_block k passed there = by_pass_of goes (volume_at c.volumes v).pass refl
          where
            own : has_other S (S.start.words.slots c.round.book v) (slots_of c v) ≡ false
            own = due_own S P t w.log c prev m due seated rest s.ended target o.before v s.started

            goes : (S.start.words.pass m v ≡ None) ⊎ (is_some (volume_at c.volumes v).pass ≡ true)
            goes =
                opened_next S P units t c m next (due_order S P t w.log c prev m due next) is_later book v s.started
                (o.ready.started v s.started) own
                (s.opened (λ rests. target_trusted S c.round is_later target))

            within : (p : Pass) → HasPassed (shape_of S v).rows p k
                → (p.over ≡ true) ⊎ (p.ready * 128 ≤ (shape_of S v).rows)
            within p (inl over) = inl over
            within p (inr had) = inr had.1

            by_pass_of : (S.start.words.pass m v ≡ None) ⊎ (is_some (volume_at c.volumes v).pass ≡ true)
                → (to : Option Pass) → (volume_at c.volumes v).pass ≡ to
                → checkpoint_unit k ≤ S.start.words.unit m v
            by_pass_of (inl shut) to is = absurd (cc (ap is_some shut, there))
            by_pass_of (inr on) None is = absurd (cc (ap is_some is, on))
            by_pass_of (inr on) (Some p) is =
                passed_counted S P units t c m next (due_order S P t w.log c prev m due next) is_later book v s.started
                (o.ready.started v s.started) own p is (within p (passed.passed p is)) k passed there

    -- ENTRIES

    abbrev AtNow : Option Call → Change → Event → Type 0
    AtNow call a e =
        HasCountedAt S (disks_by S (log_after w.log call)) (put S a c) (log_after w.log call) w.journal
        (calls_after w.calls call) e

    other_entry : (call : Option Call) (a : Change) → BeginsNone a → (e : Event) → entry_of S a ≡ Some e
        → AtNow call a e
    other_entry call a quietly (Begin g) is =
        let leaves : Leaves g (Some (Begin g)) = subst (Leaves g) is (leaves_all g S a quietly) in
        absurd (let same = eq-eqb g g refl in cc (leaves, same))
    other_entry call a quietly _ is = tt

    module _ (stamps : Stamps w) (told : Tells S c w.journal) where
      begun_entry : (x : Ended) (m : Laid) → OverBase S P t w None x (RoundBegins m)
          → Stamps (after_effect S w None (RoundBegins m)) → c.round.phase ≡ Rest → has_target S c.round ≡ true
          → IsNext S t c m → Behind S t.before c prev more (RoundBegins m)
          → LastLeads S (disks_by S w.log) (put S (RoundBegins m) c) → (e : Event)
          → entry_of S (RoundBegins m) ≡ Some e → AtNow None (RoundBegins m) e
      begun_entry x m o behind_stamps rest target next behind leads e is =
          let event : Begin (generation_of S m) ≡ e = cc is in
          let new = new_begun S P t w None x (RoundBegins m) o stamps behind_stamps m next told leads.of_book in
          let same : new.block ≡ m =
          new_block S P t w None x (RoundBegins m) o stamps behind_stamps m next told leads.of_book in
          subst (AtNow None (RoundBegins m)) event (record {
            begun = new;
            counts = λ v n counted. subst (CountsRead S w.log v n w.calls) (sym same)
                (counts_new x m o rest target next behind v n counted);
          })

      quiet_entry : (x : Ended) (a : Change) → Comes S t c a → OverBase S P t w None x a
          → Stamps (after_effect S w None a) → Behind S t.before c prev more a
          → LastLeads S (disks_by S w.log) (put S a c) → (e : Event) → entry_of S a ≡ Some e → AtNow None a e
      quiet_entry x _ (begins m alive rest target next) o behind_stamps behind leads =
          begun_entry x m o behind_stamps rest target next behind leads
      quiet_entry x a (begins_spare d m alive rest target may same unlisted room) o bs b l = other_entry None a tt
      quiet_entry x a (ends m step going) o bs b l = other_entry None a tt
      quiet_entry x a (ends_spare d m step going) o bs b l = other_entry None a tt
      quiet_entry x a (lapses aim m step late going) o bs b l = other_entry None a tt
      quiet_entry x a (unblocks d rest blocked ended unexpected) o bs b l = other_entry None a tt
      quiet_entry x a (readies u started at rest ended) o bs b l = other_entry None a tt
      quiet_entry x a (pends u sound at submitted) o bs b l = other_entry None a tt
      quiet_entry x a (activates u runs at rest ended dirty) o bs b l = other_entry None a tt
      quiet_entry x a (again u sound at submitted) o bs b l = other_entry None a tt
      quiet_entry x a (idles u who runs at nobody) o bs b l = other_entry None a tt
      quiet_entry x a (cleans u runs at rest) o bs b l = other_entry None a tt
      quiet_entry x a (client k new word move) o bs b l = other_entry None a tt
      quiet_entry x a (pass u slots to word move) o bs b l = other_entry None a tt
      quiet_entry x a (manages new word move) o bs b l = other_entry None a tt
      quiet_entry x a (fails d who may) o bs b l = other_entry None a tt
      quiet_entry x a (kills who awake) o bs b l = other_entry None a tt
      quiet_entry x a (takes_over who dead) o bs b l = other_entry None a tt
      quiet_entry x a (resumes d taking young) o bs b l = other_entry None a tt
      quiet_entry x a (dies taking) o bs b l = other_entry None a tt

      read_none : (d : ℕ) (left : List ℕ) (seen : List Sector) (found : List ℕ) (all : Bool)
          → BeginsNone (after_read S c d left seen found all)
      read_none d left seen found true = tt
      read_none d left seen found false = tt

      rows_none : (d : ℕ) (what : What) (x : Ended) (a : Change) → AtRows S c d what x a → BeginsNone a
      rows_none d _ x _ (by_client k i r need _ _ call) = tt
      rows_none d _ x _ (by_pass u p need _ _ call) = tt
      rows_none d _ x _ (by_monitor left seen found _ reading) =
          read_none d left (seen ++ x.got ∷ []) found (has_all S (seen ++ x.got ∷ []))

      new_entry : (call : Option Call) (x : Ended) (a : Change) → Effect S t c call x a → OverBase S P t w call x a
          → Stamps (after_effect S w call a) → Behind S t.before c prev more a
          → LastLeads S (disks_by S (log_after w.log call)) (put S a c) → (e : Event) → entry_of S a ≡ Some e
          → AtNow call a e
      new_entry _ _ _ (quiet x a comes) o bs b l = quiet_entry x a comes o bs b l
      new_entry call _ _ (row d what x a may calls went at) o bs b l = other_entry call a (rows_none d what x a at)
      new_entry call _ a (row_fails d what x may calls failed lost) o bs b l = other_entry call a tt
      new_entry call _ a (steps d m step x target went) o bs b l = other_entry call a tt
      new_entry call _ a (step_fails d m step x target failed) o bs b l = other_entry call a tt

  -- ROUNDS THAT BEGAN BEFORE

  module _ (call : Option Call) (x : Ended) (a : Change) (o : OverBase S P t w call x a) (stamps : Stamps w)
      (behind_stamps : Stamps (after_effect S w call a)) where
    abbrev log : List Call
    log = log_after w.log call

    old_counted : (front : List Entry) (stamp g : ℕ) → HasCounted S (disks_by S w.log) c w.log front stamp g
        → HasCounted S (disks_by S log) (put S a c) log front stamp g
    old_counted front stamp g b =
        let before = b.begun.inside in
        let counts = stamps.calls in
        let on = later w.calls call in
        let count = behind_stamps.calls in
        let inside : stamp ≤ length log = omega (arith, before, counts, on, count) in
        let new = old_begun S P t w call x a o front stamp g b.begun inside in
        let same : new.block ≡ b.begun.block = old_block S P t w call x a o front stamp g b.begun inside in
        record {
          begun = new;
          counts = λ v n counted. subst (CountsRead S log v n stamp) (sym same)
              (calls_on (λ j y. n ≤ j → j < stamp → (k : ℕ) → ReadsRow S.start b.begun.block v k y
              → IsElsewhere S.start S.asked.ops b.begun.block v k → IsSome (S.start.words.pass b.begun.block v)
              → checkpoint_unit k ≤ S.start.words.unit b.begun.block v)
              (λ j y. n ≤ j → j < stamp → (k : ℕ) → ReadsRow S.start b.begun.block v k y
              → IsElsewhere S.start S.asked.ops b.begun.block v k → IsSome (S.start.words.pass b.begun.block v)
              → checkpoint_unit k ≤ S.start.words.unit b.begun.block v)
              w.log call (λ j y h. h) (λ y is le less k. absurd (omega (arith, less, before))) (b.counts v n counted));
        }

    old_entry : (front : List Entry) (stamp : ℕ) (e : Event)
        → HasCountedAt S (disks_by S w.log) c w.log front stamp e
        → HasCountedAt S (disks_by S log) (put S a c) log front stamp e
    old_entry front stamp (Begin g) b = old_counted front stamp g b
    old_entry front stamp _ b = tt

    -- of each entry of the journal
    pub counted_effect : Effect S t c call x a → Behind S t.before c prev more a → NoneCount prev w.journal
        → AreSeated S t.before → ((v n : ℕ) → pass_from v None w.journal ≡ Some n → IsSince S c w.log v n)
        → Tells S c w.journal → LastLeads S (disks_by S log) (put S a c)
        → AtEach (λ f e. HasCountedAt S (disks_by S w.log) c w.log f e.stamp e.event) w.journal
        → AtEach (λ f e. HasCountedAt S (disks_by S log) (put S a c) log f e.stamp e.event)
        (w.journal ++ entered (calls_after w.calls call) (entry_of S a))
    counted_effect effect behind none seated since told leads had =
        at_each_more (λ f e. HasCountedAt S (disks_by S log) (put S a c) log f e.stamp e.event) w.journal
        (entered (calls_after w.calls call) (entry_of S a))
        (at_each_map (λ f e. HasCountedAt S (disks_by S w.log) c w.log f e.stamp e.event)
        (λ f e. HasCountedAt S (disks_by S log) (put S a c) log f e.stamp e.event)
        (λ f e was. old_entry f e.stamp e.event was) [] w.journal had)
        (at_entered (λ f e. HasCountedAt S (disks_by S log) (put S a c) log f e.stamp e.event) w.journal
        (calls_after w.calls call) (entry_of S a)
        (new_entry none seated since stamps told call x a effect o behind_stamps behind leads))

-- THE LAW

module _ (S : Setting) where
  begin_counts : (log : List Call) (c : Control) (front : List Entry) (stamp g : ℕ)
      → HasCounted S (disks_by S log) c log front stamp g
      → BeginCounts S.start S.asked.ops log front stamp (Begin g)
  begin_counts calls c front stamp g b v n m counted round =
      let there = round_known S.start calls stamp g m round in
      let same = b.begun.only round.disk m there round.container round.generation in
      subst (CountsRead S calls v n stamp) (sym same) (b.counts v n counted)

  entry_counts : (log : List Call) (c : Control) (front : List Entry) (stamp : ℕ) (e : Event)
      → HasCountedAt S (disks_by S log) c log front stamp e → BeginCounts S.start S.asked.ops log front stamp e
  entry_counts calls c front stamp (Begin g) b = begin_counts calls c front stamp g b
  entry_counts calls c front stamp _ b = tt

  pub begins_count : (log : List Call) (c : Control) (journal : List Entry)
      → AtEach (λ f e. HasCountedAt S (disks_by S log) c log f e.stamp e.event) journal
      → AtEach (λ f e. BeginCounts S.start S.asked.ops log f e.stamp e.event) journal
  begins_count log c journal had =
      at_each_map (λ f e. HasCountedAt S (disks_by S log) c log f e.stamp e.event)
      (λ f e. BeginCounts S.start S.asked.ops log f e.stamp e.event)
      (λ f e was. entry_counts log c f e.stamp e.event was) [] journal had
