-- A volume is broken only where a member of it failed: through each effect.
use Rattle.std.proofs.Common.{◌≡◌, ℕ, zero, suc, ◌+◌, ◌≤◌, ◌||◌, ◌&&◌, Bool, true, false, cond, List, [], ◌∷◌, ◌++◌, length, take, refl, ap, sym, ◌∙◌, subst, arith, Option, Some, None, ◌⊎◌, inl, inr, eqb-true, length-append}
use Rattle.std.specs.Prelude.{⊤}
use Rattle.std.proofs.lemmas.Bool.{and_parts}
use Rattle.std.proofs.lemmas.List.{append-nil, append_assoc, take-append-le, take_all}
use Rattle.units.specs.declared.disk.Sector.{Sector}
use Rattle.device_log.specs.Log.{Call, What}
use Rattle.array_model.specs.declared.journal.Entry.{Entry}
use Rattle.array_model.specs.declared.journal.Event.{Event}
use Rattle.array_model.specs.declared.journal.Event.TheVariants.{Fault}
use Rattle.array_model.specs.Moments.{AllBelow, NoneBelow}
use Rattle.array_model.specs.Rounds.{IsFinished}
use Rattle.array_model.proofs.Journals.{all-append}
use Rattle.array_machine.specs.Setting.{Setting}
use Rattle.array_machine.specs.Numbers.{has}
use Rattle.array_machine.specs.States.{state_after}
use Rattle.array_machine.specs.Volumes.{Slot, disk_in, same_disk, has_disk, Volume, volume_at}
use Rattle.array_machine.specs.Rounds.{Ended, Round}
use Rattle.array_machine.specs.Faults.{round_without, breaks, volume_lost, volumes_without}
use Rattle.array_machine.specs.Control.{Control}
use Rattle.array_machine.specs.Changes.{Change, StepsOn, RoundBegins, SpareBegins, RoundEnds, SpareEnds, RoundLapses, DiskFails, DiskUnblocks, StateGoes, ClientMoves, PassMoves, ManagerMoves, MonitorKilled, TakeoverStarts, TakeoverReads, MonitorResumes, MonitorDies}
use Rattle.array_machine.specs.Puts.{put}
use Rattle.array_machine.specs.Machine.{log_after, entered}
use Rattle.array_machine.specs.TakeoverTurns.{has_all}
use Rattle.array_paths.specs.InTurn.{InTurn, is_broken}
use Rattle.array_paths.specs.PassMove.{slots_of}
use Rattle.array_paths.specs.Comes.{Comes, begins, begins_spare, ends, ends_spare, lapses, fails, unblocks, readies, pends, activates, again, idles, cleans, client, pass, manages, kills, takes_over, resumes, dies}
use Rattle.array_paths.specs.AtRows.{AtRows, by_client, by_pass, by_monitor, after_read}
use Rattle.array_paths.specs.Effects.{Effect, quiet, row, row_fails, steps, step_fails}
use Rattle.array_base.proofs.Targets.{or_cases}
use Rattle.array_told.proofs.Tells.{set_at}
use Rattle.array_answers.specs.Slots.{words_at, AllSlotsHold}
use Rattle.array_answers.specs.Failed.{HasLostMember}
use Rattle.array_answers.proofs.Moved.{backed_at}

-- SLOTS

-- the slot that has a disk
slot_with : (d : ℕ) (xs : List Slot) → has_disk d xs ≡ true → (s : ℕ) × (disk_in xs s ≡ Some d)
slot_with d [] is = absurd (cc is)
slot_with d (x ∷ xs) is = elim (or_cases (same_disk (Some d) x.disk) (has_disk d xs) is) [
  | inl here ↦ (0, own x.disk here)
  | inr there ↦ let more = slot_with d xs there in (suc more.0, more.1)
]
  where
    own : (disk : Option ℕ) → same_disk (Some d) disk ≡ true → disk ≡ Some d
    own None is = absurd (cc is)
    own (Some e) is = let same : d ≡ e = eqb-true d e is in ap Some (sym same)

-- WHAT BREAKS

module _ (S : Setting) where
  -- a failure breaks volumes that have the disk
  pub record BreaksBy (d : ℕ) (x : Volume) : Type 0 where
    pub started : x.started ≡ true
    pub has : has_disk d x.slots ≡ true

  lost_breaks : (d : ℕ) (r : Round) (n : ℕ) (xs : List Volume) (v : ℕ)
      → (volume_at (volumes_without S d r n xs) v).broken ≡ true
      → ((volume_at xs v).broken ≡ true) ⊎ BreaksBy d (volume_at xs v)
  lost_breaks d r n [] v is = inl is
  lost_breaks d r n (x ∷ xs) (suc v) is = lost_breaks d r (n + 1) xs v is
  lost_breaks d r n (x ∷ xs) zero is = at (x.started && has_disk d x.slots) refl is
    where
      at : (b : Bool) → (x.started && has_disk d x.slots) ≡ b
          → (cond b (volume_lost S d n (x.broken || breaks S r n x.slots) x) x).broken ≡ true
          → (x.broken ≡ true) ⊎ BreaksBy d x
      at false by is = inl is
      at true by is =
          let both = and_parts x.started (has_disk d x.slots) by in inr (record { started = both.0; has = both.1 })

  module _ (c : Control) where
    -- the change broke the volume
    pub data BrokeBy (v : ℕ) : Change → Type 0 where
      by_fault : (d : ℕ) → BreaksBy d (volume_at c.volumes v) → BrokeBy v (DiskFails d)

    kept_volume : (w : ℕ) (y : Volume) (v : ℕ) → y.broken ≡ (volume_at c.volumes w).broken → (xs : List Volume)
        → ((w ≡ v) × (volume_at xs v ≡ y)) ⊎ (volume_at xs v ≡ volume_at c.volumes v)
        → (volume_at xs v).broken ≡ true → is_broken c v ≡ true
    kept_volume w y v is_same xs (inl here) is =
        subst (λ u. is_broken c u ≡ true) here.0 (sym is_same ∙ sym (ap (λ (x : Volume). x.broken) here.1) ∙ is)
    kept_volume w y v is_same xs (inr other) is = sym (ap (λ (x : Volume). x.broken) other) ∙ is

    pub broke : (a : Change) (v : ℕ) → is_broken (put S a c) v ≡ true → (is_broken c v ≡ true) ⊎ BrokeBy v a
    broke (DiskFails d) v is = elim (lost_breaks d (round_without S d c.round) 0 c.volumes v is) [
      | inl before ↦ inl before
      | inr by ↦ inr (by_fault d by)
    ]
    broke (StateGoes w word) v is =
        let y = record (volume_at c.volumes w) { state = state_after word } in
        inl (kept_volume w y v refl _ (set_at c.volumes w y v) is)
    broke (PassMoves w slots new word) v is =
        let y = record (volume_at c.volumes w) { slots = slots; pass = new } in
        inl (kept_volume w y v refl _ (set_at c.volumes w y v) is)
    broke StepsOn v is = inl is
    broke (RoundBegins m) v is = inl is
    broke (SpareBegins d m) v is = inl is
    broke (RoundEnds m) v is = inl is
    broke (SpareEnds d) v is = inl is
    broke RoundLapses v is = inl is
    broke (DiskUnblocks d) v is = inl is
    broke (ClientMoves k new word) v is = inl is
    broke (ManagerMoves new word) v is = inl is
    broke MonitorKilled v is = inl is
    broke (TakeoverStarts left) v is = inl is
    broke (TakeoverReads left seen found) v is = inl is
    broke (MonitorResumes d) v is = inl is
    broke MonitorDies v is = inl is

    -- a disk that fails had no fault
    abbrev pub FailsSound : Change → Type 0
    FailsSound (DiskFails d) = has d c.round.faults ≡ false
    FailsSound _ = ⊤

    comes_sound : (t : InTurn) (a : Change) → Comes S t c a → FailsSound a
    comes_sound t _ (fails d who may) = may.sound
    comes_sound t _ (begins m life rest target next) = tt
    comes_sound t _ (begins_spare d m life rest target may is unlisted room) = tt
    comes_sound t _ (ends m step is) = tt
    comes_sound t _ (ends_spare d m step is) = tt
    comes_sound t _ (lapses aim m step late is) = tt
    comes_sound t _ (unblocks d rest blocked ended unexpected) = tt
    comes_sound t _ (readies v started state rest ended) = tt
    comes_sound t _ (pends v sound state submitted) = tt
    comes_sound t _ (activates v runs state rest ended dirty) = tt
    comes_sound t _ (again v sound state submitted) = tt
    comes_sound t _ (idles v who runs state none) = tt
    comes_sound t _ (cleans v runs state rest) = tt
    comes_sound t _ (client k new word move) = tt
    comes_sound t _ (pass v slots new word move) = tt
    comes_sound t _ (manages new word move) = tt
    comes_sound t _ (kills who awake) = tt
    comes_sound t _ (takes_over who life) = tt
    comes_sound t _ (resumes d taking young) = tt
    comes_sound t _ (dies taking) = tt

    read_sound : (d : ℕ) (left : List ℕ) (seen : List Sector) (found : List ℕ) (b : Bool)
        → FailsSound (after_read S c d left seen found b)
    read_sound d left seen found true = tt
    read_sound d left seen found false = tt

    rows_sound : (d : ℕ) (what : What) (x : Ended) (a : Change) → AtRows S c d what x a → FailsSound a
    rows_sound d _ x _ (by_client k i r need _ _ call) = tt
    rows_sound d _ x _ (by_pass v p need _ _ call) = tt
    rows_sound d _ x _ (by_monitor left seen found _ life) =
        read_sound d left (seen ++ x.got ∷ []) found (has_all S (seen ++ x.got ∷ []))

    pub effect_sound : (t : InTurn) {call : Option Call} {x : Ended} {a : Change} → Effect S t c call x a → FailsSound a
    effect_sound t (quiet x a comes) = comes_sound t a comes
    effect_sound t (row d what x a may calls went at) = rows_sound d what x a at
    effect_sound t (row_fails d what x may calls failed lost) = may.sound
    effect_sound t (steps d m step x target went) = tt
    effect_sound t (step_fails d m step x target failed) = target.may.sound

  -- IN THE JOURNAL

  entry_later : (calls n : ℕ) (e : Option Event) → calls ≤ n → NoneBelow calls (entered n e)
  entry_later calls n None le = tt
  entry_later calls n (Some e) le = (le, tt)

  -- it stays told
  pub lost_later : (log : List Call) (call : Option Call) (journal : List Entry) (n : ℕ) (e : Option Event) (v : ℕ)
      → length log ≤ n → HasLostMember S.start log journal v
      → HasLostMember S.start (log_after log call) (journal ++ entered n e) v
  lost_later log call journal n e v enough lost = record {
    calls = lost.calls;
    front = lost.front;
    stamp = lost.stamp;
    disk = lost.disk;
    rest = lost.rest ++ entered n e;
    moment = record {
      parts = ap (λ es. es ++ entered n e) lost.moment.parts ∙ append_assoc through lost.rest (entered n e);
      calls = inside call;
      none_above = lost.moment.none_above;
      all_below = all-append (λ (x : Entry). lost.calls ≤ x.stamp) lost.rest (entered n e) lost.moment.all_below
          (entry_later lost.calls n e (let le = lost.moment.calls in omega (arith, le, enough)));
    };
    block = lost.block;
    finished = subst (λ l. IsFinished S.start l through lost.block) (sym (same call)) lost.finished;
    slot = lost.slot;
    member = lost.member;
  }
    where
      through : List Entry
      through = lost.front ++ record { stamp = lost.stamp; event = Fault lost.disk } ∷ []

      inside : (call : Option Call) → lost.calls ≤ length (log_after log call)
      inside None = lost.moment.calls
      inside (Some x) =
          let le = lost.moment.calls in let long = length-append log (x ∷ []) in omega (arith, le, long)

      same : (call : Option Call) → take lost.calls (log_after log call) ≡ take lost.calls log
      same None = refl
      same (Some x) = take-append-le lost.calls log (x ∷ []) lost.moment.calls

  -- a fault of a member that is entered now
  pub lost_now : (log : List Call) (journal : List Entry) (n d v : ℕ) (c : Control) → n ≡ length log
      → AllBelow n (journal ++ entered n (Some (Fault (record { 0 = d }))))
      → IsFinished S.start log (journal ++ entered n (Some (Fault (record { 0 = d })))) c.round.last
      → has d c.round.faults ≡ false → AllSlotsHold S c → BreaksBy d (volume_at c.volumes v)
      → HasLostMember S.start log (journal ++ entered n (Some (Fault (record { 0 = d })))) v
  lost_now log journal n d v c count below finished sound hold by =
      let there = slot_with d (slots_of c v) by.has in
      let backed = backed_at S c.round.faults (words_at S c.round.last v) (slots_of c v) there.0 d
      (hold v by.started).of_last.has there.1 sound in
      let whole : take n log ≡ log = take_all n log (omega (arith, count)) in
      record {
        calls = n;
        front = journal;
        stamp = n;
        disk = record { 0 = d };
        rest = [];
        moment = record {
          parts = sym (append-nil (journal ++ entered n (Some (Fault (record { 0 = d })))));
          calls = omega (arith, count);
          none_above = below;
          all_below = tt;
        };
        block = c.round.last;
        finished =
            subst (λ l. IsFinished S.start l (journal ++ entered n (Some (Fault (record { 0 = d })))) c.round.last)
            (sym whole) finished;
        slot = there.0;
        member = record { words = backed.words; there = backed.there; same = backed.tells.serial };
      }
