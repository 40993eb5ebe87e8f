-- Volumes are seated by the last finished round's block, but for the moves that follow the end of a round in its turn.
use Rattle.std.proofs.Common.{◌≡◌, ℕ, zero, suc, ◌+◌, ◌&&◌, ◌||◌, Bool, true, false, cond, List, [], ◌∷◌, ◌++◌, length, refl, sym, ◌∙◌, subst, Option, Some, ◌⊎◌, inl, inr, slice_set}
use Rattle.std.specs.Prelude.{⊤}
use Rattle.std.specs.List.{AllZip}
use Rattle.units.specs.declared.disk.Sector.{Sector}
use Rattle.device_log.specs.Log.{Call, What}
use Rattle.array_model.specs.Blocks.{Laid}
use Rattle.array_model.specs.Candidates.{Disk}
use Rattle.array_machine.specs.Setting.{Setting}
use Rattle.array_machine.specs.States.{StateWord, ToReady, ToPending, ToActive, ToActiveAgain, ToIdle, ToClean, state_after}
use Rattle.array_machine.specs.Volumes.{Slot, Pass, Volume, volume_at, has_disk}
use Rattle.array_machine.specs.Rounds.{Ended, Step, OfRound, Going, Round}
use Rattle.array_machine.specs.Faults.{round_without, breaks, volume_lost, volumes_without}
use Rattle.array_machine.specs.Control.{Control}
use Rattle.array_machine.specs.Changes.{Change, StepsOn, RoundBegins, SpareBegins, RoundEnds, SpareEnds, RoundLapses, DiskFails, DiskUnblocks, StateGoes, ClientMoves, PassMoves, ManagerMoves, MonitorKilled, TakeoverStarts, TakeoverReads, MonitorResumes, MonitorDies, PassWord, GoesOnQuietly}
use Rattle.array_machine.specs.Puts.{put, puts}
use Rattle.array_machine.specs.RoundEnds.{PassRun, all_runs, volumes_ended, seated}
use Rattle.array_machine.specs.Machine.{Action, turn}
use Rattle.array_machine.specs.TakeoverTurns.{has_all}
use Rattle.array_paths.specs.InTurn.{InTurn}
use Rattle.array_paths.specs.PassMove.{slots_of, pass_after, PassMove, opens, seats, reaches, closes, comes_to_its_end, loses}
use Rattle.array_paths.specs.Comes.{Comes, begins, begins_spare, ends, ends_spare, lapses, fails, unblocks, readies, pends, activates, again, idles, cleans, client, pass, manages, kills, takes_over, resumes, dies}
use Rattle.array_paths.specs.AtRows.{AtRows, by_client, by_pass, by_monitor, after_read}
use Rattle.array_paths.specs.Effects.{Effect, quiet, row, row_fails, steps, step_fails}
use Rattle.array_paths.specs.EndsLast.{EndsLast}
use Rattle.array_paths.specs.Ready.{Ready}
use Rattle.array_paths.proofs.EndsLast.{turn_ends_last}
use Rattle.array_base.specs.Premises.{Premises}
use Rattle.array_base.specs.Base.{ledger, Between}
use Rattle.array_base.proofs.Slots.{volume_set}
use Rattle.array_failures.specs.Members.{StaysInSlot, LastLeads}
use Rattle.array_failures.specs.Recorded.{HasSeat, IsSeated, AreSeated}
use Rattle.array_failures.proofs.Current.{round_goes}
use Rattle.array_failures.proofs.Seats.{zip_length, seated_all, synced_all, end_seats}

-- all but the end of a round
abbrev pub EndsNone : Change → Type 0
EndsNone (RoundEnds m) = ⊥
EndsNone _ = ⊤

module _ (S : Setting) where
  -- ONE VOLUME IS SET

  seats_set : (c : Control) (last : Laid) (v : ℕ) (x : Volume) → IsSeated S last v x
      → ((w : ℕ) → IsSeated S last w (volume_at c.volumes w)) → (w : ℕ)
      → IsSeated S last w (volume_at (slice_set c.volumes v x) w)
  seats_set c last v x now old w = elim (volume_set c.volumes v x w) [
    | inl here ↦ subst (IsSeated S last w) (sym here.1) (subst (λ k. IsSeated S last k x) here.0 now)
    | inr other ↦ subst (IsSeated S last w) (sym other) (old w)
  ]

  -- a disk's failure leaves slots
  seats_without : (last : Laid) (d : ℕ) (r : Round) (n : ℕ) (xs : List Volume) (w u : ℕ)
      → IsSeated S last u (volume_at xs w) → IsSeated S last u (volume_at (volumes_without S d r n xs) w)
  seats_without last d r n [] w u seated = seated
  seats_without last d r n (x ∷ xs) zero u seated = at (x.started && has_disk d x.slots)
    where
      at : (b : Bool)
          → IsSeated S last u (cond b (volume_lost S d n (x.broken || breaks S r n x.slots) x) x)
      at true = seated
      at false = seated
  seats_without last d r n (x ∷ xs) (suc w) u seated = seats_without last d r (n + 1) xs w u seated

  -- CHANGES

  module _ (c : Control) (seated : AreSeated S c) where
    seats_state : (v : ℕ) (word : StateWord) → AreSeated S (put S (StateGoes v word) c)
    seats_state v word =
        seats_set c c.round.last v (record (volume_at c.volumes v) { state = state_after word }) (seated v) seated

    seats_pass : (v : ℕ) (slots : List Slot) (new : Option Pass) (word : PassWord)
        → ((volume_at c.volumes v).started ≡ true → AllZip (HasSeat S) (S.start.words.slots c.round.last v) slots)
        → AreSeated S (put S (PassMoves v slots new word) c)
    seats_pass v slots new word now =
        seats_set c c.round.last v (record (volume_at c.volumes v) { slots = slots; pass = new }) now seated

    seats_fault : (d : ℕ) → AreSeated S (put S (DiskFails d) c)
    seats_fault d v = seats_without c.round.last d (round_without S d c.round) 0 c.volumes v v (seated v)

    pass_seats : (t : InTurn) (v : ℕ) (slots : List Slot) (new : Option Pass) (word : PassWord)
        → PassMove S t c v slots new word → (volume_at c.volumes v).started ≡ true
        → AllZip (HasSeat S) (S.start.words.slots c.round.last v) slots
    pass_seats t v _ _ _ (opens kind started was is has) s = seated v s
    pass_seats t v _ _ _ (seats now started other) s =
        seated_all S (S.start.words.slots c.round.last v) (slots_of c v)
        (zip_length (HasSeat S) (S.start.words.slots c.round.last v) (slots_of c v) (seated v s))
    pass_seats t v _ _ _ (reaches was is now started before after above) s = seated v s
    pass_seats t v _ _ _ (closes was now started before after) s =
        synced_all S c.round.faults (S.start.words.slots c.round.last v) (slots_of c v) (seated v s)
    pass_seats t v _ _ _ (comes_to_its_end p goes over) s = seated v s
    pass_seats t v _ _ _ (loses d p need what stored call is) s = seated v s

    seats_comes : (t : InTurn) (a : Change) → EndsNone a → Comes S t c a → AreSeated S (put S a c)
    seats_comes t _ none (ends m step is) = absurd none
    seats_comes t _ none (fails d who may) = seats_fault d
    seats_comes t _ none (readies v started state rest ended) = seats_state v ToReady
    seats_comes t _ none (pends v sound state submitted) = seats_state v ToPending
    seats_comes t _ none (activates v runs state rest ended dirty) = seats_state v ToActive
    seats_comes t _ none (again v sound state submitted) = seats_state v ToActiveAgain
    seats_comes t _ none (idles v who runs state still) = seats_state v ToIdle
    seats_comes t _ none (cleans v runs state rest) = seats_state v ToClean
    seats_comes t _ none (pass v slots new word move) =
        seats_pass v slots new word (pass_seats t v slots new word move)
    seats_comes t _ none (begins m life rest target next) = seated
    seats_comes t _ none (begins_spare d m life rest target may is unlisted room) = seated
    seats_comes t _ none (ends_spare d m step is) = seated
    seats_comes t _ none (lapses aim m step late is) = seated
    seats_comes t _ none (unblocks d rest blocked ended unexpected) = seated
    seats_comes t _ none (client k new word move) = seated
    seats_comes t _ none (manages new word move) = seated
    seats_comes t _ none (kills who awake) = seated
    seats_comes t _ none (takes_over who life) = seated
    seats_comes t _ none (resumes d taking young) = seated
    seats_comes t _ none (dies taking) = seated

    seats_read : (d : ℕ) (left : List ℕ) (seen : List Sector) (found : List ℕ) (all : Bool)
        → AreSeated S (put S (after_read S c d left seen found all) c)
    seats_read d left seen found true = seated
    seats_read d left seen found false = seated

    seats_rows : (d : ℕ) (what : What) (x : Ended) (a : Change) → AtRows S c d what x a → AreSeated S (put S a c)
    seats_rows d _ x _ (by_client k i r need _ _ call) = seated
    seats_rows d _ x _ (by_pass v p need _ _ call) =
        seats_pass v (slots_of c v) (Some (pass_after S c v p need x)) GoesOnQuietly (seated v)
    seats_rows d _ x _ (by_monitor left seen found _ life) =
        seats_read d left (seen ++ x.got ∷ []) found (has_all S (seen ++ x.got ∷ []))

    seats_change : (t : InTurn) {call : Option Call} {x : Ended} {a : Change} → EndsNone a → Effect S t c call x a
        → AreSeated S (put S a c)
    seats_change t none (quiet x a comes) = seats_comes t a none comes
    seats_change t none (row d what x a may calls went at) = seats_rows d what x a at
    seats_change t none (row_fails d what x may calls failed lost) = seats_fault d
    seats_change t none (steps d m step x target went) = seated
    seats_change t none (step_fails d m step x target failed) = seats_fault d

  -- THE REST OF A TURN

  -- changes that move passes alone
  pub record AreMoves (changes : List Change) : Type 0 where
    pub runs : List PassRun
    pub are : changes ≡ all_runs runs

  -- What a turn has still to do leaves the end of a round to come last. Volumes are seated, or only the moves are left
  -- that seat them.
  pub record SeatsIn (c : Control) (more : List Change) : Type 0 where
    pub last : EndsLast S c more
    pub seated : AreSeated S c ⊎ (AreMoves more × AreSeated S (puts S more c))

  moves_last : (c : Control) (rs : List PassRun) → EndsLast S c (all_runs rs)
  moves_last c [] = tt
  moves_last c (r ∷ rs) = moves_last (put S (PassMoves r.volume r.slots r.pass r.word) c) rs

  -- between turns they are seated
  pub seated_between : (c : Control) → SeatsIn c [] → AreSeated S c
  seated_between c k = elim k.seated [
    | inl seated ↦ seated
    | inr moves ↦ moves.1
  ]

  -- and where anything but a pass moves
  pub seated_unless : (c : Control) (a : Change) (more : List Change)
      → ((v : ℕ) (slots : List Slot) (new : Option Pass) (word : PassWord) → a ≡ PassMoves v slots new word → ⊥)
      → SeatsIn c (a ∷ more) → AreSeated S c
  seated_unless c a more other k = elim k.seated [
    | inl seated ↦ seated
    | inr moves ↦ absurd (none moves.0.runs moves.0.are)
  ]
    where
      none : (rs : List PassRun) → a ∷ more ≡ all_runs rs → ⊥
      none [] is = cc is
      none (r ∷ rs) is = other r.volume r.slots r.pass r.word (cc is)

  -- a turn begins
  pub seats_begin : (c : Control) (a : Action) → SeatsIn c [] → SeatsIn c (turn S c a).changes
  seats_begin c a k = record { last = turn_ends_last S c a; seated = inl (seated_between c k) }

  -- ONE EFFECT

  module _ (P : Premises S) (ks : ℕ → Disk) (c : Control) (b : Between S P ks (ledger c.round) c.round.phase)
      (ready : Ready S c) (leads : LastLeads S ks c) where
    -- the slots of a volume stay as many
    as_many : AreSeated S c → (m : Laid) → c.round.book ≡ m → (v : ℕ) → (volume_at c.volumes v).started ≡ true
        → length (S.start.words.slots m v) ≡ length (volume_at c.volumes v).slots
    as_many seated m book v started =
        let served = P.edits.served c.round.last v b.core.hand.last.form (ready.started v started) in
        let zip = subst (λ n. AllZip (StaysInSlot S c.round.faults c.round.last n) (S.start.words.slots c.round.last v)
        (S.start.words.slots n v)) book (leads.of_book.slots v served) in
        sym (zip_length (StaysInSlot S c.round.faults c.round.last m) (S.start.words.slots c.round.last v)
        (S.start.words.slots m v) zip)
        ∙ zip_length (HasSeat S) (S.start.words.slots c.round.last v) (volume_at c.volumes v).slots (seated v started)

    -- a round ends while volumes are seated, and its moves seat them
    seats_end : (m : Laid) (step : Step) (more : List Change) → c.round.phase ≡ Going OfRound m step [] [] true
        → AreSeated S c → more ≡ all_runs (volumes_ended S c.round.faults c.round.last m 0 c.volumes)
        → SeatsIn (put S (RoundEnds m) c) more
    seats_end m step more is seated same =
        let goes = round_goes S P c ks m step [] [] true is b in
        let rs = volumes_ended S c.round.faults c.round.last m 0 c.volumes in
        record {
          last = subst (EndsLast S (put S (RoundEnds m) c)) (sym same) (moves_last (put S (RoundEnds m) c) rs);
          seated = inr (
            record { runs = rs; are = same },
            subst (λ cs. AreSeated S (puts S cs (put S (RoundEnds m) c))) (sym same)
                (end_seats S c m (as_many seated m goes.book)),
          );
        }

  -- WHICH CHANGE ENDS A ROUND

  -- the change ends the round that goes on
  pub record EndsRound (c : Control) (a : Change) : Type 0 where
    pub block : Laid
    pub step : Step
    pub is : a ≡ RoundEnds block
    pub phase : c.round.phase ≡ Going OfRound block step [] [] true

  comes_ends : (t : InTurn) (c : Control) (a : Change) → Comes S t c a → EndsRound c a ⊎ EndsNone a
  comes_ends t c _ (ends m step is) = inl (record { block = m; step = step; is = refl; phase = is })
  comes_ends t c _ (fails d who may) = inr tt
  comes_ends t c _ (readies v started state rest ended) = inr tt
  comes_ends t c _ (pends v sound state submitted) = inr tt
  comes_ends t c _ (activates v runs state rest ended dirty) = inr tt
  comes_ends t c _ (again v sound state submitted) = inr tt
  comes_ends t c _ (idles v who runs state still) = inr tt
  comes_ends t c _ (cleans v runs state rest) = inr tt
  comes_ends t c _ (pass v slots new word move) = inr tt
  comes_ends t c _ (begins m life rest target next) = inr tt
  comes_ends t c _ (begins_spare d m life rest target may is unlisted room) = inr tt
  comes_ends t c _ (ends_spare d m step is) = inr tt
  comes_ends t c _ (lapses aim m step late is) = inr tt
  comes_ends t c _ (unblocks d rest blocked ended unexpected) = inr tt
  comes_ends t c _ (client k new word move) = inr tt
  comes_ends t c _ (manages new word move) = inr tt
  comes_ends t c _ (kills who awake) = inr tt
  comes_ends t c _ (takes_over who life) = inr tt
  comes_ends t c _ (resumes d taking young) = inr tt
  comes_ends t c _ (dies taking) = inr tt

  read_ends_none : (c : Control) (d : ℕ) (left : List ℕ) (seen : List Sector) (found : List ℕ) (all : Bool)
      → EndsNone (after_read S c d left seen found all)
  read_ends_none c d left seen found true = tt
  read_ends_none c d left seen found false = tt

  rows_end_none : (c : Control) (d : ℕ) (what : What) (x : Ended) (a : Change) → AtRows S c d what x a → EndsNone a
  rows_end_none c d _ x _ (by_client k i r need _ _ call) = tt
  rows_end_none c d _ x _ (by_pass v p need _ _ call) = tt
  rows_end_none c d _ x _ (by_monitor left seen found _ life) =
      read_ends_none c d left (seen ++ x.got ∷ []) found (has_all S (seen ++ x.got ∷ []))

  -- an effect does, or it leaves the last finished round
  pub effect_ends : (t : InTurn) (c : Control) {call : Option Call} {x : Ended} {a : Change} → Effect S t c call x a
      → EndsRound c a ⊎ EndsNone a
  effect_ends t c (quiet x a comes) = comes_ends t c a comes
  effect_ends t c (row d what x a may calls went at) = inr (rows_end_none c d what x a at)
  effect_ends t c (row_fails d what x may calls failed lost) = inr tt
  effect_ends t c (steps d m step x target went) = inr tt
  effect_ends t c (step_fails d m step x target failed) = inr tt

  -- behind any other change the rest of the turn stands as before
  last_more : (c : Control) (a : Change) (more : List Change) → EndsNone a → EndsLast S c (a ∷ more)
      → EndsLast S (put S a c) more
  last_more c (RoundEnds m) more none last = absurd none
  last_more c StepsOn more none last = last
  last_more c (RoundBegins m) more none last = last
  last_more c (SpareBegins d m) more none last = last
  last_more c (SpareEnds d) more none last = last
  last_more c RoundLapses more none last = last
  last_more c (DiskFails d) more none last = last
  last_more c (DiskUnblocks d) more none last = last
  last_more c (StateGoes v word) more none last = last
  last_more c (ClientMoves k new word) more none last = last
  last_more c (PassMoves v slots new word) more none last = last
  last_more c (ManagerMoves new word) more none last = last
  last_more c MonitorKilled more none last = last
  last_more c (TakeoverStarts left) more none last = last
  last_more c (TakeoverReads left seen found) more none last = last
  last_more c (MonitorResumes d) more none last = last
  last_more c MonitorDies more none last = last

  module _ (P : Premises S) (ks : ℕ → Disk) (c : Control) (b : Between S P ks (ledger c.round) c.round.phase)
      (ready : Ready S c) (leads : LastLeads S ks c) where
    -- one effect of a turn
    pub seats_step : (t : InTurn) {call : Option Call} {x : Ended} {a : Change} (more : List Change)
        → Effect S t c call x a → SeatsIn c (a ∷ more) → SeatsIn (put S a c) more
    seats_step t {a = a} more effect k = elim (effect_ends t c effect) [
      | inl e ↦
          let here : SeatsIn c (RoundEnds e.block ∷ more) = subst (λ z. SeatsIn c (z ∷ more)) e.is k in
          let seated = seated_unless c (RoundEnds e.block) more (λ v slots new word is. cc is) here in
          subst (λ z. SeatsIn (put S z c) more) (sym e.is)
          (seats_end P ks c b ready leads e.block e.step more e.phase seated here.last)
      | inr none ↦ record {
        last = last_more c a more none k.last;
        seated = elim k.seated [
          | inl seated ↦ inl (seats_change c seated t none effect)
          | inr moves ↦ inr (rest moves.0.runs moves.0.are, moves.1)
        ];
      }
    ]
      where
        rest : (rs : List PassRun) → a ∷ more ≡ all_runs rs → AreMoves more
        rest [] is = absurd (cc is)
        rest (r ∷ rs) is = record { runs = rs; are = cc is }
