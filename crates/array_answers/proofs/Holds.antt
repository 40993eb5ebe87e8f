-- Each effect keeps what blocks say of the slots that volumes have.
use Rattle.std.proofs.Common.{◌≡◌, ℕ, ◌≤◌, ◌==◌, Bool, true, false, List, [], ◌∷◌, ◌++◌, map, refl, sym, ◌∙◌, subst, arith, Option, Some, None, ◌⊎◌, inl, inr}
use Rattle.std.proofs.lemmas.Bool.Decides.{nat_tests}
use Rattle.units.specs.declared.disk.Sector.{Sector}
use Rattle.device_log.specs.Log.{Call, What}
use Rattle.array_model.specs.Blocks.{Laid}
use Rattle.array_machine.specs.Setting.{Setting}
use Rattle.array_machine.specs.Numbers.{has}
use Rattle.array_machine.specs.States.{StateWord, ToReady, ToPending, ToActive, ToActiveAgain, ToIdle, ToClean, state_after}
use Rattle.array_machine.specs.Volumes.{Slot, Pass, volume_at}
use Rattle.array_machine.specs.Rounds.{Ended, Step, AtExtended, AtAnchor, AtSync, OfRound, OfSpare, Phase, Rest, Going, Round, given_if, gives}
use Rattle.array_machine.specs.Control.{Control}
use Rattle.array_machine.specs.Changes.{Change, StepsOn, RoundBegins, SpareBegins, RoundEnds, SpareEnds, RoundLapses, DiskFails, DiskUnblocks, StateGoes, ClientMoves, PassMoves, ManagerMoves, MonitorKilled, TakeoverStarts, TakeoverReads, MonitorResumes, MonitorDies, PassWord, GoesOnQuietly}
use Rattle.array_machine.specs.Faults.{round_without}
use Rattle.array_machine.specs.Puts.{put_round, put}
use Rattle.array_machine.specs.RoundEnds.{all_in_sync, seated}
use Rattle.array_machine.specs.TakeoverTurns.{has_all}
use Rattle.array_paths.specs.InTurn.{InTurn}
use Rattle.array_paths.specs.PassMove.{slots_of, pass_after, EndsNow, PassMove, opens, seats, reaches, closes, comes_to_its_end, loses}
use Rattle.array_paths.specs.MayEdit.{IsNext}
use Rattle.array_paths.specs.Comes.{Comes, begins, begins_spare, ends, ends_spare, lapses, fails, unblocks, readies, pends, activates, again, idles, cleans, client, pass, manages, kills, takes_over, resumes, dies}
use Rattle.array_paths.specs.AtRows.{AtRows, by_client, by_pass, by_monitor, after_read}
use Rattle.array_paths.specs.Effects.{Effect, quiet, row, row_fails, steps, step_fails}
use Rattle.array_paths.specs.Ready.{Ready}
use Rattle.array_base.specs.Premises.{generation_of, MayBeBook, Premises}
use Rattle.array_base.specs.Base.{ledger, disks_by, RoundGoes, Goes, Base}
use Rattle.array_base.proofs.Slots.{volumes_go}
use Rattle.array_base.proofs.Targets.{or_neither}
use Rattle.array_answers.specs.Slots.{slot_said, words_at, Backs, AreFilled, IsAhead, SlotsHold, AllSlotsHold, SlotsInTurn}
use Rattle.array_answers.proofs.NewBlock.{next_ahead}
use Rattle.array_answers.proofs.Moved.{each_state, each_pass, each_lost, filled_more, hold_more, said_backed, seated_backed, seated_counted, synced_backed}

-- THE ROUND

-- faults grow, and the last finished round's block changes only where a round finished
record RoundGrows (r q : Round) : Type 0 where
  faults : (d : ℕ) → has d q.faults ≡ false → has d r.faults ≡ false
  ended : ((q.last ≡ r.last) × (q.first ≡ r.first)) ⊎ (q.first ≡ false)

module _ (S : Setting) where
  stays : (r q : Round) → q.faults ≡ r.faults → q.last ≡ r.last → q.first ≡ r.first → RoundGrows r q
  stays r q faults last first = record {
    faults = λ d sound. subst (λ fs. has d fs ≡ false) faults sound;
    ended = inl (last, first);
  }

  grows : (a : Change) (r : Round) → RoundGrows r (put_round S a r)
  grows (DiskFails d) r = record {
    faults = λ e sound. (or_neither (d == e) (has e r.faults) sound).1;
    ended = inl (refl, refl);
  }
  grows (RoundEnds m) r = record { faults = λ d sound. sound; ended = inr refl }
  grows StepsOn r = stays r _ refl refl refl
  grows (RoundBegins m) r = stays r _ refl refl refl
  grows (SpareBegins d m) r = stays r _ refl refl refl
  grows (SpareEnds d) r = stays r _ refl refl refl
  grows RoundLapses r = stays r _ refl refl refl
  grows (DiskUnblocks d) r = stays r _ refl refl refl
  grows (StateGoes v word) r = stays r _ refl refl refl
  grows (ClientMoves k new word) r = stays r _ refl refl refl
  grows (PassMoves v slots new word) r = stays r _ refl refl refl
  grows (ManagerMoves new word) r = stays r _ refl refl refl
  grows MonitorKilled r = stays r _ refl refl refl
  grows (TakeoverStarts left) r = stays r _ refl refl refl
  grows (TakeoverReads left seen found) r = stays r _ refl refl refl
  grows (MonitorResumes d) r = stays r _ refl refl refl
  grows MonitorDies r = stays r _ refl refl refl

  -- where a round goes on its block is the book
  abbrev pub GoesByBook : Control → Type 0
  GoesByBook c =
      (m : Laid) (step : Step) (left late : List ℕ) (done : Bool) → c.round.phase ≡ Going OfRound m step left late done
      → c.round.book ≡ m

module _ (S : Setting) (P : Premises S) (log : List Call) (c : Control) (base : Base S P log c) where
  round_goes : (m : Laid) (step : Step) (left late : List ℕ) (done : Bool)
      → c.round.phase ≡ Going OfRound m step left late done
      → RoundGoes S (disks_by S log) (ledger c.round) m left late done
  round_goes m step left late done is = subst (Goes S (disks_by S log) (ledger c.round)) is base.goes

  pub goes_by_book : GoesByBook S c
  goes_by_book m step left late done is = (round_goes m step left late done is).book

  module _ (t : InTurn) (ready : Ready S c) (had : SlotsInTurn S t c) where
    -- what holds of a volume's slots by this round
    abbrev HoldBy : Round → ℕ → List Slot → Type 0
    HoldBy r = SlotsHold S r.first r.faults r.last r.book r.given

    -- A ROUND

    begins_hold : (m : Laid) → IsNext S t c m → AllSlotsHold S (put S (RoundBegins m) c)
    begins_hold m next v is =
        let h = had.now v is in
        record {
          of_book = next_ahead S P c t m next base.core.hand.book.form v is (ready.started v is) (slots_of c v)
              h.counted
              h.of_book;
          of_last = h.of_last;
          of_given = h.of_given;
          counted = h.counted;
        }

    ends_hold : (m : Laid) (step : Step) → c.round.phase ≡ Going OfRound m step [] [] true
        → AllSlotsHold S (put S (RoundEnds m) c)
    ends_hold m step is v started = record {
      of_book = subst Ahead (sym g.book) ended;
      of_last = ended;
      of_given = given_ended;
      counted = λ first. absurd (cc first);
    }
      where
        g : RoundGoes S (disks_by S log) (ledger c.round) m [] [] true
        g = round_goes m step [] [] true is

        Ahead : Laid → Type 0
        Ahead x = IsAhead S false c.round.faults m v (slots_of c v) x

        ended : Ahead m
        ended = record {
          has = subst (λ b. Backs S c.round.faults (words_at S b v) (slots_of c v)) g.book (had.now v
              started).of_book.has;
          said = said_backed S c.round.faults false (words_at S m v);
          closed = λ kind was none. absurd (cc (was, none));
        }

        given_ended : (d : ℕ) → generation_of S m ≤ generation_of S (c.round.given d) → Ahead (c.round.given d)
        given_ended d young =
            let known = base.core.hand.given_known d in
            let mine = g.known refl in
            let noted = base.core.known.noted known.disk (c.round.given d) known.there
            (base.core.hand.given d).container in
            let top = g.top in
            let above = g.above in
            let may : MayBeBook S P.edits.formed m = subst (MayBeBook S P.edits.formed) g.book base.core.hand.book in
            let level : generation_of S (c.round.given d) ≡ generation_of S m = omega (arith, young, noted, top) in
            let twins = base.core.known.twins known.disk mine.disk (c.round.given d) m known.there mine.there
            (base.core.hand.given d).container may.container level in
            subst Ahead (sym (twins.same (omega (arith, above, level)))) ended

    -- the block comes to a target
    gives_book : (phase : Phase) → ((m : Laid) (step : Step) (left late : List ℕ) (done : Bool)
        → phase ≡ Going OfRound m step left late done → c.round.book ≡ m) → (e : ℕ)
        → (gives phase c.round.given e ≡ c.round.given e) ⊎ (gives phase c.round.given e ≡ c.round.book)
    gives_book Rest goes e = inl refl
    gives_book (Going (OfSpare x) m step left late done) goes e = inl refl
    gives_book (Going OfRound m AtExtended left late done) goes e = inl refl
    gives_book (Going OfRound m AtSync left late done) goes e = inl refl
    gives_book (Going OfRound m AtAnchor [] late done) goes e = inl refl
    gives_book (Going OfRound m AtAnchor (d ∷ ds) late done) goes e = at (d == e)
      where
        at : (b : Bool) → (given_if b m (c.round.given e) ≡ c.round.given e) ⊎ (given_if b m (c.round.given e) ≡
            c.round.book)
        at true = inr (sym (goes m AtAnchor (d ∷ ds) late done refl))
        at false = inl refl

    steps_hold : AllSlotsHold S (put S StepsOn c)
    steps_hold v is =
        let h = had.now v is in
        record { of_book = h.of_book; of_last = h.of_last; of_given = given; counted = h.counted }
      where
        Ahead : Laid → Type 0
        Ahead x = IsAhead S c.round.first c.round.faults c.round.last v (slots_of c v) x

        given : (e : ℕ) → generation_of S c.round.last ≤ generation_of S (gives c.round.phase c.round.given e)
            → Ahead (gives c.round.phase c.round.given e)
        given e young = elim (gives_book c.round.phase goes_by_book e) [
          | inl same ↦
              subst Ahead (sym same)
              ((had.now v is).of_given e (subst (λ x. generation_of S c.round.last ≤ generation_of S x) same young))
          | inr book ↦ subst Ahead (sym book) (had.now v is).of_book
        ]

    fails_hold : (d : ℕ) → AllSlotsHold S (put S (DiskFails d) c)
    fails_hold d =
        each_lost S d (round_without S d c.round) (HoldBy (put_round S (DiskFails d) c.round)) c.volumes
        (λ v is.
        hold_more S c.round.faults (d ∷ c.round.faults)
        (λ e sound. (or_neither (d == e) (has e c.round.faults) sound).1) c.round.first c.round.last c.round.book
        c.round.given v (slots_of c v) (had.now v is))

    resumes_hold : (d : ℕ) → generation_of S c.round.last ≤ generation_of S (c.round.given d)
        → AllSlotsHold S (put S (MonitorResumes d) c)
    resumes_hold d young v is =
        let h = had.now v is in
        record { of_book = h.of_given d young; of_last = h.of_last; of_given = h.of_given; counted = h.counted }

    -- A VOLUME

    state_hold : (v : ℕ) (word : StateWord) → AllSlotsHold S (put S (StateGoes v word) c)
    state_hold v word = each_state (HoldBy c.round) c.volumes v (state_after word) had.now

    -- the round that closed a pass had filled its slots
    closed_filled : (v was : ℕ) → EndsNow t c → (volume_at c.volumes v).started ≡ true
        → S.start.words.pass t.before.round.last v ≡ Some was → S.start.words.pass c.round.last v ≡ None
        → AreFilled S c.round.faults (words_at S c.round.last v)
    closed_filled v was now started before none =
        let book = had.round c.round.last now.step now.left now.late now.done now.was in
        let ahead = (had.before v (had.started v started)).of_book in
        filled_more S t.before.round.faults c.round.faults had.faults (words_at S c.round.last v)
        (subst
        (λ m. S.start.words.pass m v ≡ None → AreFilled S t.before.round.faults (words_at S m v)) book
        (ahead.closed was before) none)

    closed_later : (v was : ℕ) → S.start.words.pass t.before.round.last v ≡ Some was
        → S.start.words.pass c.round.last v ≡ None → c.round.first ≡ false
    closed_later v was before none = elim had.ended [
      | inl same ↦ absurd (let bad = subst (λ m. S.start.words.pass m v ≡ Some was) (sym same) before in cc (bad, none))
      | inr later ↦ later
    ]

    closes_hold : (v was : ℕ) → EndsNow t c → (volume_at c.volumes v).started ≡ true
        → S.start.words.pass t.before.round.last v ≡ Some was → S.start.words.pass c.round.last v ≡ None
        → HoldBy c.round v (all_in_sync c.round.faults (slots_of c v))
    closes_hold v was now started before none =
        let h = had.now v started in
        record {
          of_book = synced c.round.book h.of_book;
          of_last = synced c.round.last h.of_last;
          of_given = λ d young. synced (c.round.given d) (h.of_given d young);
          counted = λ first. absurd (let later = closed_later v was before none in cc (first, later));
        }
      where
        synced : (m : Laid) → IsAhead S c.round.first c.round.faults c.round.last v (slots_of c v) m
            → IsAhead S c.round.first c.round.faults c.round.last v (all_in_sync c.round.faults (slots_of c v)) m
        synced m ahead =
            let form = base.core.hand.last.form in
            let served = P.edits.served c.round.last v form (ready.started v started) in
            let said = subst (λ b. Backs S c.round.faults (words_at S m v)
            (map (slot_said S b) (words_at S c.round.last v)))
            (closed_later v was before none) ahead.said in
            record {
              has = synced_backed S P c.round.faults c.round.last form (words_at S m v) (words_at S c.round.last v)
                  (slots_of c v) (P.told c.round.last v form served) said (closed_filled v was now started before none)
                  (had.now v started).of_last.has;
              said = ahead.said;
              closed = ahead.closed;
            }

    seats_hold : (v : ℕ) → (volume_at c.volumes v).started ≡ true
        → HoldBy c.round v (seated S (words_at S c.round.last v) (slots_of c v))
    seats_hold v started =
        let h = had.now v started in
        record {
          of_book = given_seats c.round.book h.of_book;
          of_last = given_seats c.round.last h.of_last;
          of_given = λ d young. given_seats (c.round.given d) (h.of_given d young);
          counted = λ first. seated_counted S (words_at S c.round.last v) (slots_of c v) (h.counted first);
        }
      where
        given_seats : (m : Laid) → IsAhead S c.round.first c.round.faults c.round.last v (slots_of c v) m
            → IsAhead S c.round.first c.round.faults c.round.last v (seated S (words_at S c.round.last v) (slots_of c
            v)) m
        given_seats m ahead = record {
          has = seated_backed S c.round.faults c.round.first (words_at S m v) (words_at S c.round.last v) (slots_of c v)
              ahead.said ahead.has;
          said = ahead.said;
          closed = ahead.closed;
        }

    moves_hold : (v : ℕ) (slots : List Slot) (new : Option Pass) (word : PassWord) → PassMove S t c v slots new word
        → (volume_at c.volumes v).started ≡ true → HoldBy c.round v slots
    moves_hold v _ _ _ (opens kind is was state there) started = had.now v started
    moves_hold v _ _ _ (seats now is other) started = seats_hold v started
    moves_hold v _ _ _ (reaches was unit now is before after more) started = had.now v started
    moves_hold v _ _ _ (closes was now is before none) started = closes_hold v was now started before none
    moves_hold v _ _ _ (comes_to_its_end p on over) started = had.now v started
    moves_hold v _ _ _ (loses d p need what stored call same) started = had.now v started

    pass_hold : (v : ℕ) (slots : List Slot) (new : Option Pass) (word : PassWord)
        → ((volume_at c.volumes v).started ≡ true → HoldBy c.round v slots)
        → AllSlotsHold S (put S (PassMoves v slots new word) c)
    pass_hold v slots new word holds = each_pass (HoldBy c.round) c.volumes v slots new had.now holds

    -- ANY EFFECT

    comes_hold : (a : Change) → Comes S t c a → AllSlotsHold S (put S a c)
    comes_hold _ (begins m life rest target next) = begins_hold m next
    comes_hold _ (begins_spare d m life rest target may is unlisted room) = had.now
    comes_hold _ (ends m step is) = ends_hold m step is
    comes_hold _ (ends_spare d m step is) = had.now
    comes_hold _ (lapses aim m step late is) = had.now
    comes_hold _ (fails d who may) = fails_hold d
    comes_hold _ (unblocks d rest blocked ended unexpected) = had.now
    comes_hold _ (readies v started state rest ended) = state_hold v ToReady
    comes_hold _ (pends v sound state submitted) = state_hold v ToPending
    comes_hold _ (activates v runs state rest ended dirty) = state_hold v ToActive
    comes_hold _ (again v sound state submitted) = state_hold v ToActiveAgain
    comes_hold _ (idles v who runs state none) = state_hold v ToIdle
    comes_hold _ (cleans v runs state rest) = state_hold v ToClean
    comes_hold _ (client k new word move) = had.now
    comes_hold _ (pass v slots new word move) = pass_hold v slots new word (moves_hold v slots new word move)
    comes_hold _ (manages new word move) = had.now
    comes_hold _ (kills who awake) = had.now
    comes_hold _ (takes_over who life) = had.now
    comes_hold _ (resumes d taking young) = resumes_hold d (grind (arith, nat_tests, young))
    comes_hold _ (dies taking) = had.now

    read_hold : (d : ℕ) (left : List ℕ) (seen : List Sector) (found : List ℕ) (b : Bool)
        → AllSlotsHold S (put S (after_read S c d left seen found b) c)
    read_hold d left seen found true = had.now
    read_hold d left seen found false = had.now

    rows_hold : (d : ℕ) (what : What) (x : Ended) (a : Change) → AtRows S c d what x a → AllSlotsHold S (put S a c)
    rows_hold d _ x _ (by_client k i r need _ _ call) = had.now
    rows_hold d _ x _ (by_pass v p need _ _ call) =
        pass_hold v (slots_of c v) (Some (pass_after S c v p need x)) GoesOnQuietly (had.now v)
    rows_hold d _ x _ (by_monitor left seen found _ life) =
        read_hold d left (seen ++ x.got ∷ []) found (has_all S (seen ++ x.got ∷ []))

    effect_holds : {call : Option Call} {x : Ended} {a : Change} → Effect S t c call x a → AllSlotsHold S (put S a c)
    effect_holds (quiet x a comes) = comes_hold a comes
    effect_holds (row d what x a may calls went at) = rows_hold d what x a at
    effect_holds (row_fails d what x may calls failed lost) = fails_hold d
    effect_holds (steps d m step x target went) = steps_hold
    effect_holds (step_fails d m step x target failed) = fails_hold d

    pub slots_effect : {call : Option Call} {x : Ended} {a : Change} → Effect S t c call x a
        → SlotsInTurn S t (put S a c)
    slots_effect {a = a} effect =
        let more = grows S a c.round in
        record {
          before = had.before;
          now = effect_holds effect;
          faults = λ d sound. had.faults d (more.faults d sound);
          started = λ v is. had.started v (sym (volumes_go S t c effect v).started ∙ is);
          ended = ended (put_round S a c.round) more.ended;
          round = had.round;
        }
      where
        ended : (q : Round) → ((q.last ≡ c.round.last) × (q.first ≡ c.round.first)) ⊎ (q.first ≡ false)
            → (q.last ≡ t.before.round.last) ⊎ (q.first ≡ false)
        ended q (inl same) = elim had.ended [
          | inl last ↦ inl (same.0 ∙ last)
          | inr later ↦ inr (same.1 ∙ later)
        ]
        ended q (inr later) = inr later
