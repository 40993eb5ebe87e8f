-- While a volume is live its blocks stay dirty: through the call of each effect, and through each change.
use Rattle.std.proofs.Common.{◌≡◌, ℕ, ◌≤◌, ◌==◌, ◌&&◌, not, Bool, true, false, List, [], ◌∷◌, ◌++◌, refl, ap, sym, ◌∙◌, subst, arith, Option, inl, inr, cond}
use Rattle.std.specs.List.{list_any}
use Rattle.std.proofs.lemmas.Bool.Decides.{nat_tests}
use Rattle.units.specs.declared.disk.Sector.{Sector}
use Rattle.device_log.specs.Log.{Call, What}
use Rattle.array_model.specs.Blocks.{Laid}
use Rattle.array_model.specs.Candidates.{Disk, In}
use Rattle.array_machine.specs.Setting.{Setting}
use Rattle.array_machine.specs.Numbers.{has, without}
use Rattle.array_machine.specs.States.{State, IsReadonly, IsReadAuto, IsClean, IsPending, IsActive, IsIdle, is_resting, is_live, StateWord, ToReady, ToPending, ToActive, ToActiveAgain, ToIdle, ToClean, state_after}
use Rattle.array_machine.specs.Volumes.{Slot, Pass, Volume, volume_at}
use Rattle.array_machine.specs.Rounds.{Ended, Step, AtExtended, AtAnchor, AtSync, Aim, OfRound, OfSpare, Phase, Rest, Going, Round, expects, works, all_disks, working_disks, is_late, has_target, on_with, stepped, dropped}
use Rattle.array_machine.specs.Faults.{round_without}
use Rattle.array_machine.specs.Control.{Control}
use Rattle.array_machine.specs.Changes.{Change, StepsOn, RoundBegins, RoundEnds, DiskFails, StateGoes, PassMoves, PassWord, GoesOnQuietly}
use Rattle.array_machine.specs.Puts.{put}
use Rattle.array_machine.specs.TakeoverTurns.{has_all}
use Rattle.array_paths.specs.InTurn.{InTurn, state_of}
use Rattle.array_paths.specs.MayEdit.{IsNext}
use Rattle.array_paths.specs.PassMove.{slots_of}
use Rattle.array_paths.specs.Comes.{Comes, begins, begins_spare, ends, ends_spare, lapses, fails, unblocks, readies, pends, activates, again, idles, cleans, client, pass, manages, kills, takes_over, resumes, dies}
use Rattle.array_paths.specs.AtRows.{AtRows, by_client, by_pass, by_monitor, after_read}
use Rattle.array_paths.specs.Effects.{Effect, quiet, row, row_fails, steps, step_fails}
use Rattle.array_base.specs.Premises.{generation_of, IsContainer, Premises}
use Rattle.array_base.specs.CallDoes.{CallDoes, narrows, brings}
use Rattle.array_base.specs.Base.{ledger, IsTrusted, Goes, Between}
use Rattle.array_base.proofs.Fallen.{trusted_less}
use Rattle.array_base.proofs.Targets.{has_passes}
use Rattle.array_base.proofs.NextBlock.{next_dirty}
use Rattle.array_told.proofs.Tells.{state_without, set_at, state_with_pass}
use Rattle.array_gate.specs.Gate.{round_of, round_in, SaysDirty, SaysDirtyIf, IsDirtyAll, LiveAreDirty}

-- THE BLOCK OF WHAT GOES ON

pub in_on_with : (aim : Aim) (m : Laid) (left late : List ℕ) (done : Bool)
    → round_in (on_with aim m left late done) ≡ round_of aim m
in_on_with aim m [] late true = refl
in_on_with aim m [] late false = refl
in_on_with aim m (d ∷ ds) late done = refl

pub in_stepped : (phase : Phase) → round_in (stepped phase) ≡ round_in phase
in_stepped Rest = refl
in_stepped (Going aim m step [] late done) = refl
in_stepped (Going aim m AtExtended (d ∷ ds) late done) = refl
in_stepped (Going aim m AtAnchor (d ∷ ds) late done) = refl
in_stepped (Going aim m AtSync (d ∷ ds) late done) = in_on_with aim m ds late true

pub in_dropped : (d : ℕ) (phase : Phase) → round_in (dropped d phase) ≡ round_in phase
in_dropped d Rest = refl
in_dropped d (Going aim m step [] late done) = refl
in_dropped d (Going aim m step (e ∷ es) late done) = at (e == d)
  where
    at : (b : Bool) → round_in (cond b (on_with aim m (without d es) (without d late) done)
        (Going aim m step (e ∷ without d es) (without d late) done)) ≡ round_of aim m
    at true = in_on_with aim m (without d es) (without d late) done
    at false = refl

-- A TRUSTED DISK

any_has : (test : ℕ → Bool) (ds : List ℕ) → list_any test ds ≡ true → (d : ℕ) × (has d ds ≡ true)
any_has test [] h = absurd cc
any_has test (e ∷ es) h = (e, let here : (e == e) ≡ true = grind (arith, nat_tests) in rw here refl)

awake : (state : State) → is_live state ≡ true → is_resting state ≡ false
awake IsReadonly h = absurd cc
awake IsReadAuto h = absurd cc
awake IsClean h = absurd cc
awake IsPending h = absurd cc
awake IsActive h = refl
awake IsIdle h = refl

module _ (S : Setting) where
  -- behind the first round that finished a disk that works is trusted
  pub works_trusted : (r : Round) (d : ℕ) → r.first ≡ false → works S r d ≡ true → IsTrusted S (ledger r) d
  works_trusted r d later is = rw (is, later) refl

  -- where a round may begin there is one
  pub target_trusted : (r : Round) → r.first ≡ false → has_target S r ≡ true → (d : ℕ) × IsTrusted S (ledger r) d
  target_trusted r later is =
      let found = any_has (λ d. expects S r.book d && not (is_late S r d)) (working_disks S r) is in
      (found.0, works_trusted r found.0 later (has_passes (works S r) (all_disks S) found.0 found.1))

  -- THE CALL

  module _ (P : Premises S) (ks ls : ℕ → Disk) (c : Control) where
    -- the block that comes to a disk is that of the round, or a spare's
    brought : (a : Laid) (v : ℕ) → IsContainer S a → (aim : Aim) (m : Laid) (step : Step) (left late : List ℕ)
        (done : Bool) → Goes S ks (ledger c.round) (Going aim m step left late done) → a ≡ m
        → SaysDirtyIf S (round_of aim m) v → SaysDirty S a v
    brought a v container OfRound m step left late done goes same dirty =
        ap (λ x. S.start.words.is_dirty x v) same ∙ dirty
    brought a v container (OfSpare x) m step left late done goes same dirty =
        absurd (let spare = goes.block.spare in cc (spare, same, container))

    known_behind : CallDoes S c.round.phase ks ls → Goes S ks (ledger c.round) c.round.phase → (v : ℕ)
        → IsDirtyAll S ks (ledger c.round) c.round.phase v
        → (d : ℕ) → IsTrusted S (ledger c.round) d → (e : ℕ) (a : Laid) → In a (ls e).known → IsContainer S a
        → generation_of S c.round.last ≤ generation_of S a → SaysDirty S a v
    known_behind (narrows n) goes v dirty d trusted e a i container young =
        dirty.known d trusted e a (subst (In a) (n.known e) i) container young
    known_behind (brings aim m f ds late done is adds) goes v dirty d trusted e a i container young =
        elim (adds.known e a i) [
          | inl old ↦ dirty.known d trusted e a old container young
          | inr new ↦
              brought a v container aim m AtAnchor (f ∷ ds) late done (subst (Goes S ks (ledger c.round)) is goes) new.1
              (subst (λ p. SaysDirtyIf S (round_in p) v) is dirty.round)
        ]

    -- behind a call, with the control state before it
    pub live_call : CallDoes S c.round.phase ks ls → Goes S ks (ledger c.round) c.round.phase → LiveAreDirty S ks c
        → LiveAreDirty S ls c
    live_call does goes live v alive =
        let dirty = live v alive in
        record {
          later = dirty.later;
          book = dirty.book;
          known = known_behind does goes v dirty;
          round = dirty.round;
        }

  -- CHANGES

  module _ (P : Premises S) (ks : ℕ → Disk) where
    abbrev BetweenOn : Control → Type 0
    BetweenOn c = Between S P ks (ledger c.round) c.round.phase

    goes_at : (c : Control) (phase : Phase) → c.round.phase ≡ phase → BetweenOn c → Goes S ks (ledger c.round) phase
    goes_at c phase is b = subst (Goes S ks (ledger c.round)) is b.goes

    live_begin : (t : InTurn) (c : Control) (m : Laid) → IsNext S t c m → has_target S c.round ≡ true → BetweenOn c
        → LiveAreDirty S ks c → LiveAreDirty S ks (put S (RoundBegins m) c)
    live_begin t c m next target b live v alive =
        let dirty = live v alive in
        let disk = target_trusted c.round dirty.later target in
        let now : SaysDirty S m v =
        next_dirty S P t c m next b.core.hand.book v dirty.later (awake (state_of c v) alive)
        (dirty.book disk.0 disk.1) in
        record {
          later = dirty.later;
          book = λ d trusted. now;
          known = dirty.known;
          round = subst (λ o. SaysDirtyIf S o v) (sym (in_on_with OfRound m _ _ false)) now;
        }

    live_end : (c : Control) (m : Laid) (step : Step) → c.round.phase ≡ Going OfRound m step [] [] true → BetweenOn c
        → LiveAreDirty S ks c → LiveAreDirty S ks (put S (RoundEnds m) c)
    live_end c m step is b live v alive =
        let dirty = live v alive in
        let goes = goes_at c (Going OfRound m step [] [] true) is b in
        let now : SaysDirty S m v = subst (λ p. SaysDirtyIf S (round_in p) v) is dirty.round in
        record {
          later = refl;
          book = λ d trusted. ap (λ x. S.start.words.is_dirty x v) goes.book ∙ now;
          known = λ d trusted e a i container young.
              let most = b.core.known.noted e a i container in
              let top = goes.top in
              ap (λ x. S.start.words.is_dirty x v) (goes.alone e a i container (omega (arith, most, top, young))) ∙ now;
          round = tt;
        }

    -- a finished round says dirty, and no other goes on
    pub active_dirty : (c : Control) (v : ℕ) → c.round.phase ≡ Rest → c.round.ended ≡ true
        → SaysDirty S c.round.last v → BetweenOn c → IsDirtyAll S ks (ledger c.round) c.round.phase v
    active_dirty c v rest ended now b = record {
      later = later c.round.first refl;
      book = λ d trusted. ap (λ x. S.start.words.is_dirty x v) (settled d trusted).1 ∙ now;
      known = λ d trusted e a i container young.
          let most = b.core.known.noted e a i container in
          let top = (settled d trusted).0 in
          let last = b.core.hand.last_known in
          (b.core.known.twins e last.disk a c.round.last i last.there container b.core.hand.last.container
          (omega (arith, most, top, young))).says.is_dirty v ∙ now;
      round = subst (λ p. SaysDirtyIf S (round_in p) v) (sym rest) tt;
    }
      where
        settled : (d : ℕ) → IsTrusted S (ledger c.round) d
            → (c.round.note ≡ generation_of S c.round.last) × (c.round.book ≡ c.round.last)
        settled d trusted = goes_at c Rest rest b ended d trusted

        later : (first : Bool) → c.round.first ≡ first → c.round.first ≡ false
        later true is = absurd (let none = b.core.generations.none_ended is in cc (none, ended))
        later false is = is

    -- a word to one volume: that one is live only where it was, or for a reason
    live_word : (c : Control) (v : ℕ) (word : StateWord)
        → (is_live (state_after word) ≡ true → IsDirtyAll S ks (ledger c.round) c.round.phase v)
        → LiveAreDirty S ks c → LiveAreDirty S ks (put S (StateGoes v word) c)
    live_word c v word why live w alive =
        elim (set_at c.volumes v (record (volume_at c.volumes v) { state = state_after word }) w) [
          | inl here ↦
              subst (IsDirtyAll S ks (ledger c.round) c.round.phase) here.0
              (why (sym (ap (λ (x : Volume). is_live x.state) here.1) ∙ alive))
          | inr other ↦ live w (sym (ap (λ (x : Volume). is_live x.state) other) ∙ alive)
        ]

    live_pass : (c : Control) (v : ℕ) (slots : List Slot) (new : Option Pass) (word : PassWord) → LiveAreDirty S ks c
        → LiveAreDirty S ks (put S (PassMoves v slots new word) c)
    live_pass c v slots new word live w alive =
        live w (sym (ap is_live (state_with_pass c.volumes v slots new w)) ∙ alive)

    live_fault : (c : Control) (d : ℕ) → LiveAreDirty S ks c → LiveAreDirty S ks (put S (DiskFails d) c)
    live_fault c d live v alive =
        let dirty = live v (sym (ap is_live (state_without S d (round_without S d c.round) 0 c.volumes v)) ∙ alive) in
        record {
          later = dirty.later;
          book = λ e trusted. dirty.book e (trusted_less S d (ledger c.round) e trusted).1;
          known = λ e trusted. dirty.known e (trusted_less S d (ledger c.round) e trusted).1;
          round = subst (λ o. SaysDirtyIf S o v) (sym (in_dropped d c.round.phase)) dirty.round;
        }

    live_comes : (t : InTurn) (c : Control) (a : Change) → Comes S t c a → BetweenOn c → LiveAreDirty S ks c
        → LiveAreDirty S ks (put S a c)
    live_comes t c _ (begins m life rest target next) b live = live_begin t c m next target b live
    live_comes t c _ (ends m step is) b live = live_end c m step is b live
    live_comes t c _ (fails d who may) b live = live_fault c d live
    live_comes t c _ (readies v started state rest ended) b live = live_word c v ToReady (λ h. absurd cc) live
    live_comes t c _ (pends v sound state submitted) b live = live_word c v ToPending (λ h. absurd cc) live
    live_comes t c _ (activates v runs state rest ended now) b live =
        live_word c v ToActive (λ h. active_dirty c v rest ended now b) live
    live_comes t c _ (again v sound state submitted) b live =
        live_word c v ToActiveAgain (λ h. live v (ap is_live state)) live
    live_comes t c _ (idles v who runs state none) b live = live_word c v ToIdle (λ h. live v (ap is_live state)) live
    live_comes t c _ (cleans v runs state rest) b live = live_word c v ToClean (λ h. absurd cc) live
    live_comes t c _ (pass v slots new word move) b live = live_pass c v slots new word live
    live_comes t c _ (client k new word move) b live = live
    live_comes t c _ (manages new word move) b live = live
    live_comes t c _ (unblocks d rest blocked ended unexpected) b live = λ v alive.
        let x = live v alive in record { later = x.later; book = x.book; known = x.known; round = x.round }
    live_comes t c _ (takes_over who life) b live = λ v alive.
        let x = live v alive in record { later = x.later; book = x.book; known = x.known; round = x.round }
    live_comes t c _ (dies taking) b live = λ v alive.
        let x = live v alive in record { later = x.later; book = x.book; known = x.known; round = x.round }
    live_comes t c _ (begins_spare d m life rest target may is unlisted room) b live = λ v alive.
        let x = live v alive in record { later = x.later; book = x.book; known = x.known; round = tt }
    live_comes t c _ (ends_spare d m step is) b live = λ v alive.
        let x = live v alive in record { later = x.later; book = x.book; known = x.known; round = tt }
    live_comes t c _ (lapses aim m step late is) b live = λ v alive.
        let x = live v alive in record { later = x.later; book = x.book; known = x.known; round = tt }
    live_comes t c _ (kills who life) b live = λ v alive.
        let x = live v alive in record { later = x.later; book = x.book; known = x.known; round = tt }
    live_comes t c _ (resumes d taking young) b live = λ v alive.
        let x = live v alive in
        let given = b.core.hand.given_known d in
        record {
          later = x.later;
          book = λ e trusted. x.known e trusted given.disk (c.round.given d) given.there (b.core.hand.given d).container
              (grind (arith, nat_tests, young));
          known = x.known;
          round = tt;
        }

    live_read : (c : Control) (d : ℕ) (left : List ℕ) (seen : List Sector) (found : List ℕ) (all : Bool)
        → LiveAreDirty S ks c → LiveAreDirty S ks (put S (after_read S c d left seen found all) c)
    live_read c d left seen found true live = λ v alive.
        let x = live v alive in record { later = x.later; book = x.book; known = x.known; round = x.round }
    live_read c d left seen found false live = λ v alive.
        let x = live v alive in record { later = x.later; book = x.book; known = x.known; round = x.round }

    live_rows : (c : Control) (d : ℕ) (what : What) (x : Ended) (a : Change) → AtRows S c d what x a
        → LiveAreDirty S ks c → LiveAreDirty S ks (put S a c)
    live_rows c d _ x _ (by_client k i r need _ _ call) live = live
    live_rows c d _ x _ (by_pass v p need _ _ call) live =
        live_pass c v (slots_of c v) _ GoesOnQuietly live
    live_rows c d _ x _ (by_monitor left seen found _ life) live =
        live_read c d left (seen ++ x.got ∷ []) found (has_all S (seen ++ x.got ∷ [])) live

    live_step : (c : Control) → LiveAreDirty S ks c → LiveAreDirty S ks (put S StepsOn c)
    live_step c live = λ v alive.
        let x = live v alive in
        record {
          later = x.later;
          book = x.book;
          known = x.known;
          round = subst (λ o. SaysDirtyIf S o v) (sym (in_stepped c.round.phase)) x.round;
        }

    -- behind the change of an effect, on the disks behind its call
    pub live_change : (t : InTurn) (c : Control) {call : Option Call} {x : Ended} {a : Change} → Effect S t c call x a
        → BetweenOn c → LiveAreDirty S ks c → LiveAreDirty S ks (put S a c)
    live_change t c (quiet x a comes) b live = live_comes t c a comes b live
    live_change t c (row d what x a may calls went at) b live = live_rows c d what x a at live
    live_change t c (row_fails d what x may calls failed lost) b live = live_fault c d live
    live_change t c (steps d m step x target went) b live = live_step c live
    live_change t c (step_fails d m step x target failed) b live = live_fault c d live
