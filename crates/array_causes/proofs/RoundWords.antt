-- What a journal says of the round that goes on is kept by each change.
use Rattle.std.proofs.Common.{◌≡◌, ℕ, ◌+◌, ◌==◌, not, Bool, true, false, List, [], ◌∷◌, ◌++◌, refl, ap, sym, ◌∙◌, subst, Option, Some, None, ◌⊎◌, inl, inr, cond}
use Rattle.std.specs.Prelude.{⊤}
use Rattle.array_model.specs.declared.journal.Entry.{Entry}
use Rattle.array_model.specs.Causes.{note_at, note_from}
use Rattle.array_model.specs.Blocks.{Laid}
use Rattle.array_machine.specs.Setting.{Setting}
use Rattle.array_machine.specs.Numbers.{without}
use Rattle.array_machine.specs.Rounds.{Step, AtExtended, AtAnchor, AtSync, Aim, OfRound, OfSpare, Phase, Rest, Going, Life, Lives, Killed, Takes, Dead, Round, lives, has_target, targets, late_targets, on_with, first_step, stepped, dropped}
use Rattle.array_machine.specs.Faults.{life_without, round_without}
use Rattle.array_machine.specs.Control.{Control}
use Rattle.array_machine.specs.Changes.{Change, StepsOn, RoundBegins, SpareBegins, RoundEnds, SpareEnds, RoundLapses, DiskFails, DiskUnblocks, StateGoes, ClientMoves, PassMoves, ManagerMoves, MonitorKilled, TakeoverStarts, TakeoverReads, MonitorResumes, MonitorDies, state_entry, client_entry, pass_entry, update_entry, entry_of}
use Rattle.array_machine.specs.Puts.{put}
use Rattle.array_machine.specs.Machine.{entered}
use Rattle.array_paths.specs.Comes.{IsTaking}
use Rattle.array_base.specs.Premises.{generation_of}
use Rattle.array_causes.specs.RoundCauses.{going_at, going_from}
use Rattle.array_causes.proofs.Words.{each_state, each_client, each_pass, each_update}
use Rattle.array_causes.proofs.RoundTargets.{AllLeft, none_begins, left_at_begin, left_without}

pub going-append : (going : Option ℕ) (xs ys : List Entry)
    → going_from going (xs ++ ys) ≡ going_from (going_from going xs) ys
going-append going [] ys = refl
going-append going (x ∷ xs) ys = going-append (going_at going x.event) xs ys

pub note-append : (note : ℕ) (xs ys : List Entry) → note_from note (xs ++ ys) ≡ note_from (note_from note xs) ys
note-append note [] ys = refl
note-append note (x ∷ xs) ys = note-append (note_at note x.event) xs ys

taking_asleep : (life : Life) → IsTaking life → lives life ≡ false
taking_asleep Lives h = absurd h
taking_asleep Killed h = absurd h
taking_asleep (Takes left seen found) h = refl
taking_asleep Dead h = absurd h

lives_without : (d : ℕ) (life : Life) → lives (life_without d life) ≡ lives life
lives_without d Lives = refl
lives_without d Killed = refl
lives_without d Dead = refl
lives_without d (Takes [] seen found) = refl
lives_without d (Takes (e ∷ es) seen found) = at (e == d)
  where
    at : (b : Bool) → lives (cond b (Takes (without d es) [] (without d found))
        (Takes (e ∷ without d es) seen (without d found))) ≡ false
    at true = refl
    at false = refl

module _ (S : Setting) where
  -- WHAT IS KEPT

  -- Nothing goes on, or it lapsed and the disks that are left let no round begin; a round goes on, and while none of
  -- its targets finished these are left; a spare's block is written.
  abbrev pub PhaseSaid : (List ℕ → Type 0) → Phase → Option ℕ → Type 0
  PhaseSaid Left Rest going = (going ≡ None) ⊎ Left []
  PhaseSaid Left (Going OfRound m step left late done) going =
      (going ≡ Some (generation_of S m)) × (done ≡ false → Left left)
  PhaseSaid Left (Going (OfSpare d) m step left late done) going = going ≡ None

  abbrev pub LeftIn : Round → List ℕ → Type 0
  LeftIn r left = AllLeft S r.book r left

  -- and while the monitor doesn't live nothing goes on
  pub record RoundSaid (r : Round) (going : Option ℕ) : Type 0 where
    pub phase : PhaseSaid (LeftIn r) r.phase going
    pub asleep : lives r.life ≡ false → (r.phase ≡ Rest) × (going ≡ None)

  -- WHERE A CHANGE COMES

  -- the monitor lives, nothing goes on, and there is a target
  pub record RestsNow (r : Round) : Type 0 where
    pub life : r.life ≡ Lives
    pub rest : r.phase ≡ Rest
    pub target : has_target S r ≡ true

  pub record Finishes (r : Round) (aim : Aim) (m : Laid) (late : List ℕ) (done : Bool) : Type 0 where
    pub step : Step
    pub is : r.phase ≡ Going aim m step [] late done

  abbrev pub RoundComes : Round → Change → Type 0
  RoundComes r (RoundBegins m) = RestsNow r × (generation_of S m ≡ r.note + 1)
  RoundComes r (SpareBegins d m) = RestsNow r
  RoundComes r (RoundEnds m) = Finishes r OfRound m [] true
  RoundComes r (SpareEnds d) = (m : Laid) × Finishes r (OfSpare d) m [] true
  RoundComes r RoundLapses = (aim : Aim) × (m : Laid) × (late : List ℕ) × Finishes r aim m late false
  RoundComes r (TakeoverStarts left) = r.life ≡ Killed
  RoundComes r (TakeoverReads left seen found) = IsTaking r.life
  RoundComes r (MonitorResumes d) = IsTaking r.life
  RoundComes r MonitorDies = IsTaking r.life
  RoundComes r _ = ⊤

  -- STEPS

  on_said : (Left : List ℕ → Type 0) (going : Option ℕ) (aim : Aim) (m : Laid) (step : Step) (left late : List ℕ)
      (done : Bool) → PhaseSaid Left (Going aim m step left late done) going
      → PhaseSaid Left (on_with aim m left late done) going
  on_said Left going OfRound m step [] late true h = (h.0, λ none. absurd cc)
  on_said Left going OfRound m step [] late false h = h
  on_said Left going OfRound m step (d ∷ ds) late done h = h
  on_said Left going (OfSpare d) m step [] late true h = h
  on_said Left going (OfSpare d) m step [] late false h = h
  on_said Left going (OfSpare d) m step (e ∷ es) late done h = h

  stepped_said : (Left : List ℕ → Type 0) (going : Option ℕ) (phase : Phase) → PhaseSaid Left phase going
      → PhaseSaid Left (stepped phase) going
  stepped_said Left going Rest h = h
  stepped_said Left going (Going aim m step [] late done) h = h
  stepped_said Left going (Going OfRound m AtExtended (d ∷ ds) late done) h = h
  stepped_said Left going (Going OfRound m AtAnchor (d ∷ ds) late done) h = h
  stepped_said Left going (Going OfRound m AtSync (d ∷ ds) late done) h =
      on_said Left going OfRound m AtSync ds late true (h.0, λ none. absurd cc)
  stepped_said Left going (Going (OfSpare e) m AtExtended (d ∷ ds) late done) h = h
  stepped_said Left going (Going (OfSpare e) m AtAnchor (d ∷ ds) late done) h = h
  stepped_said Left going (Going (OfSpare e) m AtSync (d ∷ ds) late done) h =
      on_said Left going (OfSpare e) m AtSync ds late true h

  dropped_said : (Left Less : List ℕ → Type 0) (d : ℕ) → ((left : List ℕ) → Left left → Less (without d left))
      → (going : Option ℕ) (phase : Phase) → PhaseSaid Left phase going → PhaseSaid Less (dropped d phase) going
  dropped_said Left Less d less going Rest (inl none) = inl none
  dropped_said Left Less d less going Rest (inr left) = inr (less [] left)
  dropped_said Left Less d less going (Going OfRound m step [] late done) h = (h.0, λ none. less [] (h.1 none))
  dropped_said Left Less d less going (Going (OfSpare x) m step [] late done) h = h
  dropped_said Left Less d less going (Going OfRound m step (e ∷ es) late done) h =
      at (e == d) (h.0, λ none. less (e ∷ es) (h.1 none))
    where
      at : (b : Bool) → (going ≡ Some (generation_of S m))
          × (done ≡ false → Less (cond (not b) (e ∷ without d es) (without d es)))
          → PhaseSaid Less (cond b (on_with OfRound m (without d es) (without d late) done)
          (Going OfRound m step (e ∷ without d es) (without d late) done)) going
      at true h = on_said Less going OfRound m step (without d es) (without d late) done h
      at false h = h
  dropped_said Left Less d less going (Going (OfSpare x) m step (e ∷ es) late done) h = at (e == d)
    where
      at : (b : Bool) → PhaseSaid Less (cond b (on_with (OfSpare x) m (without d es) (without d late) done)
          (Going (OfSpare x) m step (e ∷ without d es) (without d late) done)) going
      at true = on_said Less going (OfSpare x) m step (without d es) (without d late) done h
      at false = h

  -- where a round may begin none goes on
  pub alone : (r : Round) (going : Option ℕ) → RestsNow r → RoundSaid r going → going ≡ None
  alone r going now said = elim (subst (λ phase. PhaseSaid (LeftIn r) phase going) now.rest said.phase) [
    | inl none ↦ none
    | inr left ↦ none_begins S r left now.target (going ≡ None)
  ]

  -- EACH CHANGE

  module _ (n : ℕ) where
    abbrev Behind : Control → Option ℕ → Change → Type 0
    Behind c going a = RoundSaid (put S a c).round (going_from going (entered n (entry_of S a)))

    pub round_on : (c : Control) (a : Change) (going : Option ℕ) → RoundComes c.round a → RoundSaid c.round going
        → Behind c going a
    round_on c StepsOn going comes said = record {
      phase = stepped_said (LeftIn c.round) going c.round.phase said.phase;
      asleep = λ down. let was = said.asleep down in (ap stepped was.0, was.1);
    }
    round_on c (RoundBegins m) going comes said = record {
      phase = on_said (LeftIn (put S (RoundBegins m) c).round) (Some (generation_of S m)) OfRound m (first_step m)
          (targets S c.round m) (late_targets S c.round m) false (refl, λ none. left_at_begin S c.round m);
      asleep = λ down. absurd (let up = ap lives comes.0.life in cc (up, down));
    }
    round_on c (SpareBegins d m) going comes said = record {
      phase = alone c.round going comes said;
      asleep = λ down. absurd (let up = ap lives comes.life in cc (up, down));
    }
    round_on c (RoundEnds m) going comes said = record { phase = inl refl; asleep = λ down. (refl, refl) }
    round_on c (SpareEnds d) going comes said = record {
      phase = inl (subst (λ phase. PhaseSaid (LeftIn c.round) phase going) comes.1.is said.phase);
      asleep = λ down. (refl, (said.asleep down).1);
    }
    round_on c RoundLapses going comes said = record {
      phase = at comes.0 (subst (λ phase. PhaseSaid (LeftIn c.round) phase going) comes.3.is said.phase);
      asleep = λ down. (refl, (said.asleep down).1);
    }
      where
        at : (aim : Aim) → PhaseSaid (LeftIn c.round) (Going aim comes.1 comes.3.step [] comes.2 false) going
            → (going ≡ None) ⊎ LeftIn c.round []
        at OfRound h = inr (h.1 refl)
        at (OfSpare d) h = inl h
    round_on c (DiskFails d) going comes said = record {
      phase = dropped_said (LeftIn c.round) (LeftIn (round_without S d c.round)) d
          (λ left all. left_without S d c.round.book c.round left all) going c.round.phase said.phase;
      asleep = λ down. let was = said.asleep (sym (lives_without d c.round.life) ∙ down) in
          (ap (dropped d) was.0, was.1);
    }
    round_on c (DiskUnblocks d) going comes said = record { phase = said.phase; asleep = said.asleep }
    round_on c MonitorKilled going comes said = record { phase = inl refl; asleep = λ down. (refl, refl) }
    round_on c (TakeoverStarts left) going comes said = record {
      phase = said.phase;
      asleep = λ down. said.asleep (ap lives comes);
    }
    round_on c (TakeoverReads left seen found) going comes said = record {
      phase = said.phase;
      asleep = λ down. said.asleep (taking_asleep c.round.life comes);
    }
    round_on c (MonitorResumes d) going comes said = record {
      phase = inl (said.asleep (taking_asleep c.round.life comes)).1;
      asleep = λ down. absurd cc;
    }
    round_on c MonitorDies going comes said = record {
      phase = said.phase;
      asleep = λ down. said.asleep (taking_asleep c.round.life comes);
    }
    round_on c (StateGoes v word) going comes said =
        each_state (λ word. RoundSaid c.round (going_from going (entered n (state_entry v word)))) said said said said
        said said word
    round_on c (ClientMoves k new word) going comes said =
        each_client (λ word. RoundSaid c.round (going_from going (entered n (client_entry word)))) said (λ i. said)
        (λ i answer. said) word
    round_on c (PassMoves v slots pass word) going comes said =
        each_pass (λ word. RoundSaid c.round (going_from going (entered n (pass_entry v word)))) said (λ row. said)
        (λ unit. said) said word
    round_on c (ManagerMoves new word) going comes said =
        each_update (λ word. RoundSaid c.round (going_from going (entered n (update_entry word)))) said (λ u. said)
        (λ u. said) (λ u kind. said) word

    pub note_on : (c : Control) (a : Change) → RoundComes c.round a
        → note_from c.round.note (entered n (entry_of S a)) ≡ (put S a c).round.note
    note_on c (RoundBegins m) comes = comes.1
    note_on c (StateGoes v word) comes =
        each_state (λ word. note_from c.round.note (entered n (state_entry v word)) ≡ c.round.note) refl refl refl refl
        refl refl word
    note_on c (ClientMoves k new word) comes =
        each_client (λ word. note_from c.round.note (entered n (client_entry word)) ≡ c.round.note) refl (λ i. refl)
        (λ i answer. refl) word
    note_on c (PassMoves v slots pass word) comes =
        each_pass (λ word. note_from c.round.note (entered n (pass_entry v word)) ≡ c.round.note) refl (λ row. refl)
        (λ unit. refl) refl word
    note_on c (ManagerMoves new word) comes =
        each_update (λ word. note_from c.round.note (entered n (update_entry word)) ≡ c.round.note) refl (λ u. refl)
        (λ u. refl) (λ u kind. refl) word
    note_on c _ comes = refl
