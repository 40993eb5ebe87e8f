-- A disk fails: it isn't trusted any more, and drops out of what goes on. What holds of the others stays.
use Rattle.std.proofs.Common.{◌≡◌, ℕ, ◌==◌, ◌||◌, ◌&&◌, not, Bool, true, false, List, [], ◌∷◌, refl, ap, sym, ◌∙◌, subst, inl, inr, cond, eqb-true, eq-eqb}
use Rattle.array_model.specs.Blocks.{Laid}
use Rattle.array_model.specs.Candidates.{Disk}
use Rattle.array_machine.specs.Setting.{Setting}
use Rattle.array_machine.specs.Numbers.{has, without}
use Rattle.array_machine.specs.Rounds.{Step, Aim, OfRound, OfSpare, Phase, Rest, Going, expects, on_with, dropped}
use Rattle.array_base.specs.Premises.{Premises}
use Rattle.array_base.specs.Opening.{counts_out}
use Rattle.array_base.specs.Base.{Ledger, IsTrusted, HoldsCurrent, RoundGoes, IsSettled, SpareGoes, Goes, NextAwaits, Core}
use Rattle.array_base.proofs.Targets.{or_cases, or_neither, or_first, or_second, has_other, has_less, left_less}
use Rattle.array_base.proofs.OnWith.{round_on, spare_on, next_on}

-- with one fault more
abbrev pub fallen : ℕ → Ledger → Ledger
fallen d l = record {
  book = l.book;
  last = l.last;
  note = l.note;
  first = l.first;
  ended = l.ended;
  faults = d ∷ l.faults;
  given = l.given;
}

module _ (S : Setting) (d : ℕ) (l : Ledger) where
  -- a disk that is trusted still isn't the one that failed
  pub trusted_less : (e : ℕ) → IsTrusted S (fallen d l) e → ((d == e) ≡ false) × IsTrusted S l e
  trusted_less e = at (expects S l.last e) (d == e) (has e l.faults) (l.first && counts_out S e)
    where
      at : (a b f o : Bool) → (a && not (b || f) && not o) ≡ true → (b ≡ false) × ((a && not f && not o) ≡ true)
      at true true f o h = absurd cc
      at true false f o h = (refl, h)
      at false b f o h = absurd cc

  -- a disk without a fault isn't the one that failed, and had none
  sound_less : (e : ℕ) → has e (d ∷ l.faults) ≡ false → ((d == e) ≡ false) × (has e l.faults ≡ false)
  sound_less e h = or_neither (d == e) (has e l.faults) h

module _ (S : Setting) (ks : ℕ → Disk) (d : ℕ) (l : Ledger) where
  -- WHAT HOLDS OF THE DISKS

  pub core_fallen : (P : Premises S) → Core S P ks l → Core S P ks (fallen d l)
  core_fallen P core = record {
    known = let k = core.known in record { account = k.account; blocks = k.blocks; noted = k.noted; twins = k.twins };
    working = λ e trusted. current e (core.working e (trusted_less S d l e trusted).1);
    generations =
        let g = core.generations in
        record { last = g.last; newest = g.newest; above = g.above; first = g.first; none_ended = g.none_ended };
    hand =
        let h = core.hand in
        record {
          book = h.book;
          last = h.last;
          last_known = h.last_known;
          given = h.given;
          given_known = h.given_known;
        };
  }
    where
      current : (e : ℕ) → HoldsCurrent S ks l e → HoldsCurrent S ks (fallen d l) e
      current e h = record {
        some = h.some;
        candidates = λ a i. let c = h.candidates a i in record { container = c.container; young = c.young };
        expected = λ f a i c. h.expected f a i (record { container = c.container; young = c.young });
        in_book = h.in_book;
      }

  settled_fallen : IsSettled S l → IsSettled S (fallen d l)
  settled_fallen settled ended e trusted = settled ended e (trusted_less S d l e trusted).1

  -- WHAT GOES ON

  -- other disks are left as before, and none more
  record DropsOut (left left' late : List ℕ) : Type 0 where
    others : (e : ℕ) → (d == e) ≡ false → has e left' ≡ has e left
    less : (e : ℕ) → has e left' ≡ true → has e left ≡ true

  round_fallen : (m : Laid) (left left' late : List ℕ) (done : Bool) → DropsOut left left' late
      → RoundGoes S ks l m left late done → RoundGoes S ks (fallen d l) m left' (without d late) done
  round_fallen m left left' late done drops g = record {
    book = g.book;
    top = g.top;
    above = g.above;
    alone = g.alone;
    finished = λ e expected sound gone.
        let parts = sound_less S d l e sound in
        let none = or_neither (has e left') (has e (without d late)) gone in
        let front = sym (drops.others e parts.0) ∙ none.0 in
        let back = sym (has_other d e late parts.0) ∙ none.1 in
        g.finished e expected parts.1 (rw (front, back) refl);
    begun = λ ended none e trusted.
        let parts = trusted_less S d l e trusted in
        drops.others e parts.0 ∙ g.begun ended none e parts.1;
    known = g.known;
    targets = λ e is.
        g.targets e (left_less S left left' late (without d late) e (drops.less e) (has_less d e late) is);
  }

  spare_fallen : (x : ℕ) (m : Laid) (left left' late : List ℕ) (done : Bool) → DropsOut left left' late
      → SpareGoes S ks l x m left late done → SpareGoes S ks (fallen d l) x m left' (without d late) done
  spare_fallen x m left left' late done drops g = record {
    settled = settled_fallen g.settled;
    only = λ e is. g.only e (left_less S left left' late (without d late) e (drops.less e) (has_less d e late) is);
    idle = λ trusted. g.idle (trusted_less S d l x trusted).1;
    block = g.block;
    held = g.held;
  }

  -- none was left; the first drops out; another does
  drops_none : (late : List ℕ) → DropsOut [] [] late
  drops_none late = record { others = λ e other. refl; less = λ e h. h }

  drops_first : (f : ℕ) (fs late : List ℕ) → (f == d) ≡ true → DropsOut (f ∷ fs) (without d fs) late
  drops_first f fs late is = record {
    others = λ e other.
        let none : (f == e) ≡ false = subst (λ y. (y == e) ≡ false) (sym (eqb-true f d is)) other in
        rw none (has_other d e fs other);
    less = λ e h. or_second (f == e) (has e fs) (has_less d e fs h);
  }

  drops_other : (f : ℕ) (fs late : List ℕ) → DropsOut (f ∷ fs) (f ∷ without d fs) late
  drops_other f fs late = record {
    others = λ e other. ap (λ b. (f == e) || b) (has_other d e fs other);
    less = λ e h. elim (or_cases (f == e) (has e (without d fs)) h) [
      | inl here ↦ or_first (f == e) (has e fs) here
      | inr there ↦ or_second (f == e) (has e fs) (has_less d e fs there)
    ];
  }

  pub goes_fallen : (phase : Phase) → Goes S ks l phase → Goes S ks (fallen d l) (dropped d phase)
  goes_fallen Rest g = settled_fallen g
  goes_fallen (Going OfRound m step [] late done) g = round_fallen m [] [] late done (drops_none late) g
  goes_fallen (Going (OfSpare x) m step [] late done) g = spare_fallen x m [] [] late done (drops_none late) g
  goes_fallen (Going OfRound m step (f ∷ fs) late done) g = at (f == d) refl
    where
      at : (b : Bool) → (f == d) ≡ b
          → Goes S ks (fallen d l) (cond b (on_with OfRound m (without d fs) (without d late) done)
          (Going OfRound m step (f ∷ without d fs) (without d late) done))
      at true is =
          round_on S ks (fallen d l) m (without d fs) (without d late) done
          (round_fallen m (f ∷ fs) (without d fs) late done (drops_first f fs late is) g)
      at false is = round_fallen m (f ∷ fs) (f ∷ without d fs) late done (drops_other f fs late) g
  goes_fallen (Going (OfSpare x) m step (f ∷ fs) late done) g = at (f == d) refl
    where
      at : (b : Bool) → (f == d) ≡ b
          → Goes S ks (fallen d l) (cond b (on_with (OfSpare x) m (without d fs) (without d late) done)
          (Going (OfSpare x) m step (f ∷ without d fs) (without d late) done))
      at true is =
          spare_on S ks (fallen d l) x m (without d fs) (without d late) done
          (spare_fallen x m (f ∷ fs) (without d fs) late done (drops_first f fs late is) g)
      at false is = spare_fallen x m (f ∷ fs) (f ∷ without d fs) late done (drops_other f fs late) g

  -- THE NEXT CALL

  pub next_fallen : (phase : Phase) → NextAwaits S ks phase → NextAwaits S ks (dropped d phase)
  next_fallen Rest h = tt
  next_fallen (Going aim m step [] late done) h = tt
  next_fallen (Going aim m step (f ∷ fs) late done) h = at (f == d)
    where
      at : (b : Bool) → NextAwaits S ks (cond b (on_with aim m (without d fs) (without d late) done)
          (Going aim m step (f ∷ without d fs) (without d late) done))
      at true = next_on S ks aim m (without d fs) (without d late) done
      at false = h

  -- where the first drops out nothing of it is asked
  pub next_lost : (aim : Aim) (m : Laid) (step : Step) (ds late : List ℕ) (done : Bool)
      → NextAwaits S ks (dropped d (Going aim m step (d ∷ ds) late done))
  next_lost aim m step ds late done = at (d == d) (eq-eqb d d refl)
    where
      at : (b : Bool) → b ≡ true → NextAwaits S ks (cond b (on_with aim m (without d ds) (without d late) done)
          (Going aim m step (d ∷ without d ds) (without d late) done))
      at true is = next_on S ks aim m (without d ds) (without d late) done
      at false is = absurd cc
