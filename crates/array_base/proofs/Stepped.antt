-- A call of a round or of a spare's write that went through: what goes on stands at its next step.
use Rattle.std.proofs.Common.{◌≡◌, ℕ, ◌==◌, ◌||◌, Bool, true, false, List, [], ◌∷◌, refl, subst, eqb-true}
use Rattle.array_model.specs.Blocks.{Laid}
use Rattle.array_model.specs.Candidates.{Disk, In}
use Rattle.array_disks.specs.Held.{IsSole}
use Rattle.array_machine.specs.Setting.{Setting}
use Rattle.array_machine.specs.Numbers.{has}
use Rattle.array_machine.specs.Rounds.{Step, AtExtended, AtAnchor, AtSync, OfRound, OfSpare, Going, expects, stepped, given_if, gives}
use Rattle.array_base.specs.Premises.{MayBeBook, Premises}
use Rattle.array_base.specs.Base.{Ledger, HoldsCurrent, IsKnown, is_left, RoundGoes, SpareGoes, Core, BaseFact}
use Rattle.array_base.proofs.Targets.{left_first}
use Rattle.array_base.proofs.OnWith.{round_on, spare_on, next_on}
use Rattle.array_base.proofs.RowCalls.{round_is_book}
use Rattle.array_base.proofs.BlockCalls.{Certain}

-- the blocks that disks were given are others
abbrev pub with_given : Ledger → (ℕ → Laid) → Ledger
with_given l given = record {
  book = l.book;
  last = l.last;
  note = l.note;
  first = l.first;
  ended = l.ended;
  faults = l.faults;
  given = given;
}

module _ (S : Setting) (ks : ℕ → Disk) (l : Ledger) (given : ℕ → Laid) where
  core_given : (P : Premises S) → ((d : ℕ) → MayBeBook S P.edits.formed (given d)) → ((d : ℕ) → IsKnown S ks (given d))
      → Core S P ks l → Core S P ks (with_given l given)
  core_given P books known core = record {
    known = let k = core.known in record { account = k.account; blocks = k.blocks; noted = k.noted; twins = k.twins };
    working = λ d trusted. current d (core.working d trusted);
    generations =
        let g = core.generations in
        record { last = g.last; newest = g.newest; above = g.above; first = g.first; none_ended = g.none_ended };
    hand =
        let h = core.hand in
        record { book = h.book; last = h.last; last_known = h.last_known; given = books; given_known = known };
  }
    where
      current : (d : ℕ) → HoldsCurrent S ks l d → HoldsCurrent S ks (with_given l given) d
      current d h = record {
        some = h.some;
        candidates = λ a i. let c = h.candidates a i in record { container = c.container; young = c.young };
        expected = λ e a i c. h.expected e a i (record { container = c.container; young = c.young });
        in_book = h.in_book;
      }

  round_given : (m : Laid) (left late : List ℕ) (done : Bool) → RoundGoes S ks l m left late done
      → RoundGoes S ks (with_given l given) m left late done
  round_given m left late done g = record {
    book = g.book;
    top = g.top;
    above = g.above;
    alone = g.alone;
    finished = g.finished;
    begun = g.begun;
    known = g.known;
    targets = g.targets;
  }

  spare_given : (x : ℕ) (m : Laid) (left late : List ℕ) (done : Bool) → SpareGoes S ks l x m left late done
      → SpareGoes S ks (with_given l given) x m left late done
  spare_given x m left late done g = record {
    settled = g.settled;
    only = g.only;
    idle = g.idle;
    block = g.block;
    held = g.held;
  }

-- a target that is left is left with one more before it
more_left : (S : Setting) (d e : ℕ) (ds late : List ℕ) → is_left S ds late e ≡ true → is_left S (d ∷ ds) late e ≡ true
more_left S d e ds late h = at (d == e) (has e ds) (has e late) h
  where
    at : (a b c : Bool) → (b || c) ≡ true → ((a || b) || c) ≡ true
    at true b c h = refl
    at false b c h = h

module _ (S : Setting) (P : Premises S) (ks : ℕ → Disk) (l : Ledger) (m : Laid) (d : ℕ) (ds late : List ℕ)
    (done : Bool) where
  -- A ROUND

  module _ (core : Core S P ks l) (g : RoundGoes S ks l m (d ∷ ds) late done) where
    book : MayBeBook S P.edits.formed m
    book = round_is_book S P ks l m (d ∷ ds) late done core g

    -- the disk was given the block
    given_book : (e : ℕ) → MayBeBook S P.edits.formed (given_if (d == e) m (l.given e))
    given_book e = at (d == e)
      where
        at : (b : Bool) → MayBeBook S P.edits.formed (given_if b m (l.given e))
        at true = book
        at false = core.hand.given e

    given_known : In m (ks d).known → (e : ℕ) → IsKnown S ks (given_if (d == e) m (l.given e))
    given_known there e = at (d == e)
      where
        at : (b : Bool) → IsKnown S ks (given_if b m (l.given e))
        at true = record { disk = d; there = there }
        at false = core.hand.given_known e

    -- the first target finished
    round_done : IsSole (ks d) m → RoundGoes S ks l m ds late true
    round_done sole = record {
      book = g.book;
      top = g.top;
      above = g.above;
      alone = g.alone;
      finished = λ e expected sound gone. at e expected sound gone (d == e) refl;
      begun = λ ended none. absurd cc;
      known = λ is. record { disk = d; there = (core.known.account d).known m sole.there };
      targets = λ e left. g.targets e (more_left S d e ds late left);
    }
      where
        at : (e : ℕ) → expects S m e ≡ true → has e l.faults ≡ false → is_left S ds late e ≡ false
            → (b : Bool) → (d == e) ≡ b → IsSole (ks e) m
        at e expected sound gone true is = subst (λ z. IsSole (ks z) m) (eqb-true d e is) sole
        at e expected sound gone false is = g.finished e expected sound (rw is gone)

    pub round_stepped : (step : Step) → Certain S [] d m step (ks d)
        → BaseFact S P ks (with_given l (gives (Going OfRound m step (d ∷ ds) late done) l.given))
        (stepped (Going OfRound m step (d ∷ ds) late done))
    round_stepped AtExtended certain = record {
      core = core_given S ks l l.given P core.hand.given core.hand.given_known core;
      goes = round_given S ks l l.given m (d ∷ ds) late done g;
      next = certain;
    }
    round_stepped AtAnchor certain = record {
      core = core_given S ks l (gives (Going OfRound m AtAnchor (d ∷ ds) late done) l.given) P given_book
          (given_known certain.known) core;
      goes = round_given S ks l (gives (Going OfRound m AtAnchor (d ∷ ds) late done) l.given) m (d ∷ ds) late done g;
      next = certain;
    }
    round_stepped AtSync certain = record {
      core = core_given S ks l l.given P core.hand.given core.hand.given_known core;
      goes = round_on S ks (with_given l l.given) m ds late true
          (round_given S ks l l.given m ds late true (round_done certain));
      next = next_on S ks OfRound m ds late true;
    }

  -- A SPARE'S WRITE

  module _ (y : ℕ) (core : Core S P ks l) (g : SpareGoes S ks l y m (d ∷ ds) late done) where
    spare_done : IsSole (ks d) m → SpareGoes S ks l y m ds late true
    spare_done sole = record {
      settled = g.settled;
      only = λ e left. g.only e (more_left S d e ds late left);
      idle = g.idle;
      block = g.block;
      held = λ is. subst (λ z. IsSole (ks z) m) (g.only d (left_first S d ds late)) sole;
    }

    pub spare_stepped : (step : Step) → Certain S [] d m step (ks d)
        → BaseFact S P ks (with_given l (gives (Going (OfSpare y) m step (d ∷ ds) late done) l.given))
        (stepped (Going (OfSpare y) m step (d ∷ ds) late done))
    spare_stepped AtExtended certain = record {
      core = core_given S ks l l.given P core.hand.given core.hand.given_known core;
      goes = spare_given S ks l l.given y m (d ∷ ds) late done g;
      next = certain;
    }
    spare_stepped AtAnchor certain = record {
      core = core_given S ks l l.given P core.hand.given core.hand.given_known core;
      goes = spare_given S ks l l.given y m (d ∷ ds) late done g;
      next = certain;
    }
    spare_stepped AtSync certain = record {
      core = core_given S ks l l.given P core.hand.given core.hand.given_known core;
      goes = spare_on S ks (with_given l l.given) y m ds late true
          (spare_given S ks l l.given y m ds late true (spare_done certain));
      next = next_on S ks (OfSpare y) m ds late true;
    }
