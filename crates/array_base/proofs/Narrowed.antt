-- A call that brings no block keeps what holds of the disks: candidates narrow, and known blocks stay.
use Rattle.std.proofs.Common.{◌≡◌, ℕ, Bool, List, sym, subst}
use Rattle.array_model.specs.Blocks.{Laid}
use Rattle.array_model.specs.Candidates.{Disk, In}
use Rattle.array_disks.specs.Held.{IsSole, AccountForEnd}
use Rattle.array_disks.specs.Changes.{Narrows}
use Rattle.array_machine.specs.Setting.{Setting}
use Rattle.array_machine.specs.Rounds.{OfRound, OfSpare, Phase, Rest, Going}
use Rattle.array_base.specs.Premises.{Premises}
use Rattle.array_base.specs.Base.{Ledger, KnownAreSound, HoldsCurrent, InHand, IsKnown, RoundGoes, SpareGoes, Goes, Core}

module _ (S : Setting) (ks ls : ℕ → Disk) (narrows : Narrows S.start.words ks ls) where
  -- a known block was known, and is known on
  known_before : (d : ℕ) (a : Laid) → In a (ls d).known → In a (ks d).known
  known_before d a i = subst (In a) (narrows.known d) i

  known_on : (m : Laid) → IsKnown S ks m → IsKnown S ls m
  known_on m k = record { disk = k.disk; there = subst (In m) (sym (narrows.known k.disk)) k.there }

  pub sole_narrows : (d : ℕ) (m : Laid) → IsSole (ks d) m → IsSole (ls d) m
  sole_narrows d m sole =
      let left = narrows.some d (m, sole.there) in
      record {
        there = subst (λ (a : Laid). In a (ls d).candidates) (only left.0 left.1) left.1;
        only = only;
      }
    where
      only : (a : Laid) → In a (ls d).candidates → a ≡ m
      only a i = sole.only a (narrows.candidates d a i)

  module _ (l : Ledger) where
    known_narrows : ((d : ℕ) → AccountForEnd (S.start.disks.sectors d) (ls d)) → KnownAreSound S ks l
        → KnownAreSound S ls l
    known_narrows account k = record {
      account = account;
      blocks = λ d a i. k.blocks d a (known_before d a i);
      noted = λ d a i. k.noted d a (known_before d a i);
      twins = λ d e a b i j. k.twins d e a b (known_before d a i) (known_before e b j);
    }

    current_narrows : (d : ℕ) → HoldsCurrent S ks l d → HoldsCurrent S ls l d
    current_narrows d h = record {
      some = narrows.some d h.some;
      candidates = λ a i. h.candidates a (narrows.candidates d a i);
      expected = λ e a i. h.expected e a (known_before e a i);
      in_book = h.in_book;
    }

    hand_narrows : (formed : Laid → Bool) → InHand S formed ks l → InHand S formed ls l
    hand_narrows formed h = record {
      book = h.book;
      last = h.last;
      last_known = known_on l.last h.last_known;
      given = h.given;
      given_known = λ d. known_on (l.given d) (h.given_known d);
    }

    pub core_narrows : (P : Premises S) → ((d : ℕ) → AccountForEnd (S.start.disks.sectors d) (ls d)) → Core S P ks l
        → Core S P ls l
    core_narrows P account core = record {
      known = known_narrows account core.known;
      working = λ d trusted. current_narrows d (core.working d trusted);
      generations = core.generations;
      hand = hand_narrows P.edits.formed core.hand;
    }

    round_narrows : (m : Laid) (left late : List ℕ) (done : Bool) → RoundGoes S ks l m left late done
        → RoundGoes S ls l m left late done
    round_narrows m left late done g = record {
      book = g.book;
      top = g.top;
      above = g.above;
      alone = λ e a i. g.alone e a (known_before e a i);
      finished = λ d expected sound gone. sole_narrows d m (g.finished d expected sound gone);
      begun = g.begun;
      known = λ is. known_on m (g.known is);
      targets = g.targets;
    }

    spare_narrows : (x : ℕ) (m : Laid) (left late : List ℕ) (done : Bool) → SpareGoes S ks l x m left late done
        → SpareGoes S ls l x m left late done
    spare_narrows x m left late done g = record {
      settled = g.settled;
      only = g.only;
      idle = g.idle;
      block = g.block;
      held = λ is. sole_narrows x m (g.held is);
    }

    pub goes_narrows : (phase : Phase) → Goes S ks l phase → Goes S ls l phase
    goes_narrows Rest g = g
    goes_narrows (Going OfRound m step left late done) g = round_narrows m left late done g
    goes_narrows (Going (OfSpare x) m step left late done) g = spare_narrows x m left late done g
