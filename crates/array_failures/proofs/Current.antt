-- What holds of the book and of each known block that may count holds on: through the call of an effect, where a round
-- begins with a block of which it holds, where a round ends, and where the monitor goes on with a disk's block.
use Rattle.std.proofs.Common.{◌≡◌, ℕ, ◌≤◌, nat_le, Bool, true, List, [], ◌∷◌, sym, subst, arith, inl, inr}
use Rattle.std.proofs.lemmas.Bool.Decides.{nat_tests}
use Rattle.array_model.specs.Blocks.{Laid}
use Rattle.array_model.specs.Candidates.{Disk, In}
use Rattle.array_machine.specs.Setting.{Setting}
use Rattle.array_machine.specs.Rounds.{Step, AtAnchor, Aim, OfRound, OfSpare, Going}
use Rattle.array_machine.specs.Control.{Control}
use Rattle.array_base.specs.Premises.{generation_of, IsContainer, Premises}
use Rattle.array_base.specs.CallDoes.{CallDoes, narrows, brings}
use Rattle.array_base.specs.Base.{ledger, RoundGoes, Goes, Between}
use Rattle.array_failures.specs.Members.{OfEachCurrent}

module _ (S : Setting) (P : Premises S) (c : Control) where
  -- a round that goes on
  pub round_goes : (ks : ℕ → Disk) (m : Laid) (step : Step) (left late : List ℕ) (done : Bool)
      → c.round.phase ≡ Going OfRound m step left late done → Between S P ks (ledger c.round) c.round.phase
      → RoundGoes S ks (ledger c.round) m left late done
  round_goes ks m step left late done is b = subst (Goes S ks (ledger c.round)) is b.goes

  -- where it ends, the known blocks that may count are its own
  pub ended_known : (ks : ℕ → Disk) (m : Laid) (step : Step) → c.round.phase ≡ Going OfRound m step [] [] true
      → Between S P ks (ledger c.round) c.round.phase → (e : ℕ) (a : Laid) → In a (ks e).known → IsContainer S a
      → generation_of S m ≤ generation_of S a → a ≡ m
  ended_known ks m step is b e a i container young =
      let goes = round_goes ks m step [] [] true is b in
      let most = b.core.known.noted e a i container in
      let top = goes.top in
      goes.alone e a i container (omega (arith, most, top, young))

  module _ (Q : Laid → Type 0) where
    -- by the last finished round that there is
    abbrev pub OfCurrent : (ks : ℕ → Disk) → Laid → Type 0
    OfCurrent ks book = OfEachCurrent S Q ks book c.round.last

    -- THE CALL

    brought : (ks : ℕ → Disk) (aim : Aim) (a m : Laid) (step : Step) (left late : List ℕ) (done : Bool)
        → Goes S ks (ledger c.round) (Going aim m step left late done) → IsContainer S a → a ≡ m
        → Q c.round.book → Q a
    brought ks OfRound a m step left late done goes container same book =
        subst Q (sym same) (subst Q goes.book book)
    brought ks (OfSpare x) a m step left late done goes container same book =
        absurd (let spare = goes.block.spare in cc (spare, same, container))

    -- behind a call: the block that comes is the book, or a spare's
    pub current_call : (ks ls : ℕ → Disk) → CallDoes S c.round.phase ks ls → Goes S ks (ledger c.round) c.round.phase
        → OfCurrent ks c.round.book → OfCurrent ls c.round.book
    current_call ks ls (narrows n) goes h = record {
      of_book = h.of_book;
      of_known = λ e a i. h.of_known e a (subst (In a) (n.known e) i);
    }
    current_call ks ls (brings aim m f ds late done is adds) goes h = record {
      of_book = h.of_book;
      of_known = λ e a i container young. elim (adds.known e a i) [
        | inl old ↦ h.of_known e a old container young
        | inr new ↦
            brought ks aim a m AtAnchor (f ∷ ds) late done (subst (Goes S ks (ledger c.round)) is goes) container new.1
            h.of_book
      ];
    }

    -- CHANGES

    module _ (ks : ℕ → Disk) (b : Between S P ks (ledger c.round) c.round.phase) where
      -- a round ends
      pub current_ends : (m : Laid) (step : Step) → c.round.phase ≡ Going OfRound m step [] [] true → Q c.round.book
          → OfEachCurrent S Q ks c.round.book m
      current_ends m step is book = record {
        of_book = book;
        of_known = λ e a i container young.
            let goes = round_goes ks m step [] [] true is b in
            subst Q (sym (ended_known ks m step is b e a i container young)) (subst Q goes.book book);
      }

      -- the monitor goes on with the block that a disk was given last
      pub current_resumes : (d : ℕ)
          → nat_le (generation_of S c.round.last) (generation_of S (c.round.given d)) ≡ true
          → OfCurrent ks c.round.book → OfCurrent ks (c.round.given d)
      current_resumes d young h =
          let known = b.core.hand.given_known d in
          let le : generation_of S c.round.last ≤ generation_of S (c.round.given d) =
          grind (arith, nat_tests, young) in
          record {
            of_book = h.of_known known.disk (c.round.given d) known.there (b.core.hand.given d).container le;
            of_known = h.of_known;
          }
