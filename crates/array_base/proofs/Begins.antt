-- A round begins, or the write of a spare's block.
use Rattle.std.proofs.Common.{◌≡◌, ℕ, ◌+◌, ◌==◌, ◌||◌, ◌&&◌, not, nat_le, Bool, true, false, [], ◌∷◌, refl, sym, subst, arith, inl, inr, eqb-true}
use Rattle.std.specs.Prelude.{filter}
use Rattle.std.specs.List.{range_with_len}
use Rattle.std.proofs.lemmas.Bool.Decides.{nat_tests}
use Rattle.units.specs.declared.bounds.TheConstants.{METADATA_SECTORS}
use Rattle.array_model.specs.Blocks.{Laid}
use Rattle.array_model.specs.Candidates.{Disk}
use Rattle.array_machine.specs.Setting.{Setting}
use Rattle.array_machine.specs.Numbers.{has}
use Rattle.array_machine.specs.Rounds.{OfRound, OfSpare, expects, is_late, is_target, targets, late_targets}
use Rattle.array_machine.specs.Control.{Control}
use Rattle.array_machine.specs.Changes.{RoundBegins, SpareBegins}
use Rattle.array_machine.specs.Puts.{put}
use Rattle.array_paths.specs.InTurn.{InTurn}
use Rattle.array_paths.specs.MayEdit.{IsNext}
use Rattle.array_paths.specs.Comes.{MayFail}
use Rattle.array_base.specs.Premises.{generation_of, MayBeBook, IsSpareBlock, Premises}
use Rattle.array_base.specs.Opening.{counts_out}
use Rattle.array_base.specs.Base.{Ledger, ledger, IsTrusted, HoldsCurrent, is_left, RoundGoes, IsSettled, Core, BaseFact}
use Rattle.array_base.proofs.Targets.{or_cases, or_neither, has_passes, passes_has, and_not}
use Rattle.array_base.proofs.OnWith.{round_on, next_on}
use Rattle.array_base.proofs.NextBlock.{next_generation, next_is_book, next_expects}

module _ (S : Setting) (P : Premises S) (ks : ℕ → Disk) (t : InTurn) (c : Control) where
  -- WHAT A TRUSTED DISK IS

  pub trusted_parts : (l : Ledger) (d : ℕ) → IsTrusted S l d
      → (expects S l.last d ≡ true) × (has d l.faults ≡ false) × ((l.first && counts_out S d) ≡ false)
  trusted_parts l d trusted =
      let outer = and_not (expects S l.last d && not (has d l.faults)) (l.first && counts_out S d) trusted in
      let inner = and_not (expects S l.last d) (has d l.faults) outer.0 in
      (inner.0, inner.1, outer.1)

  -- A ROUND

  module _ (m : Laid) (next : IsNext S t c m) (core : Core S P ks (ledger c.round)) where
    is_book : MayBeBook S P.edits.formed m
    is_book = next_is_book S P t c m next core.hand.book

    generation : generation_of S m ≡ c.round.note + 1
    generation = next_generation S P t c m next core.hand.book

    abbrev begun : Ledger
    begun = ledger (put S (RoundBegins m) c).round

    core_begin : Core S P ks begun
    core_begin = record {
      known = let k = core.known in record {
        account = k.account;
        blocks = k.blocks;
        noted = λ d a i is. let le = k.noted d a i is in omega (arith, le);
        twins = k.twins;
      };
      working = λ d trusted. current d trusted (core.working d trusted);
      generations = let g = core.generations in record {
        last = let le = g.last in omega (arith, le);
        newest = let le = g.newest in omega (arith, le);
        above = g.above;
        first = g.first;
        none_ended = g.none_ended;
      };
      hand = let h = core.hand in record {
        book = is_book;
        last = h.last;
        last_known = h.last_known;
        given = h.given;
        given_known = h.given_known;
      };
    }
      where
        current : (d : ℕ) → IsTrusted S (ledger c.round) d → HoldsCurrent S ks (ledger c.round) d
            → HoldsCurrent S ks begun d
        current d trusted h = record {
          some = h.some;
          candidates = λ a i. let x = h.candidates a i in record { container = x.container; young = x.young };
          expected = λ e a i x. h.expected e a i (record { container = x.container; young = x.young });
          in_book = next_expects S P t c m next core.hand.book d (trusted_parts (ledger c.round) d trusted).1 h.in_book;
        }

    -- TARGETS

    abbrev in_time : ℕ → Bool
    in_time d = is_target S c.round m d && not (is_late S c.round d)

    abbrev comes_late : ℕ → Bool
    comes_late d = is_target S c.round m d && is_late S c.round d

    target_is : (d : ℕ) → expects S m d ≡ true → has d c.round.faults ≡ false → is_target S c.round m d ≡ true
    target_is d expected sound = rw (expected, sound) refl

    listed : (test : ℕ → Bool) (d : ℕ) → expects S m d ≡ true → test d ≡ true
        → has d (filter test (range_with_len 0 S.start.disks.count)) ≡ true
    listed test d expected is =
        let below = P.named m d is_book.form expected in
        passes_has test 0 S.start.disks.count d (omega arith) (omega (arith, below)) is

    -- a disk that the block expects and that has no fault is left
    left_of_all : (d : ℕ) → expects S m d ≡ true → has d c.round.faults ≡ false
        → is_left S (targets S c.round m) (late_targets S c.round m) d ≡ false → ⊥
    left_of_all d expected sound gone = at (is_late S c.round d) refl
      where
        none : (has d (targets S c.round m) ≡ false) × (has d (late_targets S c.round m) ≡ false)
        none = or_neither (has d (targets S c.round m)) (has d (late_targets S c.round m)) gone

        at : (b : Bool) → is_late S c.round d ≡ b → ⊥
        at true late =
            let there = listed comes_late d expected (rw (target_is d expected sound, late) refl) in
            cc (there, none.1)
        at false late =
            let there = listed in_time d expected (rw (target_is d expected sound, late) refl) in
            cc (there, none.0)

    expected_of : (d : ℕ) → is_target S c.round m d ≡ true → expects S m d ≡ true
    expected_of d is = (and_not (expects S m d) (has d c.round.faults) is).0

    first_part : (a b : Bool) → (a && b) ≡ true → a ≡ true
    first_part true b h = refl
    first_part false b h = absurd cc

    round_begin : RoundGoes S ks begun m (targets S c.round m) (late_targets S c.round m) false
    round_begin = record {
      book = refl;
      top = generation;
      above = let le = core.generations.newest in omega (arith, generation, le);
      alone = λ e a i is equal. absurd (let le = core.known.noted e a i is in omega (arith, le, equal, generation));
      finished = λ d expected sound gone. absurd (left_of_all d expected sound gone);
      begun = λ ended none d trusted. timely d ended trusted;
      known = λ is. absurd cc;
      targets = λ d left. elim (or_cases (has d (targets S c.round m)) (has d (late_targets S c.round m)) left) [
        | inl is ↦
            expected_of d (first_part (is_target S c.round m d) (not (is_late S c.round d))
            (has_passes in_time (range_with_len 0 S.start.disks.count) d is))
        | inr is ↦
            expected_of d (first_part (is_target S c.round m d) (is_late S c.round d)
            (has_passes comes_late (range_with_len 0 S.start.disks.count) d is))
      ];
    }
      where
        later : (b : Bool) → c.round.first ≡ b → c.round.ended ≡ true → c.round.first ≡ false
        later false is ended = is
        later true is ended = absurd (let none = core.generations.none_ended is in cc (none, ended))

        timely : (d : ℕ) → c.round.ended ≡ true → IsTrusted S (ledger c.round) d → has d (targets S c.round m) ≡ true
        timely d ended trusted =
            let parts = trusted_parts (ledger c.round) d trusted in
            let expected = next_expects S P t c m next core.hand.book d parts.1 (core.working d trusted).in_book in
            let first = later c.round.first refl ended in
            let soon : is_late S c.round d ≡ false = rw (parts.0, first) refl in
            listed in_time d expected (rw (target_is d expected parts.1, soon) refl)

    pub base_begin : BaseFact S P ks (ledger (put S (RoundBegins m) c).round) (put S (RoundBegins m) c).round.phase
    base_begin = record {
      core = core_begin;
      goes = round_on S ks begun m (targets S c.round m) (late_targets S c.round m) false round_begin;
      next = next_on S ks OfRound m (targets S c.round m) (late_targets S c.round m) false;
    }

  -- A SPARE'S WRITE

  pub base_begin_spare : (d : ℕ) (m : Laid) → IsSettled S (ledger c.round) → MayFail S c d
      → m ≡ S.spare c.round.book d → S.start.words.has_record c.round.book (S.start.disks.serial d) ≡ false
      → nat_le METADATA_SECTORS (S.start.disks.sectors d) ≡ true → Core S P ks (ledger c.round)
      → BaseFact S P ks (ledger (put S (SpareBegins d m) c).round) (put S (SpareBegins d m) c).round.phase
  base_begin_spare d m settled may is unlisted room core = record {
    core = core;
    goes = record {
      settled = settled;
      only = λ e left. sym (only e left);
      idle = λ trusted.
          let expected = (core.working d trusted).in_book in
          let none = P.recorded c.round.book (S.start.disks.serial d) core.hand.book.form unlisted in
          cc (none, expected);
      block = subst (IsSpareBlock S d) (sym is)
          (P.spare c.round.book d core.hand.book.form may.there (grind (arith, nat_tests, room)));
      held = λ h. absurd cc;
    };
    next = next_on S ks (OfSpare d) m (d ∷ []) [] false;
  }
    where
      only : (e : ℕ) → is_left S (d ∷ []) [] e ≡ true → d ≡ e
      only e left = at (d == e) refl left
        where
          at : (b : Bool) → (d == e) ≡ b → ((b || false) || false) ≡ true → d ≡ e
          at true same h = eqb-true d e same
          at false same h = absurd cc
