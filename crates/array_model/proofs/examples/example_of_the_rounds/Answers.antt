use Rattle.std.proofs.Common.{◌≡◌, ℕ, [], take, slice_index, refl, ap, arith, inl}
use Rattle.array_model.specs.Blocks.{Laid}
use Rattle.array_model.specs.Small.{block, small_start, worked_log}
use Rattle.array_model.proofs.SmallFacts.{on_both}
use Rattle.array_model.proofs.examples.example_of_the_rounds.Goals as goal

abbrev of_generation : ℕ → Laid → Type 0
of_generation g m = small_start.words.generation m.anchor ≡ g

pub returns-clause-meets : goal.returns-clause-meets
returns-clause-meets c = (
  tt,
  (
    on_both (of_generation 2) (take 4 worked_log) _ (record { some = omega arith; each = (refl, tt) }) (record { some = omega arith; each = (refl, tt) }),
    (
      tt,
      (
        tt,
        (
          tt,
          (
            tt,
            (
              on_both (of_generation 3) (take 8 worked_log) _ (record { some = omega arith; each = (refl, tt) }) (record { some = omega arith; each = (refl, tt) }),
              (
                tt,
                (
                  tt,
                  (
                    tt,
                    (
                      tt,
                      (
                        tt,
                        (
                          tt,
                          (
                            tt,
                            (on_both (of_generation 4) worked_log _ (record { some = omega arith; each = (refl, tt) }) (record { some = omega arith; each = (refl, tt) }), tt),
                          ),
                        ),
                      ),
                    ),
                  ),
                ),
              ),
            ),
          ),
        ),
      ),
    ),
  ),
)

-- the block of the first round
abbrev first_round : Laid
first_round = record { anchor = block 2 0 0; extended = [] }

pub returns-clause-unspread : goal.returns-clause-unspread
returns-clause-unspread c law =
    let durable = law.1.0 first_round (0, refl, record { disk = 0; written = inl refl; generation = refl; container = refl }) 1 (record { expected = refl; sound = refl }) in
    let second : 1 ≡ 2 = durable.each.0 in
    cc second

pub returns-clause-unsettled : goal.returns-clause-unsettled
returns-clause-unsettled c law =
    let durable = law.1.0 first_round (0, refl, record { disk = 0; written = inl refl; generation = refl; container = refl }) 1 (record { expected = refl; sound = refl }) in
    let second : 1 ≡ 2 = durable.each.1.0 in
    cc second

-- what stands first on the second disk in the last round, and the block of the round before
abbrev dirty_twin : Laid
dirty_twin = record { anchor = block 4 1 0; extended = [] }

abbrev before_last : Laid
before_last = record { anchor = block 3 1 0; extended = [] }

pub returns-clause-twins : goal.returns-clause-twins
returns-clause-twins c law =
    let same : dirty_twin ≡ record { anchor = block 4 0 0; extended = [] } =
    law.1.1.1.1.1.1.1.1.1.1.1.1.1.0 dirty_twin before_last (record { disk = 1; written = inl refl; generation = refl; container = refl }) (4, refl, record { disk = 0; written = inl refl; generation = refl; container = refl }) in
    let dirty : 1 ≡ 0 = ap (λ m. slice_index m.anchor.0 1) same in
    cc dirty
