use Rattle.std.proofs.Common.{rules, ◌≡◌, ℕ, zero, suc, ◌==◌, ◌||◌, Bool, true, false, [], ◌∷◌, take, refl, subst, arith, inl, inr}
use Rattle.std.proofs.lemmas.Bool.Decides.{nat_tests}
use Rattle.array_model.specs.Blocks.{Laid}
use Rattle.array_model.specs.Rounds.{DurableOnWorking}
use Rattle.array_model.specs.FailureLaw.{WasMeant}
use Rattle.array_model.specs.Script.{sector_of}
use Rattle.array_model.specs.Small.{the_value, small_slot, small_expects}
use Rattle.array_model.specs.SmallFailures.{three_serials, activating_start, activating_log, activating_journal}
use Rattle.array_model.proofs.failure_examples.example_of_an_activation.Goals as goal

-- the round's block stands alone on the first disk, and calls the second failed
recorded : DurableOnWorking activating_start (activating_log 66) (take 4 activating_journal) (λ m. small_expects m (66 ∷ []) ≡ false)
recorded m finished zero working = record { some = omega arith; each = (refl, tt) }
recorded m finished (suc zero) working = absurd (let sound : true ≡ false = working.sound in cc sound)
recorded m finished (suc (suc zero)) working = absurd (let none : false ≡ true = working.expected in cc none)
recorded m finished (suc (suc (suc d))) working = absurd (let none : false ≡ true = working.expected in cc none)

-- no other disk has a fault
of_second : (d : ℕ) → ((1 == d) || false) ≡ true → 1 ≡ d
of_second d h = at (1 == d) refl h
  where
    at : (b : Bool) → (1 == d) ≡ b → (b || false) ≡ true → 1 ≡ d
    at true is h = grind (arith, nat_tests, is)
    at false is h = absurd cc

pub returns-clause-meets : goal.returns-clause-meets
returns-clause-meets c = (
  tt,
  (
    tt,
    (
      tt,
      (
        tt,
        (
          (λ done d meant faulty. subst (λ e. DurableOnWorking activating_start (activating_log 66) (take 4 activating_journal) (λ m. small_expects m (three_serials e) ≡ false)) (of_second d faulty) recorded),
          tt,
        ),
      ),
    ),
  ),
)

-- the second disk had the slot at opening
meant : WasMeant activating_start (activating_log 0) (take 4 activating_journal) (record { volume = 0; sector = 5; value = sector_of the_value }) 1
meant = record {
  calls = 0;
  early = [];
  late = take 4 activating_journal;
  block = activating_start.newest;
  moment = record { parts = refl; calls = omega arith; none_above = tt; all_below = search rules };
  finished = refl;
  slot = inr (record { words = small_slot activating_start.newest 1 (66 ∷ []); there = refl; same = refl; expected = refl });
}

pub returns-clause-expected : goal.returns-clause-expected
returns-clause-expected c law =
    let block : Laid = record { anchor = record { 0 = 2 ∷ 0 ∷ 0 ∷ 67 ∷ [] }; extended = [] } in
    let durable = law.acks.1.1.1.1.0 refl 1 meant refl block (0, refl, record { disk = 0; written = inl refl; generation = refl; container = refl }) 0 (record { expected = refl; sound = refl }) in
    let failed : true ≡ false = durable.each.0 in
    cc failed
