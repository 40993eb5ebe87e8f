use Rattle.std.proofs.Common.{◌≡◌, true, false, [], ◌∷◌, refl, arith, inl}
use Rattle.array_model.specs.Small.{small_words, small_disks, small_expects}
use Rattle.array_model.specs.SmallFailures.{untold_log}
use Rattle.array_model.proofs.Written.{written_passes}
use Rattle.array_model.proofs.SmallKeeps.{keeps_small}
use Rattle.array_model.proofs.failure_examples.example_of_failures_that_are_told.Goals as goal

-- a call that went through
went : {A : Type 0} → true ≡ false → A
went bad = absurd cc

pub returns-clause-meets : goal.returns-clause-meets
returns-clause-meets c = (went, (went, (went, (went, (went, (went, (went, (went, (went, ((λ bad. refl), (went, (went, (went, tt)))))))))))))

pub returns-clause-last : goal.returns-clause-last
returns-clause-last c = (went, ((λ bad. refl), tt))

pub returns-clause-untold : goal.returns-clause-untold
returns-clause-untold c told = let none : false ≡ true = told.1.0 refl in cc none

pub returns-clause-lets : goal.returns-clause-lets
returns-clause-lets c = record {
  acks = (tt, tt);
  calls = ((λ bad early. absurd cc), ((λ bad early. absurd (omega (arith, early))), tt));
  keeps = (
    (λ m last round finished. keeps_small _ last m
        (inl (written_passes small_words small_disks (λ s. refl) (λ m. small_expects m (65 ∷ [])) round.disk untold_log m refl round.written))
        (inl (written_passes small_words small_disks (λ s. refl) (λ m. small_expects m (66 ∷ [])) round.disk untold_log m refl round.written))),
    tt,
  );
  units = ((λ v since m none. absurd cc), tt);
}

pub returns-clause-late : goal.returns-clause-late
returns-clause-late c told = let none : false ≡ true = told.1.0 refl in cc none

pub returns-clause-other : goal.returns-clause-other
returns-clause-other c told = let none : false ≡ true = told.1.0 refl in cc none
