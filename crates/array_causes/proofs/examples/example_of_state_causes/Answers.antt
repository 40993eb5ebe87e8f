use Rattle.std.proofs.Common.{◌≡◌, true, false, refl}
use Rattle.array_causes.proofs.examples.example_of_state_causes.Goals as goal

pub returns-clause-busy : goal.returns-clause-busy
returns-clause-busy c = λ h.
    absurd (let answered : false ≡ true = h.1.1.1.1.1.1.1.1.0.1 0 refl refl in cc answered)

pub returns-clause-unanswered : goal.returns-clause-unanswered
returns-clause-unanswered c = λ h.
    absurd (let answered : false ≡ true = h.1.1.1.1.1.1.1.1.1.1.1.0.1 1 refl refl in cc answered)
