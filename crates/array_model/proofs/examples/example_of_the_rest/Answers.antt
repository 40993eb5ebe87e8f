use Rattle.std.proofs.Common.{◌≡◌, true, false, refl}
use Rattle.array_model.proofs.examples.example_of_the_rest.Goals as goal

pub returns-clause-unrecorded : goal.returns-clause-unrecorded
returns-clause-unrecorded c rests =
    let owed : true ≡ false = rests.volumes 0 refl in
    cc owed
