use Rattle.std.specs.Prelude.{◌≡◌, true}
use Rattle.array_causes.proofs.FailureLaw.{failures_have_causes}
use Rattle.array_causes.proofs.failure_causes.Goals as goal

pub returns : goal.returns
returns c S P may_fail volumes spares o w run actors =
    failures_have_causes S P (λ d. may_fail d ≡ true) volumes spares o w run actors
