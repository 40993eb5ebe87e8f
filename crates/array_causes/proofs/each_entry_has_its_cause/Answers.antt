use Rattle.std.specs.Prelude.{◌≡◌, true}
use Rattle.array_causes.proofs.FailureLaw.{failures_have_causes}
use Rattle.array_causes.proofs.UnblockLaw.{unblocks_are_recorded}
use Rattle.array_causes.proofs.StateLaw.{states_have_causes}
use Rattle.array_causes.proofs.AnswerLaw.{answers_have_causes}
use Rattle.array_causes.proofs.RoundLaw.{rounds_have_causes}
use Rattle.array_causes.proofs.PassLaw.{passes_have_causes}
use Rattle.array_causes.proofs.UpdateLaw.{updates_have_causes}
use Rattle.array_causes.proofs.each_entry_has_its_cause.Goals as goal

pub returns : goal.returns
returns c S P may_fail volumes spares o w run actors = record {
  failures = failures_have_causes S P (λ d. may_fail d ≡ true) volumes spares o w run actors;
  unblocks = unblocks_are_recorded S P volumes spares o w run;
  states = states_have_causes S P volumes spares o w run;
  answers = answers_have_causes S P volumes spares o w run;
  rounds = rounds_have_causes S P volumes spares o w run;
  passes = passes_have_causes S P volumes spares o w run;
  updates = updates_have_causes S P volumes spares o w run;
}
