use Rattle.array_failures.proofs.ToldCalls.{failed_calls_told}
use Rattle.array_failures.proofs.no_failed_call_is_hidden.Goals as goal

pub returns : goal.returns
returns c S P volumes spares o w run = failed_calls_told S P volumes spares o w run
