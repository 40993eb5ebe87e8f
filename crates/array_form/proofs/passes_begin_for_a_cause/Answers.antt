use Rattle.array_form.proofs.PassStarts.{starts_in_each}
use Rattle.array_form.proofs.passes_begin_for_a_cause.Goals as goal

pub returns : goal.returns
returns c S P volumes spares o w run = starts_in_each S P volumes spares o w run
