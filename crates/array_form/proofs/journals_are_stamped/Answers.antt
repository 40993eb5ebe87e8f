use Rattle.array_form.proofs.Stamped.{stamped}
use Rattle.array_form.proofs.journals_are_stamped.Goals as goal

pub returns : goal.returns
returns c S P volumes spares o w run = stamped S P volumes spares o w run
