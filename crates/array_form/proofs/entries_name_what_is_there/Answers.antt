use Rattle.array_form.proofs.Names.{names_in_each}
use Rattle.array_form.proofs.entries_name_what_is_there.Goals as goal

pub returns : goal.returns
returns c S P volumes spares o w run = names_in_each S P volumes spares o w run
