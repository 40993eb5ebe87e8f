use Rattle.array_form.proofs.Waits.{waits_in_each}
use Rattle.array_form.proofs.volumes_wait_behind_their_submits.Goals as goal

pub returns : goal.returns
returns c S P volumes spares o w run = waits_in_each S P volumes spares o w run
