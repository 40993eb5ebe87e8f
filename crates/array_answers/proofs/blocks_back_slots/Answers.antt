use Rattle.array_answers.proofs.InSync.{slots_hold}
use Rattle.array_answers.proofs.blocks_back_slots.Goals as goal

pub returns : goal.returns
returns c S P volumes spares opening w run = slots_hold S P volumes spares opening w run
