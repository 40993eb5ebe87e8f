use Rattle.array_answers.proofs.InSync.{reads_in_sync}
use Rattle.array_answers.proofs.reads_are_of_members_in_sync.Goals as goal

pub returns : goal.returns
returns c S P volumes spares opening w run = reads_in_sync S P volumes spares opening w run
