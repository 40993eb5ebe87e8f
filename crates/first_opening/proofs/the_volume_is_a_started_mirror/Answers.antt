use Rattle.first_opening.proofs.Volume.{first-volume}
use Rattle.first_opening.proofs.the_volume_is_a_started_mirror.Goals as goal

pub returns : goal.returns
returns c = first-volume
