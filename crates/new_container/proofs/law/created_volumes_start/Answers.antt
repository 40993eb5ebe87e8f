use Rattle.new_container.proofs.Started.{created_volumes_are}
use Rattle.new_container.proofs.law.created_volumes_start.Goals as goal

pub returns : goal.returns
returns c = created_volumes_are
