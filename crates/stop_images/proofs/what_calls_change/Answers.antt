use Rattle.stop_images.proofs.Steps.{more_calls, reads_change_nothing, sync_narrows}
use Rattle.stop_images.proofs.what_calls_change.Goals as goal

pub returns : goal.returns
returns c = record { sync = sync_narrows; reads = reads_change_nothing; more = more_calls }
