use Rattle.stop_images.proofs.After.{after_is_left}
use Rattle.stop_images.proofs.what_stands_may_be_left.Goals as goal

pub returns : goal.returns
returns c = after_is_left
