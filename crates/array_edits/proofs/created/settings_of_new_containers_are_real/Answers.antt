use Rattle.array_edits.proofs.Given.{setting_is_real}
use Rattle.array_edits.proofs.created.settings_of_new_containers_are_real.Goals as goal

pub returns : goal.returns
returns c = setting_is_real
