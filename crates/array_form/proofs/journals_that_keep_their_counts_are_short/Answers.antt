use Rattle.array_form.proofs.Short.{short}
use Rattle.array_form.proofs.journals_that_keep_their_counts_are_short.Goals as goal

pub returns : goal.returns
returns c start asked journal kept = short start asked journal kept
