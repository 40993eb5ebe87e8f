use Rattle.rest_law.proofs.Halts.{told_at_rest}
use Rattle.rest_law.proofs.Told.{rests_by_journal}
use Rattle.rest_law.proofs.rest_is_told.Goals as goal

pub returns-clause-told : goal.returns-clause-told
returns-clause-told c S w asks can volume alone r alive rest = told_at_rest S asks can w r alive rest volume alone

pub returns-clause-rests : goal.returns-clause-rests
returns-clause-rests c S w asks renews on volume fits r told = rests_by_journal S asks renews on volume w fits r told
