use Rattle.journal_law.proofs.Form.{is_journal}
use Rattle.journal_law.proofs.journal_law.Goals as goal

pub returns : goal.returns
returns c S w asks renews on fits r = is_journal S asks renews on w fits r
