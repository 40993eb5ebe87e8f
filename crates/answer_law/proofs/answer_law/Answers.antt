use Rattle.answer_law.proofs.Runs.{answers_honest}
use Rattle.answer_law.proofs.answer_law.Goals as goal

pub returns : goal.returns
returns c S w asks renews on volume holds fits h = answers_honest S asks renews on volume holds w fits h
