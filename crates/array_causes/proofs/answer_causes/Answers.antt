use Rattle.array_causes.proofs.AnswerLaw.{answers_have_causes}
use Rattle.array_causes.proofs.answer_causes.Goals as goal

pub returns : goal.returns
returns c S P volumes spares o w run = answers_have_causes S P volumes spares o w run
