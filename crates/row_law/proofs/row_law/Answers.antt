use Rattle.row_law.proofs.Answers.{answers_reached}
use Rattle.row_law.proofs.Causes.{causes_reached}
use Rattle.row_law.proofs.row_law.Goals as goal

pub returns : goal.returns
returns c = record {
  answers = λ S w asks volume r. answers_reached S asks volume w r;
  calls = λ S w asks renews on volume fits r. causes_reached S asks renews on volume w fits r;
}
