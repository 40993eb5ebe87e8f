use Rattle.verdict_lines_law.proofs.Names.{names_tell}
use Rattle.verdict_lines_law.proofs.Tells.{words_tell}
use Rattle.verdict_lines_law.proofs.Spelled.{same_words}
use Rattle.verdict_lines_law.proofs.the_words_tell_the_verdict.Goals as goal

pub returns-clause-verdicts : goal.returns-clause-verdicts
returns-clause-verdicts c serials present v w own x y same = words_tell serials present own v w x y (same_words serials present v w same)

pub returns-clause-names : goal.returns-clause-names
returns-clause-names c = names_tell
