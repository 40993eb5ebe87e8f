use Rattle.verdict_lines_law.proofs.Spelled.{same_words, verdict_read}
use Rattle.verdict_lines_law.proofs.the_text_tells_the_verdict.Goals as goal

pub returns-clause-words : goal.returns-clause-words
returns-clause-words c = verdict_read

pub returns-clause-same : goal.returns-clause-same
returns-clause-same c = same_words
