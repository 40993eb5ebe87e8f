use Rattle.journal_text.proofs.Apart.{journal_apart, line_apart}
use Rattle.journal_text.proofs.law.lines_spell_one_journal.Goals as goal

pub returns-clause-entry : goal.returns-clause-entry
returns-clause-entry c = line_apart

pub returns-clause-journal : goal.returns-clause-journal
returns-clause-journal c = journal_apart
