use Rattle.verdict_law.proofs.Opened.{verdict_keeps}
use Rattle.verdict_law.proofs.Ready.{verdict_is_ready}
use Rattle.verdict_law.proofs.verdict_law.Goals as goal

pub returns-clause-keeps : goal.returns-clause-keeps
returns-clause-keeps c = verdict_keeps

pub returns-clause-ready : goal.returns-clause-ready
returns-clause-ready c = verdict_is_ready
