use Rattle.image_create.proofs.Making.{sync_stopped}
use Rattle.image_create.proofs.laying.sync.Goals as goal

pub returns-clause-err : goal.returns-clause-err
returns-clause-err g c = sync_stopped (g.B.Bank.log c.args.bank.now) (g.B.Bank.log c.sync.new.self) c.args.d.0 c.sync.result c.sync.ensures.logs
