use Rattle.image_create.proofs.Making.{write_stopped}
use Rattle.image_create.proofs.laying.write.Goals as goal

pub returns-clause-err : goal.returns-clause-err
returns-clause-err g c =
    write_stopped (g.B.Bank.log c.args.bank.now) (g.B.Bank.log c.write.new.self) c.args.d.0 c.args.place c.args.sectors.now c.write.result c.write.ensures.logs
