use Rattle.stage.proofs.Kept.{bank_on}
use Rattle.image_replay.proofs.runs.run_out.Goals as goal

pub returns-in-Over-clause-bank : goal.returns-in-Over-clause-bank
returns-in-Over-clause-bank g c =
    bank_on g.B.Bank.serials g.B.Bank.sizes g.B.Bank.log g.B.Bank.faults_of c.args.stage.now c.drive.new.self c.drain.new.self c.drive.ensures.bank c.drain.ensures.bank
