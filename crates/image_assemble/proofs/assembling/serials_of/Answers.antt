use Rattle.image_assemble.proofs.Fresh.{taken_more}
use Rattle.image_assemble.proofs.assembling.serials_of.Goals as goal

pub loop-d-preserved : goal.loop-d-preserved
loop-d-preserved g c =
    taken_more (g.B.Bank.serials c.args.bank.now) c.loop-d.d c.serial.result c.loop-d.serials.items c.push.new.self.items c.serial.ensures c.loop-d.invariant c.push.ensures.items
