use Rattle.stage.proofs.Opened.{opened}
use Rattle.stage.proofs.stage.Stage.open.Goals as goal

pub invariant_of-result : goal.invariant_of-result
invariant_of-result g c =
    let p = c.in-Ok-plan_of.plan in
    let is = c.in-Ok-plan_of.ensures in
    opened p c.args.opening.newest _ c.args.opening.targets.items c.args.opening.members.items c.args.opening.pba c.args.opening.size c.args.limit (g.B.Bank.sizes c.args.bank) c.in-Ok-with_room.journal (g.B.Bank.opening c.args.bank) (g.B.Bank.log c.args.bank)
    (c.in-Ok.ensures p) is.1 is.2 is.3 is.4 c.requires.disks c.requires.generation c.requires.limit c.in-Ok-with_room.ensures c.requires.reads
