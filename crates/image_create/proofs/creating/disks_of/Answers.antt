use Rattle.std.proofs.Common.{◌<◌, length, subst}
use Rattle.image_create.proofs.Listed.{one_more}
use Rattle.image_create.proofs.creating.disks_of.Goals as goal

pub loop-d-preserved : goal.loop-d-preserved
loop-d-preserved g c =
    let serials = g.B.Bank.serials c.args.bank.now in
    let sizes = g.B.Bank.sizes c.args.bank.now in
    let below : c.loop-d.d < length sizes = subst (λ n. c.loop-d.d < n) c.disks-d-end.ensures.count c.loop-d-test.true in
    let grown = one_more serials sizes c.loop-d.d c.serial.result c.serial.ensures below in
    record { listed = cc (c.in_ok-push.ensures.items, c.loop-d.invariant.listed, c.sectors.ensures, grown) }
