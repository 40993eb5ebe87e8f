use Rattle.std.proofs.Common.{arith}
use Rattle.raid_map.proofs.Xor.{xor_step}
use Rattle.raid_map.proofs.parity.xor_into.Goals as goal

pub loop-i-preserved : goal.loop-i-preserved
loop-i-preserved c =
    xor_step c.args.into.now.0 c.args.from.now.0 c.loop-i.into.0 c.loop-i.i (omega (arith, c.loop-i-test.true)) (omega (arith, c.loop-i-test.true, c.type_inv.from))
    c.loop-i.invariant
