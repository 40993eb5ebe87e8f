use Rattle.std.proofs.Common.{arith}
use Rattle.image_incremental.proofs.Lined.{pushed_all, pushed_more}
use Rattle.image_incremental.proofs.text.push_arrivals.Goals as goal

pub loop-k-preserved : goal.loop-k-preserved
loop-k-preserved c =
    pushed_more c.args.serials.now c.args.verdicts.now c.loop-k.k c.index-verdicts-k.result c.args.out.now.items c.loop-k.out.items c.push_arrival.new.out.items
    (omega (arith, c.loop-k-test.true)) c.index-verdicts-k.is c.loop-k.invariant c.in_ok-push_arrival.ensures

pub returns : goal.returns
returns c = pushed_all c.args.serials.now c.args.verdicts.now c.loop-k.k c.args.out.now.items c.loop-k.out.items (omega (arith, c.loop-k-test.false)) c.loop-k.invariant
