use Rattle.std.proofs.Common.{length}
use Rattle.verdict_text.proofs.Pushed.{below_both, past_one, pushed_more, pushed_all}
use Rattle.verdict_text.proofs.disks.push_disks.Goals as goal

pub loop-k-preserved : goal.loop-k-preserved
loop-k-preserved c =
    let both = below_both c.loop-k.k (length c.args.present.now) (length c.args.roles.now) c.min-k-end.result c.min-k-end.ensures c.loop-k-test.true in
    pushed_more c.args.present.now c.args.roles.now c.loop-k.k _ _ c.args.out.now.items c.loop-k.out.items c.push_disk.new.out.items both.0 both.1 c.loop-k.invariant c.in_ok-push_disk.ensures

pub returns : goal.returns
returns c =
    pushed_all c.args.present.now c.args.roles.now c.loop-k.k c.args.out.now.items c.loop-k.out.items
    (past_one c.loop-k.k (length c.args.present.now) (length c.args.roles.now) c.min-k-end.result c.min-k-end.ensures c.loop-k-test.false) c.loop-k.invariant
