use Rattle.std.proofs.Common.{arith}
use Rattle.examine.proofs.Numbered.{numbered_more, numbered_all}
use Rattle.verdict_text.specs.Lines.{volume_line}
use Rattle.verdict_text.proofs.volumes.push_volumes.Goals as goal

pub loop-v-preserved : goal.loop-v-preserved
loop-v-preserved c = numbered_more c.loop-v.v volume_line c.args.list.now _ c.args.out.now.items c.loop-v.out.items c.push_volume.new.out.items (omega (arith, c.loop-v-test.true)) c.loop-v.invariant c.in_ok-push_volume.ensures

pub returns : goal.returns
returns c = numbered_all c.loop-v.v volume_line c.args.list.now c.args.out.now.items c.loop-v.out.items (omega (arith, c.loop-v-test.false)) c.loop-v.invariant
