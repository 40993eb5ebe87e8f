use Rattle.std.proofs.Common.{List, arith}
use Rattle.imsm_base.specs.Layout.{Volume}
use Rattle.imsm_codec.specs.Mpb.{block_bytes, block_of, blank_volume}
use Rattle.imsm_codec.proofs.Found.{volumes_counted}
use Rattle.examine.specs.Lines.{volume_lines}
use Rattle.examine.proofs.Numbered.{numbered_more, numbered_all}
use Rattle.examine.proofs.volumes.push_volumes.Goals as goal

pub loop-v-preserved : goal.loop-v-preserved
loop-v-preserved c =
    let xs : List Volume = (block_of c.args.mpb.now).volumes in
    let count = volumes_counted (block_bytes c.args.mpb.now) in
    numbered_more c.loop-v.v volume_lines xs blank_volume c.args.out.now.items c.loop-v.out.items c.push_volume.new.out.items (omega arith) c.loop-v.invariant c.in_ok-push_volume.ensures

pub returns : goal.returns
returns c =
    let xs : List Volume = (block_of c.args.mpb.now).volumes in
    let count = volumes_counted (block_bytes c.args.mpb.now) in
    numbered_all c.loop-v.v volume_lines xs c.args.out.now.items c.loop-v.out.items (omega arith) c.loop-v.invariant
