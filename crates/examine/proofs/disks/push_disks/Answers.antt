use Rattle.std.proofs.Common.{List, [], arith}
use Rattle.imsm_base.specs.Fields.{Part}
use Rattle.imsm_codec.specs.Mpb.{block_bytes, block_of}
use Rattle.imsm_codec.proofs.Found.{disks_counted}
use Rattle.examine.specs.Lines.{disk_line}
use Rattle.examine.proofs.Numbered.{numbered_more, numbered_all}
use Rattle.examine.proofs.disks.push_disks.Goals as goal

pub loop-i-preserved : goal.loop-i-preserved
loop-i-preserved c =
    let xs : List Part = (block_of c.args.mpb.now).disks in
    let count = disks_counted (block_bytes c.args.mpb.now) in
    numbered_more c.loop-i.i disk_line xs [] c.args.out.now.items c.loop-i.out.items c.push_disk.new.out.items (omega arith) c.loop-i.invariant c.in_ok-push_disk.ensures

pub returns : goal.returns
returns c =
    let xs : List Part = (block_of c.args.mpb.now).disks in
    let count = disks_counted (block_bytes c.args.mpb.now) in
    numbered_all c.loop-i.i disk_line xs c.args.out.now.items c.loop-i.out.items (omega arith) c.loop-i.invariant
