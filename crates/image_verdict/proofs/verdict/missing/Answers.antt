use Rattle.std.proofs.Common.{◌<◌, ◌≡◌, length, arith}
use Rattle.imsm_base.specs.Layout.{disk_count_of}
use Rattle.imsm_codec.specs.Mpb.{block_bytes, block_of}
use Rattle.image_verdict.proofs.Tables.{all_missing, count_more, missing_more}
use Rattle.image_verdict.proofs.verdict.missing.Goals as goal
use Rattle.imsm_codec.proofs.Found.{disks_counted}

pub loop-i-preserved : goal.loop-i-preserved
loop-i-preserved c =
    let b = block_of c.args.mpb.now in
    let count : length b.disks ≡ disk_count_of b = disks_counted (block_bytes c.args.mpb.now) in
    let below : c.loop-i.i < length b.disks = omega (arith, c.disks-i-end.ensures, count) in
    record {
      found = missing_more c.args.images.now b.disks c.loop-i.i c.loop-i.missing.items c.push_missing.new.missing.items c.disk_serial.result below c.disk_serial.ensures c.push_missing.ensures c.loop-i.invariant.found;
      count = count_more c.args.images.now c.loop-i.i c.loop-i.missing.items c.push_missing.new.missing.items c.disk_serial.result c.push_missing.ensures c.loop-i.invariant.count;
    }

pub returns : goal.returns
returns c = all_missing c.args.images.now (block_bytes c.args.mpb.now) c.loop-i.i c.loop-i.missing.items (omega (arith, c.disks-i-end.ensures)) c.loop-i.invariant.found
