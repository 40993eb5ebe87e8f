use Rattle.std.proofs.Common.{◌≡◌, ◌<◌, length, arith}
use Rattle.imsm_base.specs.Fields.{Part}
use Rattle.imsm_base.specs.Layout.{disk_count_of}
use Rattle.imsm_codec.specs.Mpb.{block_bytes, block_of}
use Rattle.container.specs.Steps.{missing_as}
use Rattle.imsm_codec.proofs.Found.{disks_counted}
use Rattle.container.proofs.Records.{all_of, one_more}
use Rattle.container.proofs.missing.list_missing.Goals as goal

pub loop-i-preserved : goal.loop-i-preserved
loop-i-preserved c =
    let b = block_of c.args.mpb.now in
    let count : length b.disks ≡ disk_count_of b = disks_counted (block_bytes c.args.mpb.now) in
    let below : c.loop-i.i < length b.disks = omega (arith, c.disks-i-end.ensures, count) in
    record {
      found = one_more (λ (disk : Part). missing_as disk c.args.seen.now) b.disks c.loop-i.i c.loop-i.out.items c.push_missing.new.out.items below c.loop-i.invariant.found c.push_missing.ensures.items;
      count = omega (arith, c.push_missing.ensures.len, c.loop-i.invariant.count);
    }

pub returns : goal.returns
returns c =
    all_of (λ (disk : Part). missing_as disk c.args.seen.now) (block_bytes c.args.mpb.now) c.loop-i.i c.loop-i.out.items (omega (arith, c.disks-i-end.ensures)) c.loop-i.invariant.found
