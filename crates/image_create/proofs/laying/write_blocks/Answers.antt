use Rattle.std.proofs.Common.{length, arith}
use Rattle.image_create.specs.Calls.{block_calls}
use Rattle.image_create.proofs.Disks.{disk_made, disk_stopped}
use Rattle.image_create.proofs.Making.{kept_both}
use Rattle.image_create.proofs.laying.write_blocks.Goals as goal

pub returns-in-Err-clause-err : goal.returns-in-Err-clause-err
returns-in-Err-clause-err g c =
    let sizes = g.B.Bank.sizes c.args.bank.now in
    disk_stopped (block_calls c.args.sectors.now c.args.size) sizes (g.B.Bank.sizes c.loop-d.bank) (length sizes) c.loop-d.d c.loop-d.invariant.kept.sized (omega (arith, c.loop-d-test.true, c.disks-d-end.ensures.count))
    c.loop-d.invariant.made c.in-Err.ensures.err

pub loop-d-preserved : goal.loop-d-preserved
loop-d-preserved g c = record {
  made = disk_made (block_calls c.args.sectors.now c.args.size) (g.B.Bank.sizes c.args.bank.now) (g.B.Bank.sizes c.loop-d.bank) c.loop-d.d c.loop-d.invariant.kept.sized c.loop-d.invariant.made
      c.in_default.ensures.ok;
  kept = kept_both c.loop-d.invariant.kept c.write_block.ensures.kept;
}
