use Rattle.std.proofs.Common.{sym, ◌∙◌, arith}
use Rattle.imsm_codec.specs.Mpb.{block_bytes}
use Rattle.container.proofs.Records.{listed_here, listed_past}
use Rattle.container.proofs.volume.is_listed.Goals as goal

pub returns-then-i-disks : goal.returns-then-i-disks
returns-then-i-disks c = c.is_record_listed.ensures ∙ sym (listed_here (block_bytes c.args.mpb.now) c.args.missing.now c.args.i (omega (arith, c.if-i-disks.true, c.disks.ensures)))

pub returns-else-i-disks : goal.returns-else-i-disks
returns-else-i-disks c = sym (listed_past (block_bytes c.args.mpb.now) c.args.missing.now c.args.i (omega (arith, c.if-i-disks.false, c.disks.ensures)))
