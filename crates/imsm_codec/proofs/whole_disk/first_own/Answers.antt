use Rattle.std.proofs.Common.{List, [], sym, ◌∙◌, arith}
use Rattle.imsm_base.specs.Fields.{Part}
use Rattle.imsm_codec.specs.Mpb.{block_bytes, block_of}
use Rattle.imsm_codec.specs.Own.{is_own}
use Rattle.imsm_codec.proofs.Found.{find_here, find_past, disks_counted}
use Rattle.imsm_codec.proofs.whole_disk.first_own.Goals as goal

pub returns-then-is_own : goal.returns-then-is_own
returns-then-is_own c =
    let ds : List Part = (block_of c.args.mpb.now).disks in
    let count = disks_counted (block_bytes c.args.mpb.now) in
    (omega arith, c.loop-i.invariant ∙ find_here (is_own c.args.only_expected c.args.own.now.0) ds c.loop-i.i [] (omega arith) (sym c.is_own.ensures ∙ c.if-is_own.true))

pub returns : goal.returns
returns c =
    let ds : List Part = (block_of c.args.mpb.now).disks in
    let count = disks_counted (block_bytes c.args.mpb.now) in
    c.loop-i.invariant ∙ find_past (is_own c.args.only_expected c.args.own.now.0) ds c.loop-i.i (omega arith)
