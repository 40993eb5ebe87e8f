use Rattle.std.proofs.Common.{sym, ◌∙◌, arith}
use Rattle.imsm_base.specs.Whole.{is_expected}
use Rattle.imsm_codec.specs.Mpb.{block_bytes, block_of}
use Rattle.imsm_codec.proofs.Found.{list_all_past, disks_counted}
use Rattle.imsm_codec.proofs.first_form.are_all_expected.Goals as goal

pub returns : goal.returns
returns c =
    let count = disks_counted (block_bytes c.args.mpb.now) in
    sym (c.loop-i.invariant ∙ list_all_past is_expected (block_of c.args.mpb.now).disks c.loop-i.i (omega arith))
