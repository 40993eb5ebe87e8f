use Rattle.std.proofs.Common.{List, sym, subst}
use Rattle.imsm_codec.specs.Mpb.{block_of}
use Rattle.container.specs.declared.missing.Missing.{Missing}
use Rattle.container.specs.Lacking.{AreMissing}
use Rattle.container.proofs.Lacking.{missing_is}
use Rattle.container.proofs.missing.missing_of.Goals as goal

pub returns : goal.returns
returns c =
    let disks = (block_of c.args.mpb.now).disks in
    subst (λ (list : List Missing). AreMissing c.args.seen.now disks list) (sym c.list_missing.ensures) (missing_is c.args.seen.now disks)
