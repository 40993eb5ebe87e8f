use Rattle.std.proofs.Common.{◌+◌, ℕ, ◌∙◌, ap, arith}
use Rattle.std.specs.Prelude.{nat_le}
use Rattle.units.specs.declared.bounds.TheConstants.{METADATA_SECTORS}
use Rattle.imsm_base.specs.Layout.{Block}
use Rattle.imsm_codec.specs.Mpb.{block_bytes, block_of}
use Rattle.imsm_codec.proofs.Found.{disks_counted}
use Rattle.imsm_codec.proofs.Mirror.{no_sectors, some_sectors}
use Rattle.imsm_codec.proofs.words.has_sectors.Goals as goal

pub returns-then-from-index : goal.returns-then-from-index
returns-then-from-index c = λ m at.
    let b : Block = block_of c.args.mpb.now in
    let count = disks_counted (block_bytes c.args.mpb.now) in
    no_sectors b (c.args.pba + c.args.rows + METADATA_SECTORS) c.args.index m (omega arith) at

pub returns : goal.returns
returns c = λ m at.
    let b : Block = block_of c.args.mpb.now in
    let needed : ℕ = c.args.pba + c.args.rows + METADATA_SECTORS in
    let count = disks_counted (block_bytes c.args.mpb.now) in
    c.has_room.ensures ∙ ap (λ (n : ℕ). nat_le needed n) c.disk_blocks.ensures
    ∙ some_sectors b needed c.args.index m (omega arith) at
