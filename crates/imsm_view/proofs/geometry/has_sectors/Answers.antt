use Rattle.std.proofs.Common.{◌+◌, ℕ, sym, ◌∙◌, ap, arith}
use Rattle.std.specs.Prelude.{nat_le}
use Rattle.units.specs.declared.bounds.TheConstants.{METADATA_SECTORS}
use Rattle.imsm_base.specs.Layout.{Block, total_blocks_of}
use Rattle.imsm_base.specs.Volumes.{Member, member}
use Rattle.imsm_codec.specs.Mpb.{block_bytes, block_of, volume_at}
use Rattle.imsm_codec.proofs.Found.{disks_counted}
use Rattle.imsm_view.proofs.Members.{of_record, of_no_record, sectors_at}
use Rattle.imsm_view.proofs.geometry.has_sectors.Goals as goal

pub returns-in-None : goal.returns-in-None
returns-in-None c =
    let b : Block = block_of c.args.mpb.now in
    let count = disks_counted (block_bytes c.args.mpb.now) in
    let needed : ℕ = c.args.pba + c.args.rows + METADATA_SECTORS in
    let m : Member = member (volume_at c.args.v.0 b) c.args.slot.0 in
    let past = c.in-None.ensures in
    of_no_record (λ d. nat_le needed (total_blocks_of d)) b m.index (omega arith)

pub returns-in-Some : goal.returns-in-Some
returns-in-Some c =
    let b : Block = block_of c.args.mpb.now in
    let needed : ℕ = c.args.pba + c.args.rows + METADATA_SECTORS in
    let count = disks_counted (block_bytes c.args.mpb.now) in
    let m : Member = member (volume_at c.args.v.0 b) c.args.slot.0 in
    let index : ℕ = c.in-Some.index in
    let below = c.in-Some.ensures.1 in
    c.holds.ensures ∙ ap (λ (n : ℕ). nat_le needed n) c.disk_blocks.ensures
    ∙ of_record (λ d. nat_le needed (total_blocks_of d)) b index (omega arith) ∙ sectors_at b needed index m (sym c.in-Some.ensures.0)
