use Rattle.std.proofs.Common.{◌+◌, sym, ◌∙◌, ap, arith}
use Rattle.std.specs.List.{list_all}
use Rattle.units.specs.declared.bounds.TheConstants.{METADATA_SECTORS}
use Rattle.imsm_base.specs.Layout.{Block, Volume}
use Rattle.imsm_base.specs.Volumes.{has_sectors}
use Rattle.imsm_codec.specs.Mpb.{block_of, volume_at}
use Rattle.imsm_view.proofs.Members.{all_more, all_fails, all_taken}
use Rattle.imsm_view.proofs.geometry.have_sectors.Goals as goal

pub loop-slot-preserved : goal.loop-slot-preserved
loop-slot-preserved c =
    let b : Block = block_of c.args.mpb.now in
    let v : Volume = volume_at c.args.v.0 b in
    all_more (has_sectors b (c.args.pba + c.args.rows + METADATA_SECTORS)) v c.loop-slot.slot (omega arith) c.loop-slot.invariant
    (sym c.has_sectors.ensures ∙ c.if-not-has_sectors.false)

pub returns-then-not-has_sectors : goal.returns-then-not-has_sectors
returns-then-not-has_sectors c =
    let b : Block = block_of c.args.mpb.now in
    let v : Volume = volume_at c.args.v.0 b in
    sym (all_fails (has_sectors b (c.args.pba + c.args.rows + METADATA_SECTORS)) v c.loop-slot.slot (omega arith)
    (sym c.has_sectors.ensures ∙ c.if-not-has_sectors.true))

pub returns : goal.returns
returns c =
    let b : Block = block_of c.args.mpb.now in
    let v : Volume = volume_at c.args.v.0 b in
    sym c.loop-slot.invariant ∙ ap (list_all (has_sectors b (c.args.pba + c.args.rows + METADATA_SECTORS))) (all_taken v c.loop-slot.slot (omega arith))
