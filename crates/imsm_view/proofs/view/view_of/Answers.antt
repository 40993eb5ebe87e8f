use Rattle.imsm_base.specs.Layout.{Block}
use Rattle.imsm_codec.specs.Mpb.{block_of, volume_at}
use Rattle.imsm_view.proofs.Reasons.{supported_by}
use Rattle.imsm_view.proofs.view.view_of.Goals as goal

pub slots_of-requires-clause-geometry : goal.slots_of-requires-clause-geometry
slots_of-requires-clause-geometry c =
    let b : Block = block_of c.args.mpb.now in
    (supported_by b c.args.v.0 (volume_at c.args.v.0 b) c.requires.supported).1
