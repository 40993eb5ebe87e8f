use Rattle.imsm_base.specs.Layout.{Block}
use Rattle.imsm_codec.specs.Mpb.{block_of, volume_at}
use Rattle.imsm_view.proofs.Words.{words_from}
use Rattle.imsm_view.proofs.view.volume_of.Goals as goal

pub returns-clause-words : goal.returns-clause-words
returns-clause-words c =
    let b : Block = block_of c.args.mpb.now in
    words_from b (volume_at c.args.v.0 b) c.view_of.result c.view_of.ensures
