use Rattle.std.proofs.Common.{sym}
use Rattle.imsm_base.proofs.Apart.{spells_apart}
use Rattle.imsm_base.proofs.Joined.{block_in-spelled}
use Rattle.imsm_codec.specs.Mpb.{block_bytes}
use Rattle.imsm_codec.proofs.law.views_are_spelled.Goals as goal

pub returns : goal.returns
returns c = record {
  parts = spells_apart (block_bytes c.args.mpb.now) c.args.mpb.now.laid.room;
  one = λ b s. sym (block_in-spelled (block_bytes c.args.mpb.now) b s);
}
