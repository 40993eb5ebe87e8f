use Rattle.std.proofs.Common.{sym, ◌∙◌, ◌≡◌, ap, subst}
use Rattle.imsm_base.specs.Whole.{IsWhole}
use Rattle.imsm_base.specs.Parts.{block_in}
use Rattle.units.specs.declared.disk.Sector.{Sector}
use Rattle.imsm_codec.specs.Given.{given_block}
use Rattle.image_verdict.specs.Reports.{first_block}
use Rattle.image_start.proofs.Found.{whole-first}
use Rattle.image_start.proofs.Images.{first-image}
use Rattle.image_start.proofs.block.first_block.Goals as goal

pub unwrap-requires : goal.unwrap-requires
unwrap-requires c =
    let images = c.args.images.now in
    let same : given_block c.first_anchor.result.now.0 ≡ first_block images =
    ap (λ (s : Sector). given_block s.0) c.first_anchor.ensures ∙ (first-image images c.requires.some c.requires.started).block in
    c.check.ensures.ok.1 (subst IsWhole (sym same) (block_in (first_block images), whole-first images c.requires))
