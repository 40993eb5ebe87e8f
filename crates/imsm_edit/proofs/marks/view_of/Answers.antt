use Rattle.std.proofs.Common.{◌≡◌, None, sym, subst}
use Rattle.imsm_base.specs.Layout.{Block}
use Rattle.imsm_base.specs.Volumes.{volume_fault}
use Rattle.imsm_codec.specs.Mpb.{volume_at}
use Rattle.imsm_edit.proofs.marks.view_of.Goals as goal

pub unwrap-requires : goal.unwrap-requires
unwrap-requires c =
    c.volume_of.ensures.ok.1
    (subst (λ (x : Block). volume_fault x c.args.v.0 (volume_at c.args.v.0 x) ≡ None) (sym c.parts.ensures.parts) c.requires.supported)
