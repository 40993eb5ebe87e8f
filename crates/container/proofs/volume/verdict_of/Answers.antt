use Rattle.std.proofs.Common.{◌∙◌, ap, inr, refl}
use Rattle.std.specs.Prelude.{map}
use Rattle.imsm_view.specs.declared.volume.SlotView.{SlotView}
use Rattle.std.proofs.Common.{List}
use Rattle.imsm_codec.specs.Mpb.{block_of, volume_at}
use Rattle.container.specs.Views.{count_out}
use Rattle.container.specs.Volumes.{is_listed}
use Rattle.container.proofs.Views.{counted_verdict}
use Rattle.container.proofs.volume.verdict_of.Goals as goal

pub returns-in-Ok : goal.returns-in-Ok
returns-in-Ok c =
    let b = block_of c.args.mpb.now in
    let out = is_listed b c.args.missing.now in
    inr (
      c.in-Ok.ensures.ok.0 refl,
      c.verdict_on.ensures ∙ counted_verdict b (volume_at c.args.v.0 b) c.in-Ok.volume out c.count_out-volume.result c.in-Ok.ensures.volume c.in-Ok.ensures.words
          (c.count_out-volume.ensures ∙ ap (λ (ss : List SlotView). map (count_out out) ss) c.as_slice.ensures.value),
    )
