use Rattle.std.proofs.Common.{◌≡◌, List, true, sym, ◌∙◌, ap, subst}
use Rattle.arrayvec.specs.ArrayVec.{ArrayVec}
use Rattle.imsm_codec.specs.Mpb.{block_of}
use Rattle.container.specs.declared.missing.Missing.{Missing}
use Rattle.container.specs.declared.volume.VolumeVerdict.{VolumeVerdict}
use Rattle.container.specs.Steps.{is_ready}
use Rattle.container.specs.Verdicts.{IsReady}
use Rattle.container.specs.Volumes.{AreVolumeVerdicts}
use Rattle.container.proofs.Ready.{ready_by}
use Rattle.container.proofs.judging.judge_on.Goals as goal

pub returns : goal.returns
returns c =
    let b = block_of c.args.mpb.now in
    let missing = c.missing_of-list.result.items in
    let volumes = c.verdicts_of-volumes.result in
    let are = subst (λ (l : List Missing). AreVolumeVerdicts b l volumes.items) c.as_slice.ensures.value c.verdicts_of-volumes.ensures in
    let test : is_ready c.args.run missing volumes.items ≡ true =
    sym (ap (λ (l : List Missing). is_ready c.args.run l c.as_slice-3.result.now) c.as_slice-2.ensures.value
    ∙ ap (λ (l : List VolumeVerdict). is_ready c.args.run missing l) c.as_slice-3.ensures.value)
    ∙ sym c.is_ready.ensures ∙ c.if-not-is_ready.false in
    let ready = ready_by c.args.run missing volumes.items test in (
      missing,
      c.missing_of-list.ensures,
      (
        c.requires.goes_on,
        subst (λ (v : ArrayVec VolumeVerdict). IsReady c.args.run missing v.items) (sym c.in_ok-open.ensures.volumes) ready,
        c.in_ok-open.ensures.opening missing are,
      ),
    )
