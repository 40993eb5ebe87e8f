use Rattle.std.proofs.Common.{◌≡◌, ℕ, List, Some, subst, sym}
use Rattle.std.specs.Prelude.{slice_get}
use Rattle.imsm_codec.specs.Mpb.{block_of, volume_at}
use Rattle.container.specs.declared.volume.VolumeVerdict.{VolumeVerdict}
use Rattle.container.specs.Volumes.{IsVolumeVerdict, is_listed}
use Rattle.container.proofs.Lists.{count_more, each_more}
use Rattle.container.proofs.volume.verdicts_of.Goals as goal

pub loop-v-preserved : goal.loop-v-preserved
loop-v-preserved c =
    let b = block_of c.args.mpb.now in
    let before = c.loop-v.list.items in
    let says : ℕ → VolumeVerdict → Type 0 = λ k v. IsVolumeVerdict b (is_listed b c.args.missing.now) k (volume_at k b) v in
    record {
      count = count_more before c.push.new.self.items c.verdict_of.result c.loop-v.v c.push.ensures.items c.loop-v.invariant.count;
      each = λ k v is. each_more says before c.verdict_of.result c.loop-v.invariant.each (subst (λ k. says k c.verdict_of.result) (sym c.loop-v.invariant.count) c.verdict_of.ensures) k v
          (subst (λ (l : List VolumeVerdict). slice_get l k ≡ Some v) c.push.ensures.items is);
    }
