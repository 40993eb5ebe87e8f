use Rattle.std.proofs.Common.{sym, ◌∙◌, true}
use Rattle.std.proofs.lemmas.Bool.{false≢true}
use Rattle.imsm_base.specs.Layout.{Block}
use Rattle.imsm_base.specs.FirstForm.{IsFirstForm}
use Rattle.imsm_codec.specs.Mpb.{block_bytes, block_of}
use Rattle.imsm_codec.proofs.Found.{one_volume, volumes_counted}
use Rattle.imsm_codec.proofs.Mirror.{form_decided, not_one_volume, same_test}
use Rattle.imsm_codec.proofs.first_form.is_first_form.Goals as goal

pub returns-then-volumes-ne1 : goal.returns-then-volumes-ne1
returns-then-volumes-ne1 c =
    let b : Block = block_of c.args.mpb.now in (
      λ t. absurd (false≢true t),
      λ f. absurd (not_one_volume b (λ one. c.if-volumes-ne1.true (c.volumes.ensures ∙ sym (volumes_counted (block_bytes c.args.mpb.now)) ∙ one)) f),
    )

pub returns : goal.returns
returns c =
    let b : Block = block_of c.args.mpb.now in
    same_test c.all_hold.result _ (IsFirstForm b) c.all_hold.ensures
    (form_decided b c.from-one_sector.result c.tail_size-no_tail.result c.generation-startable.result c.disks-two_disks.result c.are_all_expected-expected.result c.is_clean_mirror-mirror.result (record {
      size_is = c.from-one_sector.ensures ∙ c.size.ensures;
      tail_is = c.tail_size-no_tail.ensures;
      generation_is = c.generation-startable.ensures;
      disks_is = c.disks-two_disks.ensures;
      expected_is = c.are_all_expected-expected.ensures;
      one = one_volume b.volumes (volumes_counted (block_bytes c.args.mpb.now) ∙ sym c.volumes.ensures ∙ c.if-volumes-ne1.false);
      mirror_is = c.is_clean_mirror-mirror.ensures;
    }))
