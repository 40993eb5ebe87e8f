use Rattle.std.proofs.Common.{sym, ◌∙◌}
use Rattle.imsm_base.specs.Layout.{Block, Volume}
use Rattle.imsm_base.specs.FirstForm.{IsCleanMirror}
use Rattle.imsm_codec.specs.Mpb.{block_bytes, block_of, volume_at}
use Rattle.imsm_codec.proofs.Found.{one_volume, volumes_counted}
use Rattle.imsm_codec.proofs.Mirror.{mirror_decided, same_test}
use Rattle.imsm_codec.proofs.first_form.is_clean_mirror.Goals as goal

pub returns : goal.returns
returns c =
    let b : Block = block_of c.args.mpb.now in
    let v : Volume = volume_at 0 b in
    same_test c.all_hold.result _ (IsCleanMirror b v) c.all_hold.ensures
    (mirror_decided b v c.has_policy-policy.result c.dirty-dirty.result c.has_good_slots-slots.result c.has_geometry-geometry.result c.is_any_out-out.result c.map_state-normal.result (record {
      one = one_volume b.volumes (volumes_counted (block_bytes c.args.mpb.now) ∙ c.requires);
      level = sym c.is_level_one.ensures ∙ c.if-not-is_level_one.false;
      idle = sym c.has_pass.ensures ∙ c.if-has_pass.false;
      policy = c.has_policy-policy.ensures;
      dirty = c.dirty-dirty.ensures;
      normal = c.map_state-normal.ensures;
      slots = c.has_good_slots-slots.ensures;
      geometry = c.has_geometry-geometry.ensures;
      out = c.is_any_out-out.ensures;
    }))
