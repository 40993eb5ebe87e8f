use Rattle.std.proofs.Common.{sym, ◌∙◌}
use Rattle.std.proofs.lemmas.Bool.{eq-eqb}
use Rattle.imsm_base.specs.Layout.{Volume}
use Rattle.imsm_codec.specs.Mpb.{block_bytes, block_of, volume_at}
use Rattle.imsm_codec.proofs.Found.{maps_counted}
use Rattle.imsm_view.proofs.Members.{maps_one, maps_two, alike_one, alike_two, not_one}
use Rattle.imsm_view.proofs.geometry.are_alike.Goals as goal

pub returns-then-maps-eq1 : goal.returns-then-maps-eq1
returns-then-maps-eq1 c =
    let v : Volume = volume_at c.args.v.0 (block_of c.args.mpb.now) in
    let counted = maps_counted (block_bytes c.args.mpb.now) c.args.v.0 c.requires in
    eq-eqb c.maps.result 1 c.if-maps-eq1.true ∙ sym (alike_one v (maps_one v counted (sym c.maps.ensures ∙ c.if-maps-eq1.true)))

pub returns-else-maps-eq1 : goal.returns-else-maps-eq1
returns-else-maps-eq1 c =
    let v : Volume = volume_at c.args.v.0 (block_of c.args.mpb.now) in
    let counted = maps_counted (block_bytes c.args.mpb.now) c.args.v.0 c.requires in
    c.is_like.ensures ∙ sym (alike_two v (maps_two v counted (not_one v c.maps.result c.maps.ensures c.if-maps-eq1.false)))
