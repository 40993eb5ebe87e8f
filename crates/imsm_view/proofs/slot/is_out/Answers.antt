use Rattle.std.proofs.Common.{◌≡◌, ◌||◌, Bool, false, sym, ◌∙◌, ap, arith}
use Rattle.std.proofs.lemmas.Bool.{ne_eqb}
use Rattle.std.proofs.Math.Bool.{or-false}
use Rattle.imsm_base.specs.Layout.{Block, Volume}
use Rattle.imsm_base.specs.Volumes.{first_map}
use Rattle.imsm_codec.specs.Mpb.{block_bytes, block_of, volume_at, map_at}
use Rattle.imsm_codec.proofs.Found.{maps_counted}
use Rattle.imsm_view.proofs.Members.{marks, maps_one, maps_two, alike_two, same_count, not_two, out_by_two}
use Rattle.imsm_view.proofs.Reasons.{alike}
use Rattle.imsm_view.proofs.slot.is_out.Goals as goal
use Rattle.imsm_codec.proofs.Mirror.{out_by_one}

pub is_marked-requires-then-maps-eq2-clause-slot :
    goal.is_marked-requires-then-maps-eq2-clause-slot
is_marked-requires-then-maps-eq2-clause-slot c =
    let b : Block = block_of c.args.mpb.now in
    let v : Volume = volume_at c.args.v.0 b in
    let counted = maps_counted (block_bytes c.args.mpb.now) c.args.v.0 c.requires.volume in
    let two = maps_two v counted (sym c.maps.ensures ∙ c.if-maps-eq2.true) in
    let same = same_count (first_map v) (map_at 1 v) (sym (alike_two v two) ∙ alike b v c.requires.geometry) in
    omega arith

pub returns-then-maps-eq2 : goal.returns-then-maps-eq2
returns-then-maps-eq2 c =
    let v : Volume = volume_at c.args.v.0 (block_of c.args.mpb.now) in
    let counted = maps_counted (block_bytes c.args.mpb.now) c.args.v.0 c.requires.volume in
    let two = maps_two v counted (sym c.maps.ensures ∙ c.if-maps-eq2.true) in
    let first : marks c.args.slot.0 (first_map v) ≡ false = sym c.is_marked.ensures ∙ c.if-is_marked.false in
    c.is_marked-then-maps-eq2.ensures ∙ sym (or-false (marks c.args.slot.0 (map_at 1 v)))
    ∙ sym (ap (λ (t : Bool). t || (marks c.args.slot.0 (map_at 1 v) || false)) first) ∙ sym (out_by_two v c.args.slot.0 two)

pub returns-else-maps-eq2 : goal.returns-else-maps-eq2
returns-else-maps-eq2 c =
    let v : Volume = volume_at c.args.v.0 (block_of c.args.mpb.now) in
    let counted = maps_counted (block_bytes c.args.mpb.now) c.args.v.0 c.requires.volume in
    let one = maps_one v counted (not_two v c.maps.result c.maps.ensures c.if-maps-eq2.false) in
    let first : marks c.args.slot.0 (first_map v) ≡ false = sym c.is_marked.ensures ∙ c.if-is_marked.false in
    ne_eqb c.maps.result 2 c.if-maps-eq2.false ∙ sym (ap (λ (t : Bool). t || false) first) ∙ sym (out_by_one v c.args.slot.0 one)
