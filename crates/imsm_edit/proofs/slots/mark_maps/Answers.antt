use Rattle.std.proofs.Common.{◌≡◌, ◌<◌, length, ◌∙◌, ap, arith}
use Rattle.imsm_base.specs.Layout.{Block, map_count_of}
use Rattle.imsm_codec.specs.Mpb.{volume_at}
use Rattle.imsm_codec.proofs.Found.{volumes_counted, maps_counted}
use Rattle.imsm_buffer.specs.Buffer.{parts_of}
use Rattle.imsm_edit.specs.Slots.{map_marked, seen_with}
use Rattle.imsm_edit.proofs.Marking.{one_done, both_done, second_asked}
use Rattle.imsm_edit.proofs.slots.mark_maps.Goals as goal

pub mark_map-requires-then-maps-eq2-clause-map : goal.mark_map-requires-then-maps-eq2-clause-map
mark_map-requires-then-maps-eq2-clause-map c =
    let b : Block = parts_of c.args.book.now in
    let count = volumes_counted c.args.book.now.bytes in
    let below : c.args.v.0 < length b.volumes = omega arith in
    let maps : c.maps-maps.result ≡ map_count_of (volume_at c.args.v.0 b) = c.maps-maps.ensures ∙ ap (λ (x : Block). map_count_of (volume_at c.args.v.0 x)) c.parts.ensures.parts in
    second_asked b (parts_of c.mark_map.new.book) c.args.v.0 c.maps-maps.result (map_marked c.args.on (seen_with c.args.disks.now c.args.slots.now)) below maps c.if-maps-eq2.true c.mark_map.ensures.block

pub returns-then-maps-eq2-clause-block : goal.returns-then-maps-eq2-clause-block
returns-then-maps-eq2-clause-block c =
    let b : Block = parts_of c.args.book.now in
    let maps : c.maps-maps.result ≡ map_count_of (volume_at c.args.v.0 b) = c.maps-maps.ensures ∙ ap (λ (x : Block). map_count_of (volume_at c.args.v.0 x)) c.parts.ensures.parts in
    both_done b (parts_of c.mark_map.new.book) (parts_of c.mark_map-then-maps-eq2.new.book) c.args.v.0 c.maps-maps.result c.args.on (seen_with c.args.disks.now c.args.slots.now)
    (maps_counted c.args.book.now.bytes c.args.v.0 c.requires) maps c.if-maps-eq2.true c.mark_map.ensures.block c.mark_map-then-maps-eq2.ensures.block

pub returns-else-maps-eq2-clause-block : goal.returns-else-maps-eq2-clause-block
returns-else-maps-eq2-clause-block c =
    let b : Block = parts_of c.args.book.now in
    let maps : c.maps-maps.result ≡ map_count_of (volume_at c.args.v.0 b) = c.maps-maps.ensures ∙ ap (λ (x : Block). map_count_of (volume_at c.args.v.0 x)) c.parts.ensures.parts in
    one_done b (parts_of c.mark_map.new.book) c.args.v.0 c.maps-maps.result c.args.on (seen_with c.args.disks.now c.args.slots.now)
    (maps_counted c.args.book.now.bytes c.args.v.0 c.requires) maps c.if-maps-eq2.false c.mark_map.ensures.block
