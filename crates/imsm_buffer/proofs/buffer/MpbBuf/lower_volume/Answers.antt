use Rattle.imsm_buffer.proofs.Lowered.{second_asked, both_done, one_done}
use Rattle.imsm_buffer.proofs.buffer.MpbBuf.lower_volume.Goals as goal

pub lower_map-requires-then-maps-eq2-clause-map : goal.lower_map-requires-then-maps-eq2-clause-map
lower_map-requires-then-maps-eq2-clause-map c =
    second_asked c.args.v.0 c.args.i c.maps-maps.result c.args.self.now c.lower_map.new.self c.parts.result.bytes.now _ c.parts.result.laid c.parts.ensures.bytes c.requires c.parts.ensures.parts c.maps-maps.ensures c.if-maps-eq2.true c.lower_map.ensures.block

pub returns-then-maps-eq2-clause-block : goal.returns-then-maps-eq2-clause-block
returns-then-maps-eq2-clause-block c =
    both_done c.args.v.0 c.args.i c.maps-maps.result c.args.self.now c.lower_map.new.self c.lower_map-then-maps-eq2.new.self c.parts.result.bytes.now _ c.parts.result.laid c.parts.ensures.bytes c.requires c.parts.ensures.parts c.maps-maps.ensures c.if-maps-eq2.true c.lower_map.ensures.block c.lower_map-then-maps-eq2.ensures.block

pub returns-else-maps-eq2-clause-block : goal.returns-else-maps-eq2-clause-block
returns-else-maps-eq2-clause-block c =
    one_done c.args.v.0 c.args.i c.maps-maps.result c.args.self.now c.lower_map.new.self c.parts.result.bytes.now _ c.parts.result.laid c.parts.ensures.bytes c.requires c.parts.ensures.parts c.maps-maps.ensures c.if-maps-eq2.false c.lower_map.ensures.block
