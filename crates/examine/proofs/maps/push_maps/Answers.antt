use Rattle.std.proofs.Common.{List, arith}
use Rattle.imsm_base.specs.Layout.{Map}
use Rattle.imsm_base.specs.Volumes.{blank_map}
use Rattle.imsm_codec.specs.Mpb.{block_bytes, block_of, volume_at}
use Rattle.imsm_codec.proofs.Found.{maps_counted}
use Rattle.examine.specs.Lines.{map_lines}
use Rattle.examine.proofs.Numbered.{numbered_more, numbered_all}
use Rattle.examine.proofs.maps.push_maps.Goals as goal

pub loop-m-preserved : goal.loop-m-preserved
loop-m-preserved c =
    let xs : List Map = (volume_at c.args.v.0 (block_of c.args.mpb.now)).maps in
    let count = maps_counted (block_bytes c.args.mpb.now) c.args.v.0 c.requires in
    numbered_more c.loop-m.m map_lines xs blank_map c.args.out.now.items c.loop-m.out.items c.push_map_lines.new.out.items (omega arith) c.loop-m.invariant c.in_ok-push_map_lines.ensures

pub returns : goal.returns
returns c =
    let xs : List Map = (volume_at c.args.v.0 (block_of c.args.mpb.now)).maps in
    let count = maps_counted (block_bytes c.args.mpb.now) c.args.v.0 c.requires in
    numbered_all c.loop-m.m map_lines xs c.args.out.now.items c.loop-m.out.items (omega arith) c.loop-m.invariant
