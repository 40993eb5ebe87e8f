use Rattle.std.proofs.Common.{◌≡◌, ◌++◌}
use Rattle.imsm_codec.specs.Mpb.{block_of, volume_at}
use Rattle.examine.specs.Lines.{map_lines}
use Rattle.examine.proofs.Numbered.{first_numbered}
use Rattle.examine.proofs.maps.push_maps.Given as goal

abbrev pub invariant-loop-m : goal.invariant-loop-m
invariant-loop-m l = l.out.items ≡ l.initial.out.items ++ first_numbered l.m map_lines (volume_at l.v.0 (block_of l.mpb)).maps
