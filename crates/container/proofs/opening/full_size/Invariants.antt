use Rattle.std.proofs.Common.{◌≡◌, ◌≤◌, ◌+◌, ◌*◌, take}
use Rattle.std.specs.List.{sum_by}
use Rattle.imsm_base.specs.Layout.{size_of}
use Rattle.imsm_codec.specs.Mpb.{block_of}
use Rattle.imsm_base.specs.Volumes.{second_map_bytes}
use Rattle.container.proofs.opening.full_size.Given as goal

abbrev pub invariant-loop-v : goal.invariant-loop-v
invariant-loop-v l = record {
  sized : l.size ≡ size_of (block_of l.mpb) + sum_by second_map_bytes (take l.v (block_of l.mpb).volumes);
  bound : l.size ≤ 8192 + 1068 * l.v;
}
