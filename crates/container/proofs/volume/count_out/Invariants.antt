use Rattle.std.proofs.Common.{◌≡◌, map, take}
use Rattle.imsm_codec.specs.Mpb.{block_of}
use Rattle.container.specs.Views.{count_out}
use Rattle.container.specs.Volumes.{is_listed}
use Rattle.container.proofs.volume.count_out.Given as goal

abbrev pub invariant-loop-slot : goal.invariant-loop-slot
invariant-loop-slot l = l.list.items ≡ map (count_out (is_listed (block_of l.mpb) l.missing)) (take l.slot-index l.slots)
