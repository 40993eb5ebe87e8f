use Rattle.std.proofs.Common.{◌≡◌, ◌++◌}
use Rattle.imsm_codec.specs.Mpb.{block_of}
use Rattle.examine.specs.Lines.{volume_lines}
use Rattle.examine.proofs.Numbered.{first_numbered}
use Rattle.examine.proofs.volumes.push_volumes.Given as goal

abbrev pub invariant-loop-v : goal.invariant-loop-v
invariant-loop-v l = l.out.items ≡ l.initial.out.items ++ first_numbered l.v volume_lines (block_of l.mpb).volumes
