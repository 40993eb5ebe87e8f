use Rattle.std.proofs.Common.{◌≡◌, ◌++◌}
use Rattle.imsm_codec.specs.Mpb.{block_of}
use Rattle.examine.specs.Lines.{disk_line}
use Rattle.examine.proofs.Numbered.{first_numbered}
use Rattle.examine.proofs.disks.push_disks.Given as goal

abbrev pub invariant-loop-i : goal.invariant-loop-i
invariant-loop-i l = l.out.items ≡ l.initial.out.items ++ first_numbered l.i disk_line (block_of l.mpb).disks
