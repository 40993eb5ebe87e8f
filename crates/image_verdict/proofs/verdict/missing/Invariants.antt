use Rattle.std.proofs.Common.{◌≡◌, ◌≤◌, length, map, take, filter, not}
use Rattle.imsm_base.specs.Layout.{serial_of}
use Rattle.imsm_codec.specs.Mpb.{block_of}
use Rattle.image_verdict.specs.Reports.{bytes_of_all, is_there}
use Rattle.image_verdict.proofs.verdict.missing.Given as goal

abbrev pub invariant-loop-i : goal.invariant-loop-i
invariant-loop-i l = record {
  found : bytes_of_all l.missing.items ≡ filter (λ s. not (is_there l.images s)) (map serial_of (take l.i (block_of l.mpb).disks));
  count : length l.missing.items ≤ l.i;
}
