use Rattle.std.proofs.Common.{◌≡◌, ◌≤◌, length, take}
use Rattle.std.specs.List.{flat_map}
use Rattle.imsm_base.specs.Fields.{Part}
use Rattle.imsm_codec.specs.Mpb.{block_of}
use Rattle.container.specs.Steps.{missing_as}
use Rattle.container.proofs.missing.list_missing.Given as goal

abbrev pub invariant-loop-i : goal.invariant-loop-i
invariant-loop-i l = record {
  found : l.out.items ≡ flat_map (λ (disk : Part). missing_as disk l.seen) (take l.i (block_of l.mpb).disks);
  count : length l.out.items ≤ l.i;
}
