use Rattle.std.proofs.Common.{◌≡◌, drop}
use Rattle.std.specs.Prelude.{find}
use Rattle.imsm_codec.specs.Mpb.{block_of}
use Rattle.imsm_codec.specs.Own.{is_own}
use Rattle.imsm_codec.proofs.whole_disk.first_own.Given as goal

abbrev pub invariant-loop-i : goal.invariant-loop-i
invariant-loop-i l =
    find (is_own l.only_expected l.own.0) (block_of l.mpb).disks ≡ find (is_own l.only_expected l.own.0) (drop l.i (block_of l.mpb).disks)
