use Rattle.std.proofs.Common.{◌≡◌, drop}
use Rattle.std.specs.List.{list_all}
use Rattle.imsm_base.specs.Whole.{is_expected}
use Rattle.imsm_codec.specs.Mpb.{block_of}
use Rattle.imsm_codec.proofs.first_form.are_all_expected.Given as goal

abbrev pub invariant-loop-i : goal.invariant-loop-i
invariant-loop-i l = list_all is_expected (block_of l.mpb).disks ≡ list_all is_expected (drop l.i (block_of l.mpb).disks)
