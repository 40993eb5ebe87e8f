use Rattle.std.proofs.Common.{◌≡◌, drop}
use Rattle.imsm_base.specs.Parts.{behind_disks}
use Rattle.imsm_base.proofs.At.{place_of}
use Rattle.imsm_codec.proofs.volume.volume_from.Given as goal

abbrev pub invariant-loop-number : goal.invariant-loop-number
invariant-loop-number l = l.rest ≡ drop (place_of l._number (behind_disks l.bytes)) (behind_disks l.bytes)
