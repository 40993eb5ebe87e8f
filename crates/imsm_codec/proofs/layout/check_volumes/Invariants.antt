use Rattle.std.proofs.Common.{◌≡◌, drop}
use Rattle.imsm_base.specs.Parts.{behind_disks, volumes_in, volumes_room}
use Rattle.imsm_codec.specs.Checked.{HasRoomFor}
use Rattle.imsm_codec.proofs.layout.check_volumes.Given as goal

abbrev pub invariant-loop-i : goal.invariant-loop-i
invariant-loop-i l = record {
  inside : HasRoomFor l.i l.bytes;
  rest : l.rest ≡ drop (volumes_room (volumes_in l.i (behind_disks l.bytes))) (behind_disks l.bytes);
}
