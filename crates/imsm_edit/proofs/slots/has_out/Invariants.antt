use Rattle.std.proofs.Common.{◌≡◌, take, false}
use Rattle.std.specs.List.{list_any}
use Rattle.imsm_base.specs.Volumes.{members}
use Rattle.imsm_codec.specs.Mpb.{volume_at}
use Rattle.imsm_buffer.specs.Buffer.{parts_of}
use Rattle.imsm_edit.proofs.slots.has_out.Given as goal

abbrev pub invariant-loop-slot : goal.invariant-loop-slot
invariant-loop-slot l = list_any (λ m. m.is_out) (take l.slot (members (volume_at l.v.0 (parts_of l.book)))) ≡ false
