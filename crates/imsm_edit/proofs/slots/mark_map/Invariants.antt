use Rattle.imsm_edit.specs.Slots.{seen_with}
use Rattle.imsm_edit.proofs.Marking.{AreMarked}
use Rattle.imsm_edit.proofs.slots.mark_map.Given as goal

abbrev pub invariant-loop-slot : goal.invariant-loop-slot
invariant-loop-slot l = AreMarked l.v.0 l.m l.slot l.on (seen_with l.disks l.slots) l.fn.book l.book
