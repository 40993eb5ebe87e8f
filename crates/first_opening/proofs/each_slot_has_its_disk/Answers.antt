use Rattle.first_opening.proofs.Slots.{members-are, two-members}
use Rattle.first_opening.proofs.each_slot_has_its_disk.Goals as goal

pub returns : goal.returns
returns c = record { serials = members-are; two = two-members }
