use Rattle.raid_map.proofs.Stripes.{items_are_placed, copies_are_items}
use Rattle.raid_map.proofs.sectors_are_items.Goals as goal

pub returns-clause-items : goal.returns-clause-items
returns-clause-items c shape level s some = items_are_placed shape level s some

pub returns-clause-copies : goal.returns-clause-copies
returns-clause-copies c shape s below = copies_are_items shape s below
