use Rattle.raid_map.proofs.Stripes.{placed_below, none_past}
use Rattle.raid_map.proofs.each_sector_is_placed.Goals as goal

pub returns-clause-below : goal.returns-clause-below
returns-clause-below c shape level s laid below = placed_below shape level s laid below

pub returns-clause-past : goal.returns-clause-past
returns-clause-past c shape s past = none_past shape s past
