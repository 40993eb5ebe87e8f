use Rattle.raid_map.proofs.Stripes.{one_sector, no_sector}
use Rattle.raid_map.proofs.each_row_has_one_sector.Goals as goal

pub returns-clause-one : goal.returns-clause-one
returns-clause-one c shape slot row a b first second = one_sector shape slot row a b first second

pub returns-clause-parity : goal.returns-clause-parity
returns-clause-parity c shape s other lies five placed stands = no_sector shape s other lies five placed stands
