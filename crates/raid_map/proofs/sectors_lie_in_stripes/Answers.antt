use Rattle.raid_map.proofs.Stripes.{lies_at, placed_at}
use Rattle.raid_map.proofs.sectors_lie_in_stripes.Goals as goal

pub returns-clause-lies : goal.returns-clause-lies
returns-clause-lies c shape level s lies some is = lies_at shape level s lies some is

pub returns-clause-placed : goal.returns-clause-placed
returns-clause-placed c shape level s lies laid below at = placed_at shape level s lies laid below at
