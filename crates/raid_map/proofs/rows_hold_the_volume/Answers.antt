use Rattle.raid_map.proofs.Stripes.{rows_hold}
use Rattle.raid_map.proofs.rows_hold_the_volume.Goals as goal

pub returns : goal.returns
returns c shape s lies rows is = rows_hold shape s lies rows is
