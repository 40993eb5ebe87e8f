use Rattle.array_openings.proofs.RowLaws.{lie_apart, rows_open}
use Rattle.array_openings.proofs.law.sound_volumes_meet_laws_on_rows.Goals as goal

pub returns : goal.returns
returns c = record { apart = lie_apart; rows = rows_open }
