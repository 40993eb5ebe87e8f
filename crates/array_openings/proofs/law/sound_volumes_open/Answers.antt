use Rattle.array_openings.proofs.Able.{opens_able}
use Rattle.array_openings.proofs.RowsHeld.{opens_sound}
use Rattle.array_openings.proofs.law.sound_volumes_open.Goals as goal

pub returns : goal.returns
returns c = record { sound = opens_sound; able = opens_able }
