use Rattle.array_rest.proofs.SeatRuns.{each_seated}
use Rattle.array_rest.proofs.blocks_in_hand_seat_each_disk.Goals as goal

pub returns : goal.returns
returns c S P volumes spares o w run = (each_seated S P volumes spares o w run).blocks
