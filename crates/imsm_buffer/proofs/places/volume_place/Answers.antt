use Rattle.std.proofs.Common.{arith}
use Rattle.imsm_buffer.proofs.Kept.{volumes-counted}
use Rattle.imsm_buffer.proofs.Placed.{volume_there}
use Rattle.imsm_buffer.proofs.places.volume_place.Goals as goal

pub volume_from-requires-clause-below : goal.volume_from-requires-clause-below
volume_from-requires-clause-below c = omega (arith, volumes-counted c.args.bytes.now)

pub returns-clause-place : goal.returns-clause-place
returns-clause-place c =
    volume_there c.args.bytes.now c.volume_from.result.now c.args.v (omega (arith, volumes-counted c.args.bytes.now)) c.volume_from.ensures.place
    (omega (arith, c.volume_from.ensures.room))
