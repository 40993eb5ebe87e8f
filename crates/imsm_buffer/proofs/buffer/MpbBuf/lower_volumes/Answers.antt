use Rattle.std.proofs.Common.{arith}
use Rattle.imsm_buffer.proofs.Lowered.{volume_next, volumes_done}
use Rattle.imsm_buffer.proofs.buffer.MpbBuf.lower_volumes.Goals as goal

pub loop-v-preserved : goal.loop-v-preserved
loop-v-preserved c = volume_next c.loop-v.v c.args.i c.args.self.now c.loop-v.self c.lower_volume.new.self c.loop-v.invariant c.lower_volume.ensures.room c.lower_volume.ensures.block

pub returns-clause-block : goal.returns-clause-block
returns-clause-block c =
    volumes_done c.loop-v.v c.args.i c.volumes-volumes.result c.args.self.now c.loop-v.self c.parts.result.bytes.now _ c.parts.result.laid c.parts.ensures.bytes c.loop-v.invariant c.parts.ensures.parts c.volumes-volumes.ensures (omega arith)
