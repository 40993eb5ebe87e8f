use Rattle.std.proofs.Common.{ap, ◌∙◌}
use Rattle.imsm_base.specs.EditsOfTables.{block_without_disk, volume_without_disk}
use Rattle.imsm_base.specs.Layout.{Block}
use Rattle.std.specs.Prelude.{map}
use Rattle.imsm_buffer.specs.Buffer.{parts_of}
use Rattle.imsm_buffer.proofs.Lowered.{removed_bytes}
use Rattle.imsm_buffer.proofs.buffer.MpbBuf.remove_disk.Goals as goal

pub returns-clause-bytes : goal.returns-clause-bytes
returns-clause-bytes c =
    removed_bytes c.args.self.now c.lower_volumes.new.self (block_without_disk (parts_of c.args.self.now) c.args.i) (c.lower_volumes.ensures.room ∙ c.drop_record.ensures.room)
    (c.lower_volumes.ensures.block ∙ ap (λ (b : Block). record b { volumes = map (volume_without_disk c.args.i) b.volumes }) c.drop_record.ensures.block)
