use Rattle.std.proofs.Common.{arith}
use Rattle.imsm_buffer.proofs.Recorded.{record_made, record_lengths}
use Rattle.imsm_buffer.proofs.tables.record_bytes.Goals as goal

pub returns-clause-bytes : goal.returns-clause-bytes
returns-clause-bytes c =
    record_made c.args.added.now.serial.0 c.copy_from_slice.new.self c.put_u32.new.bytes c.put_u32-2.new.bytes c.put_u32-3.new.bytes c.put_u32-4.new.bytes c.put_u32-5.new.bytes
    _ _ _ _ _ (omega (arith, c.copy_from_slice.ensures.len)) c.copy_from_slice.ensures.after c.put_u32.ensures c.put_u32-2.ensures c.put_u32-3.ensures c.put_u32-4.ensures c.put_u32-5.ensures

pub returns-clause-lengths : goal.returns-clause-lengths
returns-clause-lengths c =
    record_lengths c.args.added.now c.copy_from_slice.new.self (omega (arith, c.copy_from_slice.ensures.len)) c.copy_from_slice.ensures.after
