use Rattle.std.proofs.Common.{◌∙◌, arith}
use Rattle.imsm_buffer.proofs.New.{new_kept, new_parts}
use Rattle.imsm_buffer.proofs.buffer.MpbBuf.new.Goals as goal

pub invariant_of-result : goal.invariant_of-result
invariant_of-result c =
    new_kept c.in_ok-bytes.bytes.items _ _ (c.in_ok-bytes.ensures.items ∙ c.new_bytes.ensures) (omega arith) (omega arith) (omega (arith, c.in_ok-bytes.ensures.capacity))

pub returns-clause-block : goal.returns-clause-block
returns-clause-block c = new_parts c.in_ok-bytes.bytes.items (c.in_ok-bytes.ensures.items ∙ c.new_bytes.ensures)
