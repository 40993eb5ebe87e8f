use Rattle.std.proofs.Common.{arith}
use Rattle.imsm_buffer.proofs.Done.{status_done}
use Rattle.imsm_buffer.proofs.buffer.MpbBuf.set_status.Goals as goal

pub invariant_of-self : goal.invariant_of-self
invariant_of-self c =
    (status_done c.self.inside.bytes c.put_u32.new.bytes c.deref_mut.result.now c.self.inside.room _ c.args.i c.args.status c.args.self.now
    c.self.view_is c.self.invariant c.requires (omega arith) c.put_u32.ensures c.deref_mut.ensures.value).kept

pub returns-clause-bytes : goal.returns-clause-bytes
returns-clause-bytes c =
    (status_done c.self.inside.bytes c.put_u32.new.bytes c.deref_mut.result.now c.self.inside.room _ c.args.i c.args.status c.args.self.now
    c.self.view_is c.self.invariant c.requires (omega arith) c.put_u32.ensures c.deref_mut.ensures.value).bytes

pub returns-clause-block : goal.returns-clause-block
returns-clause-block c =
    (status_done c.self.inside.bytes c.put_u32.new.bytes c.deref_mut.result.now c.self.inside.room _ c.args.i c.args.status c.args.self.now
    c.self.view_is c.self.invariant c.requires (omega arith) c.put_u32.ensures c.deref_mut.ensures.value).block
