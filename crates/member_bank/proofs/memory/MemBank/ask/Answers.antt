use Rattle.std.proofs.Common.{arith, ◌≡◌, ◌++◌, length, take, drop, ap}
use Rattle.std.proofs.lemmas.Grind.{common_steps}
use Rattle.member_bank.specs.Contents.{sectors_of}
use Rattle.member_bank.specs.Memory.{MemState}
use Rattle.member_bank.proofs.Showing.{asked_memory}
use Rattle.member_bank.proofs.memory.MemBank.ask.Goals as goal

pub invariant_of-self : goal.invariant_of-self
invariant_of-self c =
    let counts = take c.self.inside.faults.len (c.answer.new.faults ++ drop (length c.answer.new.faults) c.self.inside.faults.items) in
    let same : length counts ≡ length c.self.inside.faults.items = grind (arith, common_steps) in
    rw c.note.ensures
    (asked_memory c.self.inside.present.serials (sectors_of c.self.inside.opening.items) c.self.inside.present.sectors c.self.inside.faults.items counts c.self.inside.history
    c.args.d.0 c.args.asked c.is_none-went.result c.self.invariant (omega (arith, ap (λ (b : MemState). length b.present) c.self.view_is)) same)
