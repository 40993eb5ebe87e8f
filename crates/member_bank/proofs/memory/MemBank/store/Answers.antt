use Rattle.std.proofs.Common.{arith, ◌≡◌, ◌+◌, ◌≤◌, ◌++◌, [], get_or, length, take, drop, ap, sym, subst}
use Rattle.std.proofs.lemmas.Grind.{common_steps}
use Rattle.member_bank.specs.Contents.{sectors_of}
use Rattle.member_bank.specs.Memory.{MemState}
use Rattle.member_bank.proofs.Showing.{stored_memory}
use Rattle.member_bank.proofs.memory.MemBank.store.Goals as goal

pub invariant_of-self : goal.invariant_of-self
invariant_of-self c =
    let counts = take c.self.inside.faults.len (c.answer.new.faults ++ drop (length c.answer.new.faults) c.self.inside.faults.items) in
    let same : length counts ≡ length c.self.inside.faults.items = grind (arith, common_steps) in
    let within : c.args.place + length c.args.from.now ≤ length (get_or c.self.inside.present.sectors c.args.d.0 []) =
    subst (λ (b : MemState). c.args.place + length c.args.from.now ≤ length (get_or b.present c.args.d.0 [])) (sym c.self.view_is) c.requires.place in
    rw (c.note.ensures, c.put.ensures)
    (stored_memory c.self.inside.present.serials (sectors_of c.self.inside.opening.items) c.self.inside.present.sectors c.self.inside.faults.items counts c.self.inside.history
    c.args.d.0 c.args.place c.args.from.now c.stored-stored.result c.is_none-went.result c.self.invariant (omega (arith, ap (λ (b : MemState). length b.present) c.self.view_is)) within same)
