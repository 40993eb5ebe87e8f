use Rattle.std.proofs.Common.{arith, ◌≡◌, ◌≢◌, ◌<◌, [], ◌∷◌, ◌++◌, length, ap, ◌∙◌, sym, subst}
use Rattle.std.specs.Prelude.{All}
use Rattle.member_bank.specs.Contents.{sectors_of}
use Rattle.member_bank.specs.Memory.{MemState}
use Rattle.member_bank.proofs.Showing.{grown, sectors_push}
use Rattle.member_bank.proofs.memory.MemBank.add.Goals as goal

pub invariant_of-self-2 : goal.invariant_of-self-2
invariant_of-self-2 c =
    let same : c.in_ok-sectors.sectors.items ≡ c.args.disk.sectors.items = c.in_ok-sectors.ensures.items_if_clones_equal (λ x y e. e) ∙ c.deref.ensures.value in
    let opening : sectors_of c.push_reserved.new.self.items ≡ sectors_of c.self.inside.opening.items ++ c.args.disk.sectors.items ∷ [] =
    sectors_push c.self.inside.opening.items c.push_reserved.new.self.items c.in_ok-sectors.sectors c.args.disk.sectors.items (rw c.reserve.ensures.items at c.push_reserved.ensures.items) same in
    let few : length c.self.inside.present.serials < 16 = omega (arith, ap (λ (b : MemState). length b.serials) c.self.view_is) in
    rw (c.in_ok-push.ensures.ok, opening, c.push_reserved-2.ensures.items, c.reserve-2.ensures.items)
    (grown c.self.inside.present.serials (sectors_of c.self.inside.opening.items) c.self.inside.present.sectors c.self.inside.faults.items c.self.inside.history.log c.args.disk.serial c.args.disk.sectors.items
    c.self.invariant few (subst (λ (b : MemState). All (λ s. s ≢ c.args.disk.serial) b.serials) (sym c.self.view_is) c.requires.distinct))
