use Rattle.std.proofs.Common.{refl}
use Rattle.member_bank.proofs.files.FileBank.add.Goals as goal

pub returns-clause-ok : goal.returns-clause-ok
returns-clause-ok c = (
  c.in_ok-sectors.sectors,
  rw (← c.self.view_is, c.push_reserved-2.ensures.items, c.push_reserved-3.ensures.items, c.push_reserved-4.ensures.items, c.reserve-2.ensures.items, c.reserve-3.ensures.items, c.reserve-4.ensures.items) refl,
)
