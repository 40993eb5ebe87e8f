use Rattle.std.proofs.Common.{sym}
use Rattle.generation_pick.proofs.picking.pick.Goals as goal

pub returns-in-Some-other_family : goal.returns-in-Some-other_family
returns-in-Some-other_family c =
    record {
      first = c.in-Some.first.now;
      begins = sym c.in-Some.ensures.value;
      family = sym c.family-family.ensures;
      other = c.in-Some-other_family.ensures;
    }
