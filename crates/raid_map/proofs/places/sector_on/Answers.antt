use Rattle.std.proofs.Common.{◌≤◌, subst}
use Rattle.raid_map.proofs.Rows.{number_is}
use Rattle.raid_map.proofs.places.sector_on.Goals as goal

pub returns-then-s-g : goal.returns-then-s-g
returns-then-s-g c = (
  number_is c.args.row c.args.g.now.strip c.args.pairs c.args.on c.from-strip.result c.from.result c.from-2.result
      c.from-strip.ensures c.from.ensures c.from-2.ensures,
  c.if-s-g.true,
)

pub returns-else-s-g : goal.returns-else-s-g
returns-else-s-g c =
    subst (λ s. c.args.g.now.size ≤ s)
    (number_is c.args.row c.args.g.now.strip c.args.pairs c.args.on c.from-strip.result c.from.result c.from-2.result
    c.from-strip.ensures c.from.ensures c.from-2.ensures) c.if-s-g.false
