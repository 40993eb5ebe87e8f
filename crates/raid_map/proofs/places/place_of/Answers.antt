use Rattle.std.proofs.Common.{sym}
use Rattle.units.specs.declared.volume.Level.TheVariants.{Five, Ten}
use Rattle.raid_map.specs.Mapped.{shape_of, placement_told}
use Rattle.raid_map.proofs.Stripes.{placed_at}
use Rattle.raid_map.proofs.Placed.{laid_out}
use Rattle.raid_map.proofs.places.place_of.Goals as goal

pub returns-in-Five : goal.returns-in-Five
returns-in-Five c =
    sym (placed_at (shape_of c.args.g.now) Five c.args.s (placement_told c.with_parity.result)
    (laid_out c.args.g.now Five c.requires c.in-Five.is) c.if-s-g.false c.with_parity.ensures)

pub returns-in-Ten : goal.returns-in-Ten
returns-in-Ten c =
    sym (placed_at (shape_of c.args.g.now) Ten c.args.s (placement_told c.on_pair.result)
    (laid_out c.args.g.now Ten c.requires c.in-Ten.is) c.if-s-g.false c.on_pair.ensures)
