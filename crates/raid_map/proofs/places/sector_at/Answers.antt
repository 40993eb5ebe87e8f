use Rattle.std.proofs.Common.{◌≡◌, ◌≤◌, sym, ◌∙◌, arith}
use Rattle.units.specs.declared.volume.Geometry.{Geometry}
use Rattle.units.specs.declared.volume.Level.TheVariants.{One, Ten}
use Rattle.raid_map.proofs.Rows.{some_strip, copy_found, pair_found, pair_only, placed_inside, told_as}
use Rattle.raid_map.proofs.places.sector_at.Goals as goal

pub returns-in-One : goal.returns-in-One
returns-in-One c =
    copy_found c.args.g.now c.requires.mapped c.in-One.is c.args.slot.0 c.args.row c.requires.slot c.requires.row

pub returns-in-Ten : goal.returns-in-Ten
returns-in-Ten c =
    told_as c.sector_on.result
    (λ past s placed.
    let number = pair_only g c.in-Ten.is c.args.slot.0 c.args.row s placed in
    let inside = placed_inside g c.args.slot.0 c.args.row s placed in
    omega (arith, past, inside, number))
    (λ s found. pair_found g c.requires.mapped c.in-Ten.is one c.args.slot.0 c.args.row s c.requires.slot found.0 found.1)
    c.sector_on.ensures
  where
    g : Geometry
    g = c.args.g.now

    one : 1 ≤ g.strip
    one = some_strip g c.requires.mapped (λ level. (let both : One ≡ Ten = sym level ∙ c.in-Ten.is in cc both))
