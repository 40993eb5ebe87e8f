use Rattle.std.proofs.Common.{◌≡◌, ◌≤◌, ◌⊎◌, inl, inr, sym, ◌∙◌}
use Rattle.units.specs.declared.volume.Level.TheVariants.{One, Ten}
use Rattle.raid_map.proofs.Placed.{pair_found}
use Rattle.raid_map.proofs.places.on_pair.Goals as goal

pub returns : goal.returns
returns c =
    pair_found c.args.g.now.members c.args.g.now.strip c.args.s c.from-strip.result (some c.requires.mapped.strip)
    c.from-strip.ensures
  where
    some : (c.args.g.now.level ≡ One) ⊎ (1 ≤ c.args.g.now.strip) → 1 ≤ c.args.g.now.strip
    some (inl one) = absurd (let both : One ≡ Ten = sym one ∙ c.requires.level in cc both)
    some (inr strip) = strip
