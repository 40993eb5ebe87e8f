use Rattle.std.proofs.Common.{◌≡◌, ℕ, ◌-◌, ◌/◌, ◌%◌, ◌<◌, ◌≤◌, ◌⊎◌, inl, inr, slice_get, Some, sym, ap, ◌∙◌, arith}
use Rattle.std.proofs.Math.Nat.{mod-lt}
use Rattle.units.specs.declared.volume.Level.{Level}
use Rattle.units.specs.declared.volume.Level.TheVariants.{One, Five, Ten}
use Rattle.array_model.specs.Placement.{others}
use Rattle.raid_map.specs.Mapped.{FitsLevel}
use Rattle.raid_map.proofs.Placed.{parity_found, slot_below, slot_above}
use Rattle.raid_map.proofs.places.with_parity.Goals as goal
use Rattle.raid_map.proofs.places.with_parity.Goals.{then-on-parity, else-on-parity}

pub returns : goal.returns
returns c =
    parity_found n c.args.g.now.strip c.args.s c.if-on-parity.result m q p (omega (arith, three)) (some c.requires.mapped.strip)
    c.from-data.ensures c.from-strip.ensures c.parity_slot-parity.ensures.slot slot
  where
    n : ℕ
    n = c.args.g.now.members

    m : ℕ
    m = c.from-data.result

    q : ℕ
    q = c.from-strip.result

    p : ℕ
    p = c.parity_slot-parity.result

    at_least : (level : Level) → level ≡ Five → FitsLevel level n → 3 ≤ n
    at_least One is fits = absurd (cc is)
    at_least Five is fits = fits.0
    at_least Ten is fits = absurd (cc is)

    three : 3 ≤ n
    three = at_least c.args.g.now.level c.requires.level c.requires.mapped.members

    some : (c.args.g.now.level ≡ One) ⊎ (1 ≤ c.args.g.now.strip) → 1 ≤ c.args.g.now.strip
    some (inl one) = absurd (let both : One ≡ Five = sym one ∙ c.requires.level in cc both)
    some (inr strip) = strip

    d : ℕ
    d = c.args.s / q % (m - 1)

    below : d < n - 1
    below =
        let some : 0 < m - 1 = omega (arith, three, c.from-data.ensures) in
        let lt : d < m - 1 = mod-lt (c.args.s / q) some in
        omega (arith, lt, c.from-data.ensures)

    slot : slice_get (others n p) d ≡ Some c.if-on-parity.result
    slot = elim c.if-on-parity.branch [
      | then-on-parity w ↦
          slot_below n p d w.if-on-parity.true c.parity_slot-parity.ensures.below ∙ ap Some (sym w.result-is)
      | else-on-parity w ↦ slot_above n p d w.if-on-parity.false below ∙ ap Some (sym w.result-is)
    ]
