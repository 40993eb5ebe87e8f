use Rattle.std.proofs.Common.{◌≡◌, ℕ, ◌+◌, ◌-◌, ◌/◌, ◌<◌, ◌≤◌, slice_get, Some, sym, ap, ◌∙◌, subst, arith}
use Rattle.units.specs.declared.volume.Geometry.{Geometry}
use Rattle.units.specs.declared.volume.Level.TheVariants.{One, Five}
use Rattle.array_model.specs.Placement.{others, parity_slot}
use Rattle.raid_map.proofs.Placed.{slot_below, slot_above}
use Rattle.raid_map.proofs.Rows.{some_strip, beside_found, beside_only, none_in_parity, placed_inside, told_as}
use Rattle.raid_map.proofs.places.sector_beside_parity.Goals as goal
use Rattle.raid_map.proofs.places.sector_beside_parity.Goals.{then-slot-parity-2, else-slot-parity-2}

pub returns-then-slot-parity : goal.returns-then-slot-parity
returns-then-slot-parity c s placed =
    none_in_parity c.args.g.now c.requires.level c.args.slot.0 c.args.row s
    (c.if-slot-parity.true ∙ c.parity_slot-parity.ensures.slot
    ∙ ap (λ strip. parity_slot c.args.g.now.members (c.args.row / strip)) c.from.ensures) placed

pub returns : goal.returns
returns c =
    told_as c.sector_on.result
    (λ past s placed.
    let number = beside_only g c.requires.level slot row on s there placed in
    let inside = placed_inside g slot row s placed in
    omega (arith, past, inside, number))
    (λ s found. beside_found g c.requires.mapped c.requires.level one slot row on s there below found.0 found.1)
    c.sector_on.ensures
  where
    g : Geometry
    g = c.args.g.now

    slot : ℕ
    slot = c.args.slot.0

    row : ℕ
    row = c.args.row

    on : ℕ
    on = c.if-slot-parity-2.on

    one : 1 ≤ g.strip
    one = some_strip g c.requires.mapped (λ level. (let both : One ≡ Five = sym level ∙ c.requires.level in cc both))

    parity : ℕ
    parity = parity_slot g.members (row / g.strip)

    parity_is : c.parity_slot-parity.result ≡ parity
    parity_is = c.parity_slot-parity.ensures.slot ∙ ap (λ strip. parity_slot g.members (row / strip)) c.from.ensures

    low : parity < g.members
    low = subst (λ p. p < g.members) parity_is c.parity_slot-parity.ensures.below

    beyond : (s p o : ℕ) → p ≤ s → (s ≡ p → ⊥) → o ≡ s - 1 → p ≤ o
    beyond s p o le apart is = omega (arith, le, apart, is)

    behind : (s p o : ℕ) → p ≤ s → (s ≡ p → ⊥) → o ≡ s - 1 → o + 1 ≡ s
    behind s p o le apart is = omega (arith, le, apart, is)

    -- the slot is one of those beside the parity's, of this number
    number : (on < g.members - 1) × (slice_get (others g.members parity) on ≡ Some slot)
    number = elim c.if-slot-parity-2.branch [
      | then-slot-parity-2 w ↦
          let below : slot < parity = subst (λ p. slot < p) parity_is w.if-slot-parity-2.true in
          let on_is : on ≡ slot = w.on-is in
          (omega (arith, below, low, on_is), subst (λ n. slice_get (others g.members parity) n ≡ Some slot) (sym on_is) (slot_below g.members parity slot below low))
      | else-slot-parity-2 w ↦
          let least : parity ≤ slot = subst (λ p. p ≤ slot) parity_is w.if-slot-parity-2.false in
          let apart : slot ≡ parity → ⊥ = λ same. c.if-slot-parity.false (same ∙ sym parity_is) in
          let on_is : on ≡ slot - 1 = w.on-is in
          let above : parity ≤ on = beyond slot parity on least apart on_is in
          let back : on + 1 ≡ slot = behind slot parity on least apart on_is in
          let below : on < g.members - 1 = omega (arith, back, c.requires.slot) in
          (below, slot_above g.members parity on above below ∙ ap Some back)
    ]

    below : on < g.members - 1
    below = number.0

    there : slice_get (others g.members parity) on ≡ Some slot
    there = number.1
