-- The sectors of a row by numbers, both ways.
use Rattle.std.proofs.Common.{◌≡◌, ℕ, zero, suc, ◌+◌, ◌-◌, ◌*◌, ◌/◌, ◌%◌, ◌^◌, ◌<◌, ◌≤◌, ◌==◌, ◌||◌, not, true, slice_get, Option, Some, None, MatchOption, refl, sym, ap, ◌∙◌, subst, arith, ◌⊎◌, inl, inr}
use Rattle.std.proofs.lemmas.Option.{none-some}
use Rattle.std.proofs.lemmas.Bool.{or_cases, eqb-true, lt-ltb}
use Rattle.std.proofs.lemmas.Bool.Decides.{nat_tests}
use Rattle.std.proofs.lemmas.Nat.{div-add-mod', same_from_place, mul-le}
use Rattle.std.proofs.Math.Nat.{mod-lt, div-mul-le_self}
use Rattle.units.specs.declared.volume.Geometry.{Geometry}
use Rattle.units.specs.declared.volume.Level.{Level}
use Rattle.units.specs.declared.volume.Level.TheVariants.{One, Five, Ten}
use Rattle.units.specs.Levels.{rounded_up, rows_of}
use Rattle.array_model.specs.Placement.{Placement, others, parity_slot, stripe_slots, placement_by}
use Rattle.raid_map.specs.Layouts.{LiesAt, has_copy, IsPlacedIn}
use Rattle.raid_map.specs.Mapped.{shape_of, FitsLevel, IsMapped, sector_number}
use Rattle.raid_map.proofs.Items.{kept_once}
use Rattle.raid_map.proofs.Stripes.{two, main_at, off_parity, parts, lies_at, placed_at, sector_below}
use Rattle.raid_map.proofs.Placed.{mapped_at, laid_out}

-- THE NUMBER OF A SECTOR

grouped : (t strip pairs on at : ℕ) → t * strip * pairs + on * strip + at ≡ (t * pairs + on) * strip + at
grouped t strip pairs on at = omega arith

row_start : (row strip : ℕ) → row - row % strip ≡ row / strip * strip
row_start row strip = let all : row / strip * strip + row % strip ≡ row = div-add-mod' row strip in omega (arith, all)

pub number_is : (row strip pairs on q p o : ℕ) → q ≡ strip → p ≡ pairs → o ≡ on
    → (row - row % q) * p + o * q + row % q ≡ sector_number pairs strip on row
number_is row strip pairs on q p o widths same_pairs same_on =
    rw (widths, same_pairs, same_on)
    (ap (λ x. x * pairs + on * strip + row % strip) (row_start row strip)
    ∙ grouped (row / strip) strip pairs on (row % strip))

-- ROWS HAVE A BOUND

striped_bound : (pairs strip size : ℕ) → 1 ≤ pairs → pairs ≤ 7 → strip < 65536 → size ≤ 2 ^ 40
    → strip * rounded_up size (pairs * strip) < 2 ^ 41
striped_bound pairs strip size some few narrow short =
    let count : ℕ = rounded_up size (pairs * strip) in
    let all : count * (pairs * strip) ≤ size + (pairs * strip - 1) = div-mul-le_self (size + (pairs * strip - 1)) (pairs * strip) in
    let wide : 1 * (strip * count) ≤ pairs * (strip * count) = mul-le 1 (strip * count) pairs (strip * count) some (omega arith) in
    let same : pairs * (strip * count) ≡ count * (pairs * strip) = turned pairs strip count in
    let narrow_stripe : pairs * strip ≤ 7 * 65536 = mul-le pairs strip 7 65536 few (omega (arith, narrow)) in
    by (strip * count) (pairs * (strip * count)) (count * (pairs * strip)) (pairs * strip) (omega (arith, wide)) same all narrow_stripe
  where
    turned : (a b c : ℕ) → a * (b * c) ≡ c * (a * b)
    turned a b c = omega arith

    by : (rows wide all step : ℕ) → rows ≤ wide → wide ≡ all → all ≤ size + (step - 1) → step ≤ 7 * 65536 → rows < 2 ^ 41
    by rows wide all step first second third fourth = omega (arith, first, second, third, fourth, short)

pub rows_below : (g : Geometry) → IsMapped g → g.strip < 65536 → g.rows < 2 ^ 41
rows_below g mapped narrow =
    subst (λ x. x < 2 ^ 41) (sym mapped.rows) (at g.level mapped.members)
  where
    at : (level : Level) → FitsLevel level g.members → rows_of (Some level) g.members g.size g.strip < 2 ^ 41
    at One fits = omega (arith, mapped.most)
    at Five fits = striped_bound (g.members - 1) g.strip g.size (omega (arith, fits.0)) (omega (arith, fits.1)) narrow mapped.most
    at Ten fits = striped_bound 2 g.strip g.size (omega arith) (omega arith) narrow mapped.most

-- TWO COPIES

pub copy_found : (g : Geometry) → IsMapped g → g.level ≡ One → (slot row : ℕ) → slot < g.members → row < g.rows
    → IsPlacedIn (shape_of g) slot row row
copy_found g mapped is slot row there below = record {
  lies = lies;
  placed = subst (λ level. placement_by (Some level) (shape_of g) row ≡ Some lies) (sym is) listed;
  copy = subst (λ level. has_copy (Some level) lies slot ≡ true) (sym is) (either slot two_slots);
  at_row = refl;
}
  where
    lies : Placement
    lies = record { main = 0; other = 1; row = row }

    two_slots : slot < 2
    two_slots = let two_members : g.members ≡ 2 = subst (λ l. FitsLevel l g.members) is mapped.members in omega (arith, there, two_members)

    in_size : row < g.size
    in_size =
        let rows : g.rows ≡ g.size = mapped.rows ∙ ap (λ l. rows_of (Some l) g.members g.size g.strip) is in
        omega (arith, below, rows)

    listed : placement_by (Some One) (shape_of g) row ≡ Some lies
    listed = rw (lt-ltb row g.size in_size) refl

    either : (slot : ℕ) → slot < 2 → (0 == slot || 1 == slot) ≡ true
    either zero lt = refl
    either (suc zero) lt = refl
    either (suc (suc slot)) lt = absurd (omega (arith, lt))

-- ROTATING PARITY

itself : (n : ℕ) → (n == n) ≡ true
itself n = grind (arith, nat_tests)

pub beside_found : (g : Geometry) → IsMapped g → g.level ≡ Five → 1 ≤ g.strip → (slot row on s : ℕ)
    → slice_get (others g.members (parity_slot g.members (row / g.strip))) on ≡ Some slot → on < g.members - 1
    → s ≡ sector_number (g.members - 1) g.strip on row → s < g.size → IsPlacedIn (shape_of g) slot row s
beside_found g mapped is one slot row on s there below number inside = record {
  lies = lies;
  placed = placed_at (shape_of g) Five s lies (laid_out g Five mapped is) inside at;
  copy = subst (λ level. has_copy (Some level) lies slot ≡ true) (sym is) (itself slot);
  at_row = refl;
}
  where
    parity : ℕ
    parity = parity_slot g.members (row / g.strip)

    lies : Placement
    lies = record { main = slot; other = parity; row = row }

    at : LiesAt Five g.members g.strip s lies
    at = record {
      in_stripe = row / g.strip;
      on_pair = on;
      at_row = row % g.strip;
      pair_below = below;
      row_below = mod-lt row (omega (arith, one));
      slots = mapped_at (λ k. two k parity) (others g.members parity) on slot there;
      row = sym (div-add-mod' row g.strip);
      sector = number;
    }

-- the stripe and the row in it of a sector that is placed in a row
record InRow (strip in_stripe at row : ℕ) : Type 0 where
  stripe : in_stripe ≡ row / strip
  rest : at ≡ row % strip

in_row : (strip in_stripe at row : ℕ) → at < strip → row ≡ in_stripe * strip + at → InRow strip in_stripe at row
in_row strip in_stripe at row below is =
    let same = same_from_place in_stripe at (row / strip) (row % strip) strip below (mod-lt row (omega (arith, below))) (sym is ∙ sym (div-add-mod' row strip)) in
    record { stripe = same.0; rest = same.1 }

number_of : (pairs strip on row in_stripe at other s : ℕ) → s ≡ (in_stripe * pairs + other) * strip + at
    → InRow strip in_stripe at row → other ≡ on → s ≡ sector_number pairs strip on row
number_of pairs strip on row in_stripe at other s is in_it same =
    is ∙ total in_stripe (row / strip) other on at (row % strip) in_it.stripe same in_it.rest
  where
    total : (t u d e a b : ℕ) → t ≡ u → d ≡ e → a ≡ b → (t * pairs + d) * strip + a ≡ (u * pairs + e) * strip + b
    total t u d e a b first second third = rw (first, second, third) refl

pub beside_only : (g : Geometry) → g.level ≡ Five → (slot row on s : ℕ)
    → slice_get (others g.members (parity_slot g.members (row / g.strip))) on ≡ Some slot
    → IsPlacedIn (shape_of g) slot row s → s ≡ sector_number (g.members - 1) g.strip on row
beside_only g is slot row on s there placed =
    number_of (g.members - 1) g.strip on row f.in_stripe f.at_row f.on_pair s f.sector here
    (kept_once (λ k. not (k == parity)) 0 g.members f.on_pair on slot main there)
  where
    parity : ℕ
    parity = parity_slot g.members (row / g.strip)

    f : LiesAt Five g.members g.strip s placed.lies
    f = lies_at (shape_of g) Five s placed.lies (ap Some is) placed.placed

    here : InRow g.strip f.in_stripe f.at_row row
    here = in_row g.strip f.in_stripe f.at_row row f.row_below (sym placed.at_row ∙ f.row)

    same_slot : placed.lies.main ≡ slot
    same_slot = eqb-true placed.lies.main slot (subst (λ level. has_copy (Some level) placed.lies slot ≡ true) is placed.copy)

    main : slice_get (others g.members parity) f.on_pair ≡ Some slot
    main =
        subst (λ t. slice_get (others g.members (parity_slot g.members t)) f.on_pair ≡ Some placed.lies.main) here.stripe
        (main_at (others g.members (parity_slot g.members f.in_stripe)) (parity_slot g.members f.in_stripe) f.on_pair
        placed.lies.main placed.lies.other f.slots)
        ∙ ap Some same_slot

pub none_in_parity : (g : Geometry) → g.level ≡ Five → (slot row s : ℕ) → slot ≡ parity_slot g.members (row / g.strip)
    → IsPlacedIn (shape_of g) slot row s → ⊥
none_in_parity g is slot row s same placed =
    off_parity g.members g.strip s placed.lies f
    (eqb-true placed.lies.main slot (subst (λ level. has_copy (Some level) placed.lies slot ≡ true) is placed.copy)
    ∙ same ∙ ap (parity_slot g.members) (sym here.stripe))
  where
    f : LiesAt Five g.members g.strip s placed.lies
    f = lies_at (shape_of g) Five s placed.lies (ap Some is) placed.placed

    here : InRow g.strip f.in_stripe f.at_row row
    here = in_row g.strip f.in_stripe f.at_row row f.row_below (sym placed.at_row ∙ f.row)

-- TWO PAIRS OF COPIES

pub pair_found : (g : Geometry) → IsMapped g → g.level ≡ Ten → 1 ≤ g.strip → (slot row s : ℕ) → slot < g.members
    → s ≡ sector_number 2 g.strip (slot / 2) row → s < g.size → IsPlacedIn (shape_of g) slot row s
pair_found g mapped is one slot row s there number inside = by slot four number
  where
    four : slot < 4
    four = let members : g.members ≡ 4 = subst (λ l. FitsLevel l g.members) is mapped.members in omega (arith, there, members)

    at_pair : (on slot : ℕ) → on < 2 → (2 * on == slot || 2 * on + 1 == slot) ≡ true
        → slice_get (stripe_slots Ten g.members (row / g.strip)) on ≡ Some (two (2 * on) (2 * on + 1))
        → s ≡ sector_number 2 g.strip on row → IsPlacedIn (shape_of g) slot row s
    at_pair on slot below either slots number =
        let lies : Placement = record { main = 2 * on; other = 2 * on + 1; row = row } in
        let at : LiesAt Ten g.members g.strip s lies = record {
          in_stripe = row / g.strip;
          on_pair = on;
          at_row = row % g.strip;
          pair_below = below;
          row_below = mod-lt row (omega (arith, one));
          slots = slots;
          row = sym (div-add-mod' row g.strip);
          sector = number;
        } in
        record {
          lies = lies;
          placed = placed_at (shape_of g) Ten s lies (laid_out g Ten mapped is) inside at;
          copy = subst (λ level. has_copy (Some level) lies slot ≡ true) (sym is) either;
          at_row = refl;
        }

    by : (slot : ℕ) → slot < 4 → s ≡ sector_number 2 g.strip (slot / 2) row → IsPlacedIn (shape_of g) slot row s
    by zero lt number = at_pair 0 0 (omega arith) refl refl number
    by (suc zero) lt number = at_pair 0 1 (omega arith) refl refl number
    by (suc (suc zero)) lt number = at_pair 1 2 (omega arith) refl refl number
    by (suc (suc (suc zero))) lt number = at_pair 1 3 (omega arith) refl refl number
    by (suc (suc (suc (suc slot)))) lt number = absurd (omega (arith, lt))

pub pair_only : (g : Geometry) → g.level ≡ Ten → (slot row s : ℕ) → IsPlacedIn (shape_of g) slot row s
    → s ≡ sector_number 2 g.strip (slot / 2) row
pair_only g is slot row s placed =
    number_of 2 g.strip (slot / 2) row f.in_stripe f.at_row f.on_pair s f.sector here (by f.on_pair f.slots)
  where
    f : LiesAt Ten g.members g.strip s placed.lies
    f = lies_at (shape_of g) Ten s placed.lies (ap Some is) placed.placed

    here : InRow g.strip f.in_stripe f.at_row row
    here = in_row g.strip f.in_stripe f.at_row row f.row_below (sym placed.at_row ∙ f.row)

    either : (placed.lies.main == slot || placed.lies.other == slot) ≡ true
    either = subst (λ level. has_copy (Some level) placed.lies slot ≡ true) is placed.copy

    on_slot : (m o : ℕ) → Some (two m o) ≡ Some (two placed.lies.main placed.lies.other) → (m ≡ slot) ⊎ (o ≡ slot)
    on_slot m o slots =
        let pair = parts placed.lies m o slots in
        elim (or_cases (placed.lies.main == slot) (placed.lies.other == slot) either) [
          | inl main ↦ inl (sym pair.0 ∙ eqb-true placed.lies.main slot main)
          | inr other ↦ inr (sym pair.1 ∙ eqb-true placed.lies.other slot other)
        ]

    half : (d n : ℕ) → (2 * d ≡ n) ⊎ (2 * d + 1 ≡ n) → d ≡ n / 2
    half d n same = omega (arith, same)

    by : (d : ℕ) → slice_get (stripe_slots Ten g.members f.in_stripe) d ≡ Some (two placed.lies.main placed.lies.other)
        → d ≡ slot / 2
    by zero slots = half 0 slot (on_slot 0 1 slots)
    by (suc zero) slots = half 1 slot (on_slot 2 3 slots)
    by (suc (suc d)) slots = absurd (none-some _ slots)

-- a sector in a row of a slot is one of the volume's
pub placed_inside : (g : Geometry) (slot row s : ℕ) → IsPlacedIn (shape_of g) slot row s → s < g.size
placed_inside g slot row s placed = sector_below (shape_of g) s placed.lies placed.placed

-- what a call answered, told otherwise
pub told_as : {A B : Type 0} {P Q : ℕ → Type 0} (o : Option ℕ) → (A → B) → ((s : ℕ) → P s → Q s) → MatchOption o A P
    → MatchOption o B Q
told_as None none some is = none is
told_as (Some s) none some is = some s is

-- a level with stripes has a strip
pub some_strip : (g : Geometry) → IsMapped g → (g.level ≡ One → ⊥) → 1 ≤ g.strip
some_strip g mapped striped = by mapped.strip
  where
    by : (g.level ≡ One) ⊎ (1 ≤ g.strip) → 1 ≤ g.strip
    by (inl one) = absurd (striped one)
    by (inr some) = some
