-- The stripes of a volume: how many items they have, and which item a sector is.
use Rattle.std.proofs.Common.{◌≡◌, ℕ, zero, suc, ◌+◌, ◌-◌, ◌*◌, ◌<◌, ◌≤◌, ◌==◌, ◌||◌, not, nat_lt, Bool, true, false, if◌then◌else◌, List, [], ◌∷◌, length, map, slice_get, get_or, Option, Some, None, refl, sym, ap, ◌∙◌, subst, arith, ◌⊎◌, inl, inr, mul-le-mul_left}
use Rattle.std.proofs.lemmas.List.{length-map}
use Rattle.std.specs.List.{range_with_len}
use Rattle.std.proofs.lemmas.Option.{none-some, same_Some, slice_get-get_or, slice_get_within}
use Rattle.std.proofs.lemmas.List.FromFn.{length-range_with_len, length-map-range_with_len}
use Rattle.std.proofs.lemmas.Bool.Decides.{nat_tests}
use Rattle.std.proofs.lemmas.Bool.{or_cases, not-true, eqb-false, eqb-true, lt-ltb, le-ltb, cases_lt}
use Rattle.std.proofs.lemmas.Nat.{same_from_place, le-div, mul-le}
use Rattle.units.specs.declared.volume.Level.{Level}
use Rattle.units.specs.declared.volume.Level.TheVariants.{One, Five, Ten}
use Rattle.units.specs.Levels.{data_members, rounded_up, rows_of}
use Rattle.array_model.specs.Placement.{Shape, Placement, SlotPair, others, parity_slot, stripe_slots, stripe_rows, rows_on, stripe, stripes, item_of_stripes, placement_by, placement_of}
use Rattle.raid_map.specs.Layouts.{sector_placement, has_copy, IsPlacedIn, IsLaidOut, LiesAt}
use Rattle.raid_map.proofs.Items.{item_of, length_joined, range_at, kept_at, kept_once, length_others}

abbrev pub two : ℕ → ℕ → SlotPair
two m o = record { main = m; other = o }

-- HOW MANY

length_slots : (level : Level) (n t : ℕ) → length (stripe_slots level n t) ≡ data_members level n
length_slots One n t = refl
length_slots Five zero t = refl
length_slots Five (suc n) t =
    let others_are : length (others (suc n) (parity_slot (suc n) t)) + 1 ≡ suc n = length_others 0 (suc n) (parity_slot (suc n) t) (omega arith) (omega arith) in
    omega (arith, length-map (others (suc n) (parity_slot (suc n) t)) (λ k. two k (parity_slot (suc n) t)), others_are)
length_slots Ten n t = refl

length_rows : (first count : ℕ) (pair : SlotPair) → length (rows_on first count pair) ≡ count
length_rows first count pair = length-map-range_with_len (λ row. record { main = pair.main; other = pair.other; row = row }) first count

length_stripe : (level : Level) (n strip t : ℕ) → length (stripe level n strip t) ≡ data_members level n * stripe_rows level strip
length_stripe level n strip t =
    length_joined (rows_on (t * stripe_rows level strip) (stripe_rows level strip)) (stripe_rows level strip) (length_rows (t * stripe_rows level strip) (stripe_rows level strip)) (stripe_slots level n t)
    ∙ ap (λ x. x * stripe_rows level strip) (length_slots level n t)

length_stripes : (level : Level) (n strip count : ℕ) → length (stripes level n strip count) ≡ count * (data_members level n * stripe_rows level strip)
length_stripes level n strip count =
    length_joined (stripe level n strip) (data_members level n * stripe_rows level strip) (length_stripe level n strip) (range_with_len 0 count)
    ∙ ap (λ x. x * (data_members level n * stripe_rows level strip)) (length-range_with_len 0 count)

-- WHICH

-- a placement that is on these slots, in this row
record IsOn (lies : Placement) (pair : SlotPair) (row : ℕ) : Type 0 where
  main : lies.main ≡ pair.main
  other : lies.other ≡ pair.other
  row_is : lies.row ≡ row

row_at : (first count k : ℕ) (pair : SlotPair) (lies : Placement) → slice_get (rows_on first count pair) k ≡ Some lies → IsOn lies pair (first + k)
row_at first zero k pair lies is = absurd (none-some lies is)
row_at first (suc count) zero pair lies is =
    let same : record { main = pair.main; other = pair.other; row = first } ≡ lies = same_Some _ lies is in
    record {
      main = sym (ap (λ (p : Placement). p.main) same);
      other = sym (ap (λ (p : Placement). p.other) same);
      row_is = sym (ap (λ (p : Placement). p.row) same) ∙ omega arith;
    }
row_at first (suc count) (suc k) pair lies is =
    let h : IsOn lies pair (first + 1 + k) = row_at (first + 1) count k pair lies is in
    record { main = h.main; other = h.other; row_is = h.row_is ∙ omega arith }

same_pair : (pair : SlotPair) (m o : ℕ) → m ≡ pair.main → o ≡ pair.other → pair ≡ two m o
same_pair pair m o main other = rw (main, other) refl

regrouped : (t d pairs rows at : ℕ) → t * (pairs * rows) + (d * rows + at) ≡ (t * pairs + d) * rows + at
regrouped t d pairs rows at = omega arith

item_lies : (level : Level) (n strip count s : ℕ) (lies : Placement) → slice_get (stripes level n strip count) s ≡ Some lies → LiesAt level n strip s lies
item_lies level n strip count s lies is =
    let outer = item_of (stripe level n strip) (data_members level n * stripe_rows level strip) (length_stripe level n strip) (range_with_len 0 count) s lies is in
    let t : outer.source ≡ 0 + outer.number = (range_at 0 count outer.number outer.source outer.there).0 in
    let first : ℕ = outer.source * stripe_rows level strip in
    let inner = item_of (rows_on first (stripe_rows level strip)) (stripe_rows level strip) (length_rows first (stripe_rows level strip)) (stripe_slots level n outer.source) outer.rest lies outer.item in
    let on : IsOn lies inner.source (first + inner.rest) = row_at first (stripe_rows level strip) inner.rest inner.source lies inner.item in
    record {
      in_stripe = outer.source;
      on_pair = inner.number;
      at_row = inner.rest;
      pair_below = subst (λ z. inner.number < z) (length_slots level n outer.source) (slice_get_within (stripe_slots level n outer.source) inner.number inner.source inner.there);
      row_below = inner.below;
      slots = inner.there ∙ ap Some (same_pair inner.source lies.main lies.other on.main on.other);
      row = on.row_is;
      sector = outer.sum ∙ number (stripe_rows level strip) (data_members level n) outer.number outer.source outer.rest inner.number inner.rest (omega (arith, t)) inner.sum;
    }
  where
    number : (rows pairs k t rest d at : ℕ) → t ≡ k → rest ≡ d * rows + at → k * (pairs * rows) + rest ≡ (t * pairs + d) * rows + at
    number rows pairs k t rest d at same inner = rw (same, inner) (regrouped k d pairs rows at)

-- ITEMS

-- the slots of a pair
pub parts : (lies : Placement) (m o : ℕ) → Some (two m o) ≡ Some (two lies.main lies.other) → (lies.main ≡ m) × (lies.other ≡ o)
parts lies m o is =
    let same : two m o ≡ two lies.main lies.other = same_Some _ _ is in
    (sym (ap (λ (p : SlotPair). p.main) same), sym (ap (λ (p : SlotPair). p.other) same))

same_placement : (lies : Placement) (m o r : ℕ) → lies.main ≡ m → lies.other ≡ o → lies.row ≡ r → lies ≡ record { main = m; other = o; row = r }
same_placement lies m o r main other row = rw (← main, ← other, ← row) refl

enough : (s pairs rows : ℕ) → 1 ≤ pairs → 1 ≤ rows → s < (s + 1) * (pairs * rows)
enough s pairs rows some_pair some_row =
    let one : 1 * 1 ≤ pairs * rows = mul-le 1 1 pairs rows some_pair some_row in
    let more : (s + 1) * 1 ≤ (s + 1) * (pairs * rows) = mul-le-mul_left (s + 1) one in
    omega (arith, more)

item_below : (shape : Shape) (level : Level) (s : ℕ) → 1 ≤ data_members level shape.members → 1 ≤ stripe_rows level shape.strip → s < shape.size → (lies : Placement) × (item_of_stripes level shape s ≡ Some lies)
item_below shape level s some_pair some_row below =
    let long : s < length (stripes level shape.members shape.strip (s + 1)) =
    subst (λ z. s < z) (sym (length_stripes level shape.members shape.strip (s + 1))) (enough s (data_members level shape.members) (stripe_rows level shape.strip) some_pair some_row) in
    let none : Placement = record { main = 0; other = 0; row = 0 } in (
      get_or (stripes level shape.members shape.strip (s + 1)) s none,
      ap (λ b. if b then slice_get (stripes level shape.members shape.strip (s + 1)) s else None) (lt-ltb s shape.size below)
          ∙ slice_get-get_or (stripes level shape.members shape.strip (s + 1)) s none long,
    )

-- an item of a volume is one of its stripes, of a sector below its size
record IsItem (shape : Shape) (level : Level) (s : ℕ) (lies : Placement) : Type 0 where
  below : s < shape.size
  item : slice_get (stripes level shape.members shape.strip (s + 1)) s ≡ Some lies

is_item : (shape : Shape) (level : Level) (s : ℕ) (lies : Placement) → item_of_stripes level shape s ≡ Some lies → IsItem shape level s lies
is_item shape level s lies is = at (nat_lt s shape.size) refl is
  where
    at : (b : Bool) → nat_lt s shape.size ≡ b → (if b then slice_get (stripes level shape.members shape.strip (s + 1)) s else None) ≡ Some lies → IsItem shape level s lies
    at true lt is = record { below = grind (arith, nat_tests, lt); item = is }
    at false ge is = absurd (none-some lies is)

-- TWO COPIES

pub mirror_is : (n strip s : ℕ) (lies : Placement) → LiesAt One n strip s lies → lies ≡ record { main = 0; other = 1; row = s }
mirror_is n strip s lies at = by at.on_pair at.slots (omega (arith, at.row, at.row_below, at.sector, at.pair_below))
  where
    by : (d : ℕ) → slice_get (stripe_slots One n at.in_stripe) d ≡ Some (two lies.main lies.other) → lies.row ≡ s → lies ≡ record { main = 0; other = 1; row = s }
    by zero slots row = let pair = parts lies 0 1 slots in same_placement lies 0 1 s pair.0 pair.1 row
    by (suc d) slots row = absurd (none-some _ slots)

-- item s of two copies is in the row of its number
pub copies_are_items : (shape : Shape) (s : ℕ) → s < shape.size → item_of_stripes One shape s ≡ Some (record { main = 0; other = 1; row = s })
copies_are_items shape s below =
    let item = item_below shape One s (omega arith) (omega arith) below in
    item.1 ∙ ap Some (mirror_is shape.members shape.strip s item.0 (item_lies One shape.members shape.strip (s + 1) s item.0 (is_item shape One s item.0 item.1).item))

mirror_item : (shape : Shape) (s : ℕ) → placement_by (Some One) shape s ≡ item_of_stripes One shape s
mirror_item shape s = elim (cases_lt s shape.size) [
  | inl below ↦
      let here : placement_by (Some One) shape s ≡ Some (record { main = 0; other = 1; row = s }) = rw (lt-ltb s shape.size below) refl in
      here ∙ sym (copies_are_items shape s below)
  | inr past ↦ rw (le-ltb s shape.size past) refl
]

-- SECTORS

listed : (level : Level) (shape : Shape) (s : ℕ) → placement_by (Some level) shape s ≡ item_of_stripes level shape s
listed One shape s = mirror_item shape s
listed Five shape s = refl
listed Ten shape s = refl

-- each sector is an item of its volume's stripes
pub items_are_placed : (shape : Shape) (level : Level) (s : ℕ) → shape.level ≡ Some level → placement_of shape s ≡ item_of_stripes level shape s
items_are_placed shape level s some = ap (λ o. placement_by o shape s) some ∙ listed level shape s

-- the level of a volume that has a placement
leveled : (shape : Shape) (s : ℕ) (lies : Placement) → sector_placement shape s ≡ Some lies → (level : Level) × (shape.level ≡ Some level) × IsItem shape level s lies
leveled shape s lies is = at shape.level refl is
  where
    at : (o : Option Level) → shape.level ≡ o → placement_by o shape s ≡ Some lies → (level : Level) × (shape.level ≡ Some level) × IsItem shape level s lies
    at None none is = absurd (none-some lies is)
    at (Some level) some is = (level, some, is_item shape level s lies (sym (listed level shape s) ∙ is))

pub lies_at : (shape : Shape) (level : Level) (s : ℕ) (lies : Placement) → shape.level ≡ Some level → sector_placement shape s ≡ Some lies → LiesAt level shape.members shape.strip s lies
lies_at shape level s lies some is =
    item_lies level shape.members shape.strip (s + 1) s lies (is_item shape level s lies (sym (items_are_placed shape level s some) ∙ is)).item

pub placed_below : (shape : Shape) (level : Level) (s : ℕ) → IsLaidOut shape level → s < shape.size → (lies : Placement) × (sector_placement shape s ≡ Some lies)
placed_below shape level s laid below =
    let item = item_below shape level s laid.data_slots laid.rows below in
    (item.0, items_are_placed shape level s laid.is ∙ item.1)

pub none_past : (shape : Shape) (s : ℕ) → shape.size ≤ s → sector_placement shape s ≡ None
none_past shape s past = at shape.level
  where
    at : (o : Option Level) → placement_by o shape s ≡ None
    at None = refl
    at (Some One) = rw (le-ltb s shape.size past) refl
    at (Some Five) = rw (le-ltb s shape.size past) refl
    at (Some Ten) = rw (le-ltb s shape.size past) refl

-- ONE SECTOR A ROW

pub main_at : (slots : List ℕ) (c d m o : ℕ) → slice_get (map (λ k. two k c) slots) d ≡ Some (two m o) → slice_get slots d ≡ Some m
main_at [] c d m o is = absurd (none-some _ is)
main_at (x ∷ slots) c zero m o is = ap Some (ap (λ (p : SlotPair). p.main) (same_Some _ _ is))
main_at (x ∷ slots) c (suc d) m o is = main_at slots c d m o is

-- a copy is on one of the two slots of its pair
on_either : (a : Placement) (m o slot : ℕ) → Some (two m o) ≡ Some (two a.main a.other) → (a.main == slot || a.other == slot) ≡ true → (slot ≡ m) ⊎ (slot ≡ o)
on_either a m o slot is copy =
    let pair = parts a m o is in
    elim (or_cases (a.main == slot) (a.other == slot) copy) [
      | inl main ↦ inl (sym (eqb-true a.main slot main) ∙ pair.0)
      | inr other ↦ inr (sym (eqb-true a.other slot other) ∙ pair.1)
    ]

apart : (slot : ℕ) → (slot ≡ 0) ⊎ (slot ≡ 1) → (slot ≡ 2) ⊎ (slot ≡ 3) → ⊥
apart slot first second = omega (arith, first, second)

-- in one stripe copies on one slot are of one pair
same_number : (level : Level) (n t slot d e : ℕ) (a b : Placement)
    → slice_get (stripe_slots level n t) d ≡ Some (two a.main a.other) → slice_get (stripe_slots level n t) e ≡ Some (two b.main b.other)
    → has_copy (Some level) a slot ≡ true → has_copy (Some level) b slot ≡ true → d ≡ e
same_number One n t slot zero zero a b da eb ca cb = refl
same_number One n t slot (suc d) e a b da eb ca cb = absurd (none-some _ da)
same_number One n t slot zero (suc e) a b da eb ca cb = absurd (none-some _ eb)
same_number Five n t slot d e a b da eb ca cb =
    kept_once (λ k. not (k == parity_slot n t)) 0 n d e slot
    (main_at (others n (parity_slot n t)) (parity_slot n t) d a.main a.other da ∙ ap Some (eqb-true a.main slot ca))
    (main_at (others n (parity_slot n t)) (parity_slot n t) e b.main b.other eb ∙ ap Some (eqb-true b.main slot cb))
same_number Ten n t slot zero zero a b da eb ca cb = refl
same_number Ten n t slot zero (suc zero) a b da eb ca cb = absurd (apart slot (on_either a 0 1 slot da ca) (on_either b 2 3 slot eb cb))
same_number Ten n t slot (suc zero) zero a b da eb ca cb = absurd (apart slot (on_either b 0 1 slot eb cb) (on_either a 2 3 slot da ca))
same_number Ten n t slot (suc zero) (suc zero) a b da eb ca cb = refl
same_number Ten n t slot (suc (suc d)) e a b da eb ca cb = absurd (none-some _ da)
same_number Ten n t slot zero (suc (suc e)) a b da eb ca cb = absurd (none-some _ eb)
same_number Ten n t slot (suc zero) (suc (suc e)) a b da eb ca cb = absurd (none-some _ eb)

pub one_sector : (shape : Shape) (slot row a b : ℕ) → IsPlacedIn shape slot row a → IsPlacedIn shape slot row b → a ≡ b
one_sector shape slot row a b first second =
    let l = leveled shape a first.lies first.placed in
    let level : Level = l.0 in
    let f : LiesAt level shape.members shape.strip a first.lies = lies_at shape level a first.lies l.1 first.placed in
    let g : LiesAt level shape.members shape.strip b second.lies = lies_at shape level b second.lies l.1 second.placed in
    let rows : ℕ = stripe_rows level shape.strip in
    let same = same_from_place f.in_stripe f.at_row g.in_stripe g.at_row rows f.row_below g.row_below (sym f.row ∙ first.at_row ∙ sym second.at_row ∙ g.row) in
    let number : f.on_pair ≡ g.on_pair =
    same_number level shape.members f.in_stripe slot f.on_pair g.on_pair first.lies second.lies f.slots
    (subst (λ t. slice_get (stripe_slots level shape.members t) g.on_pair ≡ Some (two second.lies.main second.lies.other)) (sym same.0) g.slots)
    (subst (λ o. has_copy o first.lies slot ≡ true) l.1 first.copy) (subst (λ o. has_copy o second.lies slot ≡ true) l.1 second.copy) in
    f.sector ∙ total rows (data_members level shape.members) f.in_stripe f.on_pair f.at_row g.in_stripe g.on_pair g.at_row same.0 number same.1 ∙ sym g.sector
  where
    total : (rows pairs t d at u e other : ℕ) → t ≡ u → d ≡ e → at ≡ other → (t * pairs + d) * rows + at ≡ (u * pairs + e) * rows + other
    total rows pairs t d at u e other first second third = rw (first, second, third) refl

other_at : (slots : List ℕ) (c d m o : ℕ) → slice_get (map (λ k. two k c) slots) d ≡ Some (two m o) → o ≡ c
other_at [] c d m o is = absurd (none-some _ is)
other_at (x ∷ slots) c zero m o is = sym (ap (λ (p : SlotPair). p.other) (same_Some _ _ is))
other_at (x ∷ slots) c (suc d) m o is = other_at slots c d m o is

-- a sector's data isn't on the parity's slot
pub off_parity : (n strip s : ℕ) (lies : Placement) (at : LiesAt Five n strip s lies) → lies.main ≡ parity_slot n at.in_stripe → ⊥
off_parity n strip s lies at same =
    let parity : ℕ = parity_slot n at.in_stripe in
    let kept = kept_at (λ k. not (k == parity)) 0 n at.on_pair lies.main (main_at (others n parity) parity at.on_pair lies.main lies.other at.slots) in
    eqb-false lies.main parity (not-true (lies.main == parity) kept.2) same

pub no_sector : (shape : Shape) (s other : ℕ) (lies : Placement) → shape.level ≡ Some Five → sector_placement shape s ≡ Some lies → IsPlacedIn shape lies.other lies.row other → ⊥
no_sector shape s other lies five placed stands =
    let n : ℕ = shape.members in
    let f : LiesAt Five n shape.strip s lies = lies_at shape Five s lies five placed in
    let g : LiesAt Five n shape.strip other stands.lies = lies_at shape Five other stands.lies five stands.placed in
    let same = same_from_place f.in_stripe f.at_row g.in_stripe g.at_row (stripe_rows Five shape.strip) f.row_below g.row_below (sym f.row ∙ sym stands.at_row ∙ g.row) in
    let copy : (stands.lies.main == lies.other) ≡ true = subst (λ o. has_copy o stands.lies lies.other ≡ true) five stands.copy in
    let parity : lies.other ≡ parity_slot n f.in_stripe = other_at (others n (parity_slot n f.in_stripe)) (parity_slot n f.in_stripe) f.on_pair lies.main lies.other f.slots in
    off_parity n shape.strip other stands.lies g (eqb-true stands.lies.main lies.other copy ∙ parity ∙ ap (parity_slot n) same.0)

-- THE ROWS OF A VOLUME

row_fits : (t d at pairs strip size : ℕ) → d < pairs → at < strip → (t * pairs + d) * strip + at < size → t * strip + at < strip * rounded_up size (pairs * strip)
row_fits t d at pairs strip size pair row below =
    let step : ℕ = pairs * strip in
    let one : 1 * 1 ≤ pairs * strip = mul-le 1 1 pairs strip (omega arith) (omega arith) in
    let before : t * (pairs * strip) ≤ (t * pairs + d) * strip + at = omega arith in
    let stripes_before : t + 1 ≤ rounded_up size (pairs * strip) = le-div (t + 1) (size + (pairs * strip - 1)) (pairs * strip) (omega (arith, one)) (omega (arith, before, one, below)) in
    let rows_before : strip * (t + 1) ≤ strip * rounded_up size (pairs * strip) = mul-le-mul_left strip stripes_before in
    omega (arith, rows_before, row)

row_below : (level : Level) (n strip size s : ℕ) (lies : Placement) → LiesAt level n strip s lies → s < size → lies.row < rows_of (Some level) n size strip
row_below One n strip size s lies at below = omega (arith, at.row, at.row_below, at.sector, below)
row_below Five n strip size s lies at below =
    subst (λ z. z < rows_of (Some Five) n size strip) (sym at.row) (row_fits at.in_stripe at.on_pair at.at_row (n - 1) strip size at.pair_below at.row_below (subst (λ z. z < size) at.sector below))
row_below Ten n strip size s lies at below =
    subst (λ z. z < rows_of (Some Ten) n size strip) (sym at.row) (row_fits at.in_stripe at.on_pair at.at_row 2 strip size at.pair_below at.row_below (subst (λ z. z < size) at.sector below))

pub rows_hold : (shape : Shape) (s : ℕ) (lies : Placement) → shape.rows ≡ rows_of shape.level shape.members shape.size shape.strip → sector_placement shape s ≡ Some lies → lies.row < shape.rows
rows_hold shape s lies rows is =
    let l = leveled shape s lies is in
    let below = row_below l.0 shape.members shape.strip shape.size s lies (lies_at shape l.0 s lies l.1 is) l.2.below in
    subst (λ z. lies.row < z) (sym (rows ∙ ap (λ o. rows_of o shape.members shape.size shape.strip) l.1)) below

-- ONE PLACEMENT A SECTOR

one_placement : (level : Level) (n strip s : ℕ) (a b : Placement) → LiesAt level n strip s a → LiesAt level n strip s b → a ≡ b
one_placement level n strip s a b f g =
    let rows : ℕ = stripe_rows level strip in
    let pairs : ℕ = data_members level n in
    let run = same_from_place (f.in_stripe * pairs + f.on_pair) f.at_row (g.in_stripe * pairs + g.on_pair) g.at_row rows f.row_below g.row_below (sym f.sector ∙ g.sector) in
    let pair = same_from_place f.in_stripe f.on_pair g.in_stripe g.on_pair pairs f.pair_below g.pair_below run.0 in
    let slots : Some (two b.main b.other) ≡ Some (two a.main a.other) = sym g.slots ∙ sym (at_same f.in_stripe g.in_stripe f.on_pair g.on_pair pair.0 pair.1) ∙ f.slots in
    let same = parts a b.main b.other slots in
    same_placement a b.main b.other b.row same.0 same.1 (f.row ∙ row_same rows f.in_stripe g.in_stripe f.at_row g.at_row pair.0 run.1 ∙ sym g.row)
  where
    at_same : (t u d e : ℕ) → t ≡ u → d ≡ e → slice_get (stripe_slots level n t) d ≡ slice_get (stripe_slots level n u) e
    at_same t u d e first second = rw (first, second) refl

    row_same : (rows t u at other : ℕ) → t ≡ u → at ≡ other → t * rows + at ≡ u * rows + other
    row_same rows t u at other first second = rw (first, second) refl

pub placed_at : (shape : Shape) (level : Level) (s : ℕ) (lies : Placement) → IsLaidOut shape level → s < shape.size → LiesAt level shape.members shape.strip s lies → sector_placement shape s ≡ Some lies
placed_at shape level s lies laid below at =
    let placed = placed_below shape level s laid below in
    placed.1 ∙ ap Some (one_placement level shape.members shape.strip s placed.0 lies (lies_at shape level s placed.0 laid.is placed.1) at)

-- THE SLOTS OF A PLACEMENT

pub five_below : (n strip s : ℕ) (lies : Placement) → LiesAt Five n strip s lies → lies.main < n
five_below n strip s lies at =
    let parity : ℕ = parity_slot n at.in_stripe in
    let kept = kept_at (λ k. not (k == parity)) 0 n at.on_pair lies.main (main_at (others n parity) parity at.on_pair lies.main lies.other at.slots) in
    omega (arith, kept.1)

pub ten_pair : (n strip s : ℕ) (lies : Placement) → LiesAt Ten n strip s lies → ((lies.main ≡ 0) × (lies.other ≡ 1)) ⊎ ((lies.main ≡ 2) × (lies.other ≡ 3))
ten_pair n strip s lies at = by at.on_pair at.slots
  where
    by : (d : ℕ) → slice_get (stripe_slots Ten n at.in_stripe) d ≡ Some (two lies.main lies.other) → ((lies.main ≡ 0) × (lies.other ≡ 1)) ⊎ ((lies.main ≡ 2) × (lies.other ≡ 3))
    by zero slots = inl (parts lies 0 1 slots)
    by (suc zero) slots = inr (parts lies 2 3 slots)
    by (suc (suc d)) slots = absurd (none-some _ slots)

pub sector_below : (shape : Shape) (s : ℕ) (lies : Placement) → sector_placement shape s ≡ Some lies → s < shape.size
sector_below shape s lies is = (leveled shape s lies is).2.below
