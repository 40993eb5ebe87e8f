-- Where the sectors of a volume lie on its members: as the items, in order, of one list. Source: the layouts of the
-- kernel's md (md.rst): two copies at level one, left-asymmetric parity at level five (raid5.c), and near-2 over four
-- members at level ten (raid10.c).
use Rattle.std.specs.Prelude.{ℕ, ◌+◌, ◌-◌, ◌*◌, ◌%◌, ◌==◌, nat_lt, not, if◌then◌else◌, List, [], ◌∷◌, map, filter, flat_map, slice_get, Option, Some, None}
use Rattle.std.specs.List.{range_with_len}
use Rattle.units.specs.declared.volume.Level.{Level}
use Rattle.units.specs.declared.volume.Level.TheVariants.{One, Five, Ten}

-- how a volume lies on its members, all in sectors: its size, its strip, the first of each member, and the rows
pub record Shape : Type 0 where
  pub level : Option Level
  pub members : ℕ
  pub size : ℕ
  pub strip : ℕ
  pub pba : ℕ
  pub rows : ℕ

-- the slot of the data, the slot of its mirror or of the parity, and the row on both
pub record Placement : Type 0 where
  pub main : ℕ
  pub other : ℕ
  pub row : ℕ

-- THE LIST

-- the slot of a sector's data, and that of its mirror or of its parity
pub record SlotPair : Type 0 where
  pub main : ℕ
  pub other : ℕ

-- the slots 0 to n - 1 but one, in order
abbrev pub others : ℕ → ℕ → List ℕ
others n slot = filter (λ k. not (k == slot)) (range_with_len 0 n)

-- the slot of stripe t's parity, of n: the last slot at first, and one lower with each stripe
abbrev pub parity_slot : ℕ → ℕ → ℕ
parity_slot n t = (n - 1) - t % n

-- the slots that hold the data of stripe t, of n, in order, each with its other slot
abbrev pub stripe_slots : Level → ℕ → ℕ → List SlotPair
stripe_slots One n t = record { main = 0; other = 1 } ∷ []
stripe_slots Five n t = map (λ k. record { main = k; other = parity_slot n t }) (others n (parity_slot n t))
stripe_slots Ten n t = record { main = 0; other = 1 } ∷ record { main = 2; other = 3 } ∷ []

-- how many rows of a stripe are on one member: a strip; at level one, where strips aren't read, one row
abbrev pub stripe_rows : Level → ℕ → ℕ
stripe_rows One strip = 1
stripe_rows Five strip = strip
stripe_rows Ten strip = strip

-- so many rows of a pair of slots, from a row on
abbrev pub rows_on : ℕ → ℕ → SlotPair → List Placement
rows_on first count pair =
    map (λ row. record { main = pair.main; other = pair.other; row = row }) (range_with_len first count)

-- stripe t of n members
abbrev pub stripe : Level → ℕ → ℕ → ℕ → List Placement
stripe level n strip t =
    flat_map (rows_on (t * stripe_rows level strip) (stripe_rows level strip)) (stripe_slots level n t)

-- the first so many stripes, one behind the other
abbrev pub stripes : Level → ℕ → ℕ → ℕ → List Placement
stripes level n strip count = flat_map (stripe level n strip) (range_with_len 0 count)

-- Sector s of a volume is item s of its stripes. A stripe has an item at least, so that s + 1 of them have it.
abbrev pub item_of_stripes : Level → Shape → ℕ → Option Placement
item_of_stripes level shape s =
    if nat_lt s shape.size then slice_get (stripes level shape.members shape.strip (s + 1)) s else None

-- WHERE A SECTOR LIES

-- at level one the same without the list: each sector is on both slots, in the row of its number
abbrev pub placement_by : Option Level → Shape → ℕ → Option Placement
placement_by None shape s = None
placement_by (Some One) shape s = if nat_lt s shape.size then Some (record { main = 0; other = 1; row = s }) else None
placement_by (Some Five) shape s = item_of_stripes Five shape s
placement_by (Some Ten) shape s = item_of_stripes Ten shape s

-- where sector s lies
abbrev pub placement_of : Shape → ℕ → Option Placement
placement_of shape s = placement_by shape.level shape s
