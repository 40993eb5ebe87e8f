-- What stands where on the members of a volume, by the placement of its sectors, and that placement by numbers. Source:
-- the layouts of the kernel's md (md.rst): two copies at level one, left-asymmetric parity at level five (raid5.c), and
-- near-2 over four members at level ten (raid10.c).
use Rattle.std.specs.Prelude.{◌≡◌, ℕ, ◌+◌, ◌*◌, ◌<◌, ◌≤◌, ◌==◌, ◌||◌, nat_lt, Bool, true, false, if◌then◌else◌, slice_get, Option, Some, None}
use Rattle.units.specs.declared.volume.Level.{Level}
use Rattle.units.specs.declared.volume.Level.TheVariants.{One, Five, Ten}
use Rattle.units.specs.Levels.{data_members}
use Rattle.array_model.specs.Placement.{Shape, Placement, SlotPair, stripe_slots, stripe_rows, placement_of}

-- where sector s of a volume lies: as the laws of a run place it
abbrev pub sector_placement : Shape → ℕ → Option Placement
sector_placement shape s = placement_of shape s

-- WHAT STANDS IN A ROW

-- a slot holds a sector of this placement itself, as data or as mirror
abbrev pub has_copy : Option Level → Placement → ℕ → Bool
has_copy None lies slot = false
has_copy (Some One) lies slot = lies.main == slot || lies.other == slot
has_copy (Some Five) lies slot = lies.main == slot
has_copy (Some Ten) lies slot = lies.main == slot || lies.other == slot

-- sector s stands in this row of a slot
pub record IsPlacedIn (shape : Shape) (slot row s : ℕ) : Type 0 where
  pub lies : Placement
  pub placed : sector_placement shape s ≡ Some lies
  pub copy : has_copy shape.level lies slot ≡ true
  pub at_row : lies.row ≡ row

-- the two slots that are copies of each other, of which a slot is one: at levels one and ten
abbrev pub mirror_pair : ℕ → SlotPair
mirror_pair slot = if nat_lt slot 2 then record { main = 0; other = 1 } else record { main = 2; other = 3 }

-- THE SAME BY NUMBERS

-- a shape of this level in which each stripe has an item: a member for data at least, and a row
pub record IsLaidOut (shape : Shape) (level : Level) : Type 0 where
  pub is : shape.level ≡ Some level
  pub data_slots : 1 ≤ data_members level shape.members
  pub rows : 1 ≤ stripe_rows level shape.strip

-- sector s lies in this stripe, on this of its pairs of slots, in this of the stripe's rows, each counted from 0
pub record LiesAt (level : Level) (n strip s : ℕ) (lies : Placement) : Type 0 where
  pub in_stripe : ℕ
  pub on_pair : ℕ
  pub at_row : ℕ
  pub pair_below : on_pair < data_members level n
  pub row_below : at_row < stripe_rows level strip
  pub slots : slice_get (stripe_slots level n in_stripe) on_pair
      ≡ Some (record { main = lies.main; other = lies.other })
  pub row : lies.row ≡ in_stripe * stripe_rows level strip + at_row
  pub sector : s ≡ (in_stripe * data_members level n + on_pair) * stripe_rows level strip + at_row
