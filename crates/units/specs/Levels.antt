-- What a RAID level needs of its members. Source: the levels of the kernel's md.rst; level ten is near-2 over four.
use Rattle.std.specs.Prelude.{ℕ, ◌+◌, ◌-◌, ◌*◌, ◌/◌, ◌&&◌, not, nat_le, Bool, true, false, List, take, drop, Option, Some, None}
use Rattle.std.specs.List.{list_any, count_by}
use Rattle.units.specs.declared.volume.Level.{Level}
use Rattle.units.specs.declared.volume.Level.TheVariants.{One, Five, Ten}

-- whether a volume can run with these of its slots in sync: one of two, all but one, or one of each pair
abbrev pub suffices : Option Level → List Bool → Bool
suffices None slots = false
suffices (Some One) slots = list_any (λ s. s) slots
suffices (Some Five) slots = nat_le (count_by not slots) 1
suffices (Some Ten) slots = list_any (λ s. s) (take 2 slots) && list_any (λ s. s) (drop 2 slots)

-- how many strips one stripe has for data
abbrev pub data_members : Level → ℕ → ℕ
data_members One count = 1
data_members Five count = count - 1
data_members Ten count = 2

abbrev pub rounded_up : ℕ → ℕ → ℕ
rounded_up n step = (n + (step - 1)) / step

abbrev pub rows_of : Option Level → ℕ → ℕ → ℕ → ℕ
rows_of None count size strip = 0
rows_of (Some One) count size strip = size
rows_of (Some Five) count size strip = strip * rounded_up size (data_members Five count * strip)
rows_of (Some Ten) count size strip = strip * rounded_up size (data_members Ten count * strip)
