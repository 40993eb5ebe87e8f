-- What a run starts from: the disks as they were opened, and what the opening said. Source: this project's own.
use Rattle.std.specs.Prelude.{ℕ, Bool, List, [], length, slice_index, slice_index_or, Option}
use Rattle.units.specs.declared.disk.Sector.{Sector}
use Rattle.array_model.specs.Blocks.{Words, Laid}

-- the disks of a bank, by number: serials, sizes in sectors, and the sectors that stood there at opening
pub record Disks : Type 0 where
  pub count : ℕ
  pub serial : ℕ → List ℕ
  pub sectors : ℕ → ℕ
  pub opening : ℕ → ℕ → Sector

-- the same from lists; past their ends there is no serial, no sector, and nothing stands
abbrev pub disks_of : List (List ℕ) → List ℕ → List (List Sector) → Disks
disks_of serials sizes opening = record {
  count = length serials;
  serial = λ d. slice_index_or serials d [];
  sectors = λ d. slice_index sizes d;
  opening = λ d p. slice_index_or (slice_index_or opening d []) p (record { 0 = [] });
}

-- how blocks are read, the disks, and the opening: the newest block, the volumes that were started, the row that a
-- volume's pass starts at, the disks that are spares, the serials of those that the verdict counts out (they are read in
-- no slot from the first round on), and each volume's content with the sectors that were unsure
pub record Start : Type 0 where
  pub words : Words
  pub disks : Disks
  pub newest : Laid
  pub is_started : ℕ → Bool
  pub pass_from : ℕ → Option ℕ
  pub is_spare : ℕ → Bool
  pub counts_out : List (List ℕ)
  pub content : ℕ → ℕ → Sector
  pub unsure : ℕ → ℕ → Bool
