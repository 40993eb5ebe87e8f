-- Marks of slots. Source: this project's own.
use Rattle.std.specs.Prelude.{◌≡◌, ℕ, Bool, false, List, slice_index_or}
use Rattle.array_machine.specs.Numbers.{has}

-- just the slots of a list, in whatever order, are marked
abbrev pub AreMarksOf : List Bool → List ℕ → Type 0
AreMarksOf marks slots = (s : ℕ) → slice_index_or marks s false ≡ has s slots
