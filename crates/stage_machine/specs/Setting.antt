-- What a run of the machine takes as given, and how the disks stand when it begins. Source: this project's own.
use Rattle.std.specs.Prelude.{ℕ, ◌==◌, ◌||◌, Bool, false, List, [], ◌∷◌}
use Rattle.array_model.specs.Script.{Asked}
use Rattle.array_model.specs.Blocks.{Laid}
use Rattle.array_model.specs.Renewal.{FitsGeneration, IsRenewable, IsRenewed}
use Rattle.array_model.specs.Start.{Start}

-- The start, the script, the disks that a round writes to, in the order of their numbers, the disks of the volume in
-- the order of its slots, and the edit of a round: the same block with a generation and with the dirty bit of volume 0.
pub record Setting : Type 0 where
  pub start : Start
  pub asked : Asked
  pub targets : List ℕ
  pub members : List ℕ
  pub renew : Laid → ℕ → Bool → Laid

abbrev pub has_disk : ℕ → List ℕ → Bool
has_disk d [] = false
has_disk d (e ∷ es) = (e == d) || has_disk d es

-- on each block that a round may be edited from, and each generation that fits, the edit is that of a round
abbrev pub Renews : Setting → Type 0
Renews S =
    (m : Laid) (g : ℕ) (y : Bool) → IsRenewable S.start.words m → FitsGeneration g
    → IsRenewed S.start.words m g y (S.renew m g y)
