-- Which disk is too small. Source: this project's own.
use Rattle.std.specs.Prelude.{ℕ, ◌<◌, ◌≤◌, List, All, length, take, slice_index}

-- disk d is the first of disks of these sizes that has fewer sectors than this
pub record IsFirstBelow (least : ℕ) (sizes : List ℕ) (d : ℕ) : Type 0 where
  pub there : d < length sizes
  pub small : slice_index sizes d < least
  pub before : All (λ n. least ≤ n) (take d sizes)
