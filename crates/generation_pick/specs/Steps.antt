-- What the steps of the pick find. Source: this project's own.
use Rattle.std.specs.Prelude.{◌≡◌, ℕ, ◌<◌, ◌≤◌, ◌⊎◌, List, All, Contains}
use Rattle.generation_pick.specs.declared.found.FoundAt.{FoundAt}
use Rattle.generation_pick.specs.declared.found.Pick.{Pick}
use Rattle.generation_pick.specs.declared.twins.Pair.{Pair}
use Rattle.generation_pick.specs.Found.{generation_at, AreTwins}

-- an entry is to be picked in place of what was picked
abbrev pub IsNewer : FoundAt → Pick → Type 0
IsNewer f p = (p.generation < generation_at f) ⊎ ((generation_at f ≡ p.generation) × (f.disk.0 < p.disk.0))

-- e is the lowest disk of a twin of this entry
pub record IsLeastTwin (one : FoundAt) (list : List FoundAt) (e : ℕ) : Type 0 where
  pub other : FoundAt
  pub there : Contains list other
  pub twins : AreTwins one other
  pub disk : other.disk.0 ≡ e
  pub least : All (λ g. AreTwins one g → e ≤ g.disk.0) list

-- the first pair doesn't come behind the second one
pub record IsUpTo (p q : Pair) : Type 0 where
  pub disk : p.disk.0 ≤ q.disk.0
  pub twin : p.disk.0 ≡ q.disk.0 → p.twin.0 ≤ q.twin.0
