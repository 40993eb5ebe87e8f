-- Bytes that are written piece by piece. Source: this project's own.
use Rattle.std.specs.Prelude.{◌≡◌, ℕ, List, ◌++◌, Option}
use Rattle.image_outside.specs.Outside.{Adds}

-- of these bytes some first ones were added, and the others are held
pub record AddsFront (old new : Option (List ℕ)) (bytes held : List ℕ) : Type 0 where
  pub front : List ℕ
  pub are : bytes ≡ front ++ held
  pub adds : Adds old new front
