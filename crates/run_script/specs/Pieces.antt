-- Pieces of bytes, one after the other, between separators. Source: this project's own.
use Rattle.std.specs.Prelude.{◌≡◌, ℕ, ◌==◌, List, [], ◌∷◌, Option, Some, None}
use Rattle.std.specs.Borrow.{Bor}
use Rattle.std.specs.List.{slice_split}

-- the pieces of what is left, if anything is
abbrev pub pieces_left : ℕ → Option (Bor (List ℕ)) → List (List ℕ)
pieces_left separator None = []
pieces_left separator (Some rest) = slice_split (λ c. c == separator) rest.now

-- the first of the pieces was taken, if there was one
abbrev pub Takes : Option (Bor (List ℕ)) → List (List ℕ) → List (List ℕ) → Type 0
Takes None old new = (old ≡ []) × (new ≡ [])
Takes (Some piece) old new = old ≡ piece.now ∷ new
