-- The line of a command that ends before it looked at a disk. Source: this project's own.
use Rattle.std.specs.Prelude.{ℕ, ◌+◌, List, [], ◌∷◌, codes}
use Rattle.std.specs.Fmt.{decimal}
use Rattle.units.specs.declared.bounds.TheConstants.{MAX_DISKS}
use Rattle.imsm_text.specs.Text.{line}

-- the words aren't in the grammar
abbrev pub words_line : List ℕ
words_line = line (codes "words") []

-- an image of this name couldn't be opened
abbrev pub open_line : List ℕ → List ℕ
open_line name = line (codes "open") (name ∷ [])

-- a limit is passed: the limit of what, and the first number past it
abbrev pub limit_line : List ℕ → ℕ → List ℕ
limit_line kind past = line (codes "limit") (kind ∷ decimal past ∷ [])

abbrev pub images_limit_line : List ℕ
images_limit_line = limit_line (codes "images") (MAX_DISKS + 1)
