-- Lists of disk numbers and of serials, as the machine asks of them. Source: this project's own.
use Rattle.std.specs.Prelude.{ℕ, ◌==◌, not, Bool, true, false, List, [], ◌∷◌, filter, slice_get, Option}
use Rattle.std.specs.List.{list_any}
use Rattle.std.specs.Str.{bytes_eq}

abbrev pub has : ℕ → List ℕ → Bool
has d ds = list_any (λ e. e == d) ds

abbrev pub without : ℕ → List ℕ → List ℕ
without d ds = filter (λ e. not (e == d)) ds

abbrev pub first_of : List ℕ → Option ℕ
first_of ds = slice_get ds 0

abbrev pub is_empty : List ℕ → Bool
is_empty [] = true
is_empty (d ∷ ds) = false

abbrev pub has_serial : List ℕ → List (List ℕ) → Bool
has_serial serial serials = list_any (λ s. bytes_eq s serial) serials
