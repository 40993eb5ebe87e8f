-- Pieces appended one after the other.
use Rattle.std.proofs.Common.{◌≡◌, ℕ, List, ◌++◌, append_assoc}

pub five : (o x1 x2 x3 x4 x5 a b d e f : List ℕ) → x1 ≡ o ++ a → x2 ≡ x1 ++ b → x3 ≡ x2 ++ d → x4 ≡ x3 ++ e → x5 ≡ x4 ++ f
    → x5 ≡ o ++ (a ++ (b ++ (d ++ (e ++ f))))
five o x1 x2 x3 x4 x5 a b d e f h1 h2 h3 h4 h5 = rw (h5, h4, h3, h2, h1) (simp append_assoc)
