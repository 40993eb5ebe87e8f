-- Fronts of lists, and the list at an element.
use Rattle.std.proofs.Common.{◌≡◌, ℕ, suc, ◌+◌, ◌<◌, Bool, false, List, [], ◌∷◌, ◌++◌, length, get_or, take, drop, sym, ◌∙◌, ap, add-one}
use Rattle.std.proofs.Math.Seq.{drop-cons}
use Rattle.std.proofs.lemmas.List.{take_more, take-append-drop}
use Rattle.std.specs.Prelude.{◌↔◌, IsTrue}

pub taken_more : {A : Type 0} (xs : List A) (k : ℕ) (x : A) → k < length xs → x ≡ get_or xs k x → take (k + 1) xs ≡ take k xs ++ x ∷ []
taken_more {A} xs k x below is = take_more xs k x below ∙ ap (λ (y : A). take k xs ++ y ∷ []) (sym is)

pub split_here : {A : Type 0} (xs : List A) (k : ℕ) (x : A) → k < length xs → x ≡ get_or xs k x → xs ≡ take k xs ++ x ∷ drop (k + 1) xs
split_here {A} xs k x below is =
    sym (take-append-drop k xs)
    ∙ ap (λ (ys : List A). take k xs ++ ys) (rw (add-one, drop-cons xs k x) (ap (λ (y : A). y ∷ drop (suc k) xs) (sym is)))

-- a test that failed
pub refuted : {P : Type 0} (b : Bool) → (IsTrue b ↔ P) → b ≡ false → P → ⊥
refuted b iff off p = let on = iff.1 p in cc
