use Rattle.std.proofs.Common.{◌∙◌, ◌∷◌, [], List, ℕ, ap, refl}
use Rattle.image_words.specs.Words.{family_word}
use Rattle.image_words.proofs.volumes.split_family.Goals as goal

pub returns-in_ok-family-in-Some-clause-some : goal.returns-in_ok-family-in-Some-clause-some
returns-in_ok-family-in-Some-clause-some c =
    let is = c.in_ok-family-in-Some.ensures.some in
    (family_word ∷ is.0 ∷ [], (is.0, refl, is.1), c.in-Some.ensures.some ∙ ap (λ (l : List (List ℕ)). family_word ∷ l) is.2)
