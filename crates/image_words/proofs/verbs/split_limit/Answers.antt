use Rattle.std.proofs.Common.{◌≡◌, ◌∙◌, ◌∷◌, List, String, Global, ap, subst, sym, string_bytes}
use Rattle.image_words.specs.Words.{IsLimit, texts}
use Rattle.image_words.proofs.Asked.{first_same, rest_same}
use Rattle.image_words.proofs.Limits.{one_limit}
use Rattle.image_words.proofs.verbs.split_limit.Goals as goal

pub returns-clause-only : goal.returns-clause-only
returns-clause-only c = λ limit word rest is same.
    let here = string_bytes c.in_ok-word.word.now in
    let behind = texts c.in_ok-word.rest.now in
    let split : here ∷ behind ≡ word ∷ rest = sym (ap (λ (l : List (String Global)). texts l) c.in_ok-word.ensures.cases.0) ∙ same in
    let first : c.as_str.result.now ≡ word = c.as_str.ensures.value ∙ first_same here word behind rest split in
    (one_limit word c.in_ok-limit.limit limit (subst (IsLimit c.in_ok-limit.limit) first c.in_ok-limit.ensures.some) is, rest_same here word behind rest split)
