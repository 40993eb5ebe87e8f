use Rattle.std.proofs.Common.{◌≡◌, ◌<◌, ◌∙◌, ℕ, List, [], length, map, get_or, sym, ap, subst, String}
use Rattle.std.specs.Prelude.{string_bytes}
use Rattle.std.specs.declared.alloc.Global.{Global}
use Rattle.std.proofs.lemmas.List.{get_or-map, length-map}
use Rattle.image_words.specs.Words.{spelled, texts}
use Rattle.image_words.proofs.Grammar.{word_at}
use Rattle.image_words.proofs.words.images_of.Goals as goal

-- a word that names no image stands where an image is named
pub returns-in_default-clause-refused : goal.returns-in_default-clause-refused
returns-in_default-clause-refused c = λ is ws each same.
    let k = c.loop-word.word-index in
    let words = c.args.words.now in
    let within : k < length (map spelled ws) = subst (λ (l : List (List ℕ)). k < length l) same (rw length-map c.loop-word-test.true) in
    let at = word_at ws k [] each within in
    let here : get_or (texts words) k [] ≡ string_bytes c.word-item.result = get_or-map (λ (w : String Global). string_bytes w) words k c.word-item.result [] c.loop-word-test.true ∙ ap (λ (w : String Global). string_bytes w) (sym c.word-item.is) in
    c.in_default.ensures.none at.0 at.1 (c.as_str.ensures.value ∙ sym here ∙ ap (λ (l : List (List ℕ)). get_or l k []) same ∙ at.2)
