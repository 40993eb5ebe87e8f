-- A line as it is written, piece by piece.
use Rattle.std.proofs.Common.{◌≡◌, ℕ, List, ◌++◌, ap, sym}
use Rattle.std.specs.List.{flat_map}
use Rattle.std.proofs.lemmas.List.Folds.{flat_map-map}
use Rattle.imsm_text.specs.declared.word.Word.{Word}
use Rattle.imsm_text.specs.Text.{line, line_feed, spaced, word_text, words_text}
use Rattle.image_outside.specs.Lines.{spaced_text}

pub line_is : (first : List ℕ) (words : List Word) → first ++ (flat_map spaced_text words ++ line_feed) ≡ line first (words_text words)
line_is first words = ap (λ (l : List ℕ). first ++ (l ++ line_feed)) (sym (flat_map-map spaced word_text words))
