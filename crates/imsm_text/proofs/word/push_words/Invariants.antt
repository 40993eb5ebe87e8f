use Rattle.std.proofs.Common.{◌≡◌, ◌++◌, take}
use Rattle.std.specs.List.{flat_map}
use Rattle.imsm_text.specs.Text.{spaced, words_text}
use Rattle.imsm_text.proofs.word.push_words.Given as goal

abbrev pub invariant-loop-word : goal.invariant-loop-word
invariant-loop-word l = l.out.items ≡ l.initial.out.items ++ flat_map spaced (words_text (take l.word-index l.words))
