use Rattle.std.proofs.Common.{◌≡◌, length, map, take}
use Rattle.std.specs.List.{AllByRecursion}
use Rattle.image_words.specs.Words.{IsImageWord, spelled, texts}
use Rattle.image_words.specs.Args.{words_of}
use Rattle.image_words.proofs.words.images_of.Given as goal

abbrev pub invariant-loop-word : goal.invariant-loop-word
invariant-loop-word l = record {
  count : length l.images.items ≡ l.word-index;
  each : AllByRecursion IsImageWord (words_of l.images.items);
  found : texts (take l.word-index l.words) ≡ map spelled (words_of l.images.items);
}
