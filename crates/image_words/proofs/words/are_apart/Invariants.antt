use Rattle.std.proofs.Common.{◌≡◌, drop}
use Rattle.image_words.specs.Words.{are_distinct}
use Rattle.image_words.specs.Args.{words_of}
use Rattle.image_words.proofs.words.are_apart.Given as goal

-- the images so far are apart from all behind them
abbrev pub invariant-loop-i : goal.invariant-loop-i
invariant-loop-i l = are_distinct (words_of (drop l.i l.images)) ≡ are_distinct (words_of l.images)
