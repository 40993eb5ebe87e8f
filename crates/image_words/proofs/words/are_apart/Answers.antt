use Rattle.std.proofs.Common.{◌∙◌, ◌&&◌, ◌+◌, Bool, ap, drop, sym}
use Rattle.image_words.specs.Words.{are_distinct}
use Rattle.image_words.specs.Args.{words_of}
use Rattle.image_words.proofs.Grammar.{apart_from}
use Rattle.image_words.proofs.words.are_apart.Goals as goal

pub loop-i-preserved : goal.loop-i-preserved
loop-i-preserved c =
    let tested = apart_from c.args.images.now c.loop-i.i c.is_first_apart.result c.is_first_apart.ensures in
    sym (tested ∙ ap (λ (b : Bool). b && are_distinct (words_of (drop (c.loop-i.i + 1) c.args.images.now))) c.if-not-is_first_apart.false) ∙ c.loop-i.invariant

pub returns-then-not-is_first_apart : goal.returns-then-not-is_first_apart
returns-then-not-is_first_apart c =
    let tested = apart_from c.args.images.now c.loop-i.i c.is_first_apart.result c.is_first_apart.ensures in
    sym (tested ∙ ap (λ (b : Bool). b && are_distinct (words_of (drop (c.loop-i.i + 1) c.args.images.now))) c.if-not-is_first_apart.true) ∙ c.loop-i.invariant
