use Rattle.std.proofs.Common.{◌≡◌, ◌∙◌, sym, true}
use Rattle.std.proofs.lemmas.Bool.{false≢true}
use Rattle.image_words.proofs.Numerals.{if_number, number_begins, parsed_number}
use Rattle.image_words.proofs.numbers.number_of.Goals as goal

pub returns-then-begins_above_zero-clause-some : goal.returns-then-begins_above_zero-clause-some
returns-then-begins_above_zero-clause-some c =
    if_number c.args.word.now c.parse.result c.ok.result c.parse.ensures.value.0 c.ok.ensures.value (sym c.begins_above_zero.ensures ∙ c.if-begins_above_zero.true)

pub returns-then-begins_above_zero-clause-only : goal.returns-then-begins_above_zero-clause-only
returns-then-begins_above_zero-clause-only c = λ n low high is.
    c.ok.ensures.value ∙ parsed_number c.args.word.now c.parse.result n c.parse.ensures.value.0 high is

pub returns-else-begins_above_zero-clause-only : goal.returns-else-begins_above_zero-clause-only
returns-else-begins_above_zero-clause-only c = λ n low high is.
    let begins : c.begins_above_zero.result ≡ true = c.begins_above_zero.ensures ∙ number_begins c.args.word.now n low high is in
    absurd (false≢true (sym c.if-begins_above_zero.false ∙ begins))
