use Rattle.std.proofs.Common.{sym, ◌∙◌}
use Rattle.run_script.proofs.Numerals.{decimal_numeral}
use Rattle.run_script.proofs.numbers.number_of.Goals as goal

pub parsed-requires-clause-numeral : goal.parsed-requires-clause-numeral
parsed-requires-clause-numeral c = decimal_numeral c.args.word.now (sym c.is_decimal.ensures ∙ c.if-is_decimal.true)
