use Rattle.std.proofs.Common.{sym, ◌∙◌}
use Rattle.run_script.proofs.Numerals.{hex_numeral, hex_value}
use Rattle.run_script.proofs.numbers.value_of.Goals as goal

pub parsed-requires-clause-numeral : goal.parsed-requires-clause-numeral
parsed-requires-clause-numeral c = hex_numeral c.args.word.now (sym c.is_value.ensures ∙ c.if-is_value.true)

pub returns-then-is_value : goal.returns-then-is_value
returns-then-is_value c = hex_value c.args.word.now c.parsed.result (sym c.is_value.ensures ∙ c.if-is_value.true) c.parsed.ensures
