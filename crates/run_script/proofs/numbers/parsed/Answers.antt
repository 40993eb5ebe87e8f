use Rattle.run_script.proofs.Numerals.{digits_are_text}
use Rattle.run_script.proofs.numbers.parsed.Goals as goal

-- digits are text
pub returns-in-Err : goal.returns-in-Err
returns-in-Err c = absurd (c.in-Err.ensures.cases.0 (digits_are_text c.args.radix c.args.word.now c.requires.high c.requires.numeral.1))
