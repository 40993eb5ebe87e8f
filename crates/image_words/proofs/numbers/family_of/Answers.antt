use Rattle.std.proofs.Common.{◌∙◌, ap, sym}
use Rattle.image_words.specs.Words.{is_family}
use Rattle.image_words.proofs.Numerals.{family_numeral, family_value}
use Rattle.image_words.proofs.numbers.family_of.Goals as goal

pub hex_number-requires : goal.hex_number-requires
hex_number-requires c = family_numeral c.args.word.now (ap is_family (sym c.as_bytes.ensures.value) ∙ sym c.is_family.ensures ∙ c.if-is_family.true)

pub returns-then-is_family : goal.returns-then-is_family
returns-then-is_family c = family_value c.args.word.now c.hex_number.result (ap is_family (sym c.as_bytes.ensures.value) ∙ sym c.is_family.ensures ∙ c.if-is_family.true) c.hex_number.ensures
