-- Words of digits are digits of a radix.
use Rattle.std.proofs.Common.{◌≡◌, ◌<◌, ◌&&◌, ◌||◌, ℕ, List, [], ◌∷◌, Bool, true, arith}
use Rattle.std.specs.Prelude.{nat_le}
use Rattle.std.specs.Char.{is_ascii_digit, digit_value}
use Rattle.std.specs.List.{list_all}
use Rattle.std.specs.Str.Parse.{AllDigits}
use Rattle.std.proofs.lemmas.Bool.{and_parts}
use Rattle.std.proofs.lemmas.Bool.Decides.{nat_tests}
use Rattle.units.specs.Digits.{is_hex_digit}

pub hex_digit : (c : ℕ) → is_hex_digit c ≡ true → digit_value c < 16
hex_digit c is = grind (arith, nat_tests)

pub all_digits : (radix : ℕ) (test : ℕ → Bool) → ((c : ℕ) → test c ≡ true → digit_value c < radix) → (ds : List ℕ) → list_all test ds ≡ true
    → AllDigits radix ds
all_digits radix test each [] all = tt
all_digits radix test each (c ∷ cs) all =
    let here = and_parts (test c) (list_all test cs) all in
    (each c here.0, all_digits radix test each cs here.1)
