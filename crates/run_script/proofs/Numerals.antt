-- Digits and what they spell.
use Rattle.std.proofs.Common.{◌≡◌, ◌^◌, ◌<◌, ◌≤◌, ℕ, List, [], ◌∷◌, Bool, true, ◌&&◌, ◌||◌, length, arith, refl, Some, None, Option, ◌∙◌}
use Rattle.std.specs.Prelude.{not, slice_index, nat_lt, ◌==◌, if◌then◌else◌}
use Rattle.std.specs.Char.{is_ascii_digit, digit_value}
use Rattle.std.specs.List.{list_all, AllByRecursion}
use Rattle.std.specs.Str.{IsUtf8}
use Rattle.std.specs.Str.Parse.{AllDigits, IsNumeral, digits_value}
use Rattle.std.proofs.lemmas.Bool.{and_parts}
use Rattle.std.proofs.lemmas.Bool.Decides.{nat_tests}
use Rattle.std.proofs.lemmas.Int.Digits.{digits_value-lt}
use Rattle.std.proofs.lemmas.List.Elements.{All-from_recursion}
use Rattle.std.proofs.lemmas.Str.{IsUtf8-from_ascii}
use Rattle.std.proofs.lemmas.Str.Ascii.{IsAscii-from_all}
use Rattle.run_script.specs.Numbers.{is_decimal, is_value, value_of}
use Rattle.units.specs.Digits.{is_hex_digit}
use Rattle.units.proofs.Digits.{hex_digit, all_digits}

decimal_digit : (c : ℕ) → is_ascii_digit c ≡ true → digit_value c < 10
decimal_digit c is = grind (arith, nat_tests)

ascii_digit : (c : ℕ) → digit_value c < 36 → c < 128
ascii_digit c is = grind (arith, nat_tests)

all_ascii : (radix : ℕ) (ds : List ℕ) → radix ≤ 16 → AllDigits radix ds → AllByRecursion (λ c. c < 128) ds
all_ascii radix [] high all = tt
all_ascii radix (c ∷ cs) high all = (ascii_digit c (omega (arith, all.0)), all_ascii radix cs high all.1)

-- digits are text
pub digits_are_text : (radix : ℕ) (ds : List ℕ) → radix ≤ 16 → AllDigits radix ds → IsUtf8 ds
digits_are_text radix ds high all = IsUtf8-from_ascii ds (IsAscii-from_all ds (All-from_recursion (λ c. c < 128) ds (all_ascii radix ds high all)))

pub decimal_numeral : (word : List ℕ) → is_decimal word ≡ true → IsNumeral 10 word
decimal_numeral word is =
    let first : Bool = nat_lt 0 (length word) in
    let second : Bool = length word == 1 || not (slice_index word 0 == 0x30) in
    let most = and_parts (first && second) (list_all is_ascii_digit word) is in
    let some : nat_lt 0 (length word) ≡ true = (and_parts first second most.0).0 in
    (grind (arith, nat_tests, some), all_digits 10 is_ascii_digit decimal_digit word most.1)

pub hex_numeral : (word : List ℕ) → is_value word ≡ true → IsNumeral 16 word
hex_numeral word is =
    let parts = and_parts (length word == 16) (list_all is_hex_digit word) is in
    let long : length word ≡ 16 = grind (arith, nat_tests, parts.0) in
    (omega (arith, long), all_digits 16 is_hex_digit hex_digit word parts.1)

-- 16 hexadecimal digits have 64 bits
pub hex_value : (word : List ℕ) (r : Option ℕ) → is_value word ≡ true
    → r ≡ (if nat_lt (digits_value 16 word) 0x1_0000_0000_0000_0000 then Some (digits_value 16 word) else None) → r ≡ value_of word
hex_value word r value is =
    let parts = and_parts (length word == 16) (list_all is_hex_digit word) value in
    let long : length word ≡ 16 = grind (arith, nat_tests, parts.0) in
    let below : digits_value 16 word < 16 ^ length word = digits_value-lt 16 word (hex_numeral word value).1 in
    let fits : nat_lt (digits_value 16 word) 0x1_0000_0000_0000_0000 ≡ true = grind (arith, nat_tests) in
    is ∙ rw (fits, value) refl
