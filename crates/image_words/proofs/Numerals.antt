-- The numbers that words spell.
use Rattle.std.proofs.Common.{◌≡◌, ◌<◌, ◌≤◌, ◌^◌, ◌&&◌, ℕ, List, true, Result, Some, None, Option, IfSome, ap, length, get_or, nat_lt, nat_le, slice_index, arith, refl, sym, ◌∙◌, subst}
use Rattle.std.specs.Prelude.{◌==◌, if◌then◌else◌}
use Rattle.std.specs.Fmt.{decimal}
use Rattle.std.specs.List.{list_all}
use Rattle.std.specs.Result.{OkIff, result_ok}
use Rattle.std.specs.Str.Parse.{AllDigits, IsNumeral, ParsesUnsigned, digits_value}
use Rattle.std.proofs.lemmas.Bool.{and_parts}
use Rattle.std.proofs.lemmas.Bool.Decides.{nat_tests}
use Rattle.std.proofs.lemmas.Fmt.{decimal-digits_value, first_decimal, parse-decimal}
use Rattle.std.proofs.lemmas.Int.Digits.{digits_value-lt}
use Rattle.std.proofs.lemmas.Str.Parse.{numerals_by_value, parse_plain, tells_digits}
use Rattle.new_container.specs.declared.volume.NewVolume.{NewVolume}
use Rattle.image_words.specs.Words.{family_of, is_family}
use Rattle.new_container.specs.Fits.{is_in_range}
use Rattle.image_words.proofs.Limits.{parsed_ok}
use Rattle.units.specs.Digits.{is_hex_digit}
use Rattle.units.proofs.Digits.{hex_digit, all_digits}

-- the decimal digits of a positive number begin above `0`
pub number_begins : (word : List ℕ) (n : ℕ) → 1 ≤ n → n < 2 ^ 64 → word ≡ decimal n → nat_lt 0x30 (slice_index word 0) ≡ true
number_begins word n low high is =
    let first : 48 < get_or (decimal n) 0 0 = first_decimal n (omega (arith, low)) high in
    let here : 48 < get_or word 0 0 = subst (λ (w : List ℕ). 48 < get_or w 0 0) (sym is) first in
    grind (arith, nat_tests, here)

-- digits that begin above `0` are those of the number that they are parsed to
number_is : {E : Type 0} (word : List ℕ) (r : Result ℕ E) (n : ℕ) → ParsesUnsigned 64 10 word r → result_ok r ≡ Some n → nat_lt 0x30 (slice_index word 0) ≡ true → word ≡ decimal n
number_is {E} word r n parses is begins =
    let above : 48 < get_or word 0 0 = grind (arith, nat_tests, begins) in
    let plain : OkIff r (AllDigits 10 word × (0 < length word) × (digits_value 10 word < 2 ^ 64)) (digits_value 10 word) =
    parse_plain (numerals_by_value _ tells_digits) 64 word r parses (omega (arith, above)) in
    let read : (AllDigits 10 word × (0 < length word) × (digits_value 10 word < 2 ^ 64)) × (n ≡ digits_value 10 word) =
    subst (λ (s : Result ℕ E). OkIff s (AllDigits 10 word × (0 < length word) × (digits_value 10 word < 2 ^ 64)) (digits_value 10 word)) (parsed_ok r n is) plain in
    let same : decimal (digits_value 10 word) ≡ word =
    decimal-digits_value (numerals_by_value _ tells_digits) word read.0.0 read.0.1 (λ zero. omega (arith, above, zero)) read.0.2 in
    sym same ∙ subst (λ (m : ℕ). decimal m ≡ decimal n) read.1 refl

pub if_number : {E : Type 0} (word : List ℕ) (r : Result ℕ E) (found : Option ℕ) → ParsesUnsigned 64 10 word r → found ≡ result_ok r → nat_lt 0x30 (slice_index word 0) ≡ true
    → IfSome found (λ n. word ≡ decimal n)
if_number word r None parses is begins = tt
if_number word r (Some n) parses is begins = number_is word r n parses (sym is) begins

pub parsed_number : {E : Type 0} (word : List ℕ) (r : Result ℕ E) (n : ℕ) → ParsesUnsigned 64 10 word r → n < 2 ^ 64 → word ≡ decimal n → result_ok r ≡ Some n
parsed_number {E} word r n parses high is = ap (λ (s : Result ℕ E). result_ok s) (parse-decimal 64 n word r high high is parses)

pub family_numeral : (word : List ℕ) → is_family word ≡ true → IsNumeral 16 word
family_numeral word is =
    let parts = and_parts (length word == 8) (list_all is_hex_digit word) is in
    let long : length word ≡ 8 = grind (arith, nat_tests, parts.0) in
    (omega (arith, long), all_digits 16 is_hex_digit hex_digit word parts.1)

-- eight hexadecimal digits have 32 bits
pub family_value : (word : List ℕ) (r : Option ℕ) → is_family word ≡ true → r ≡ (if nat_lt (digits_value 16 word) 0x1_0000_0000 then Some (digits_value 16 word) else None) → r ≡ family_of word
family_value word r family is =
    let parts = and_parts (length word == 8) (list_all is_hex_digit word) family in
    let long : length word ≡ 8 = grind (arith, nat_tests, parts.0) in
    let below : digits_value 16 word < 16 ^ length word = digits_value-lt 16 word (family_numeral word family).1 in
    let fits : nat_lt (digits_value 16 word) 0x1_0000_0000 ≡ true = grind (arith, nat_tests) in
    is ∙ rw (fits, family) refl

-- the numbers of a volume in its ranges
pub numbers_of : (v : NewVolume) → is_in_range v ≡ true → (1 ≤ v.strip) × (v.strip < 2 ^ 16) × (1 ≤ v.size) × (v.size < 2 ^ 64)
numbers_of v range =
    let first = and_parts (nat_le 1 v.strip && nat_le v.strip 65535 && nat_le 1 v.size) (nat_le v.size (2 ^ 40)) range in
    let second = and_parts (nat_le 1 v.strip && nat_le v.strip 65535) (nat_le 1 v.size) first.0 in
    let third = and_parts (nat_le 1 v.strip) (nat_le v.strip 65535) second.0 in
    (grind (arith, nat_tests, third.0), grind (arith, nat_tests, third.1), grind (arith, nat_tests, second.1), grind (arith, nat_tests, first.1))
