-- The numbers and values of a script. Source: this project's own.
use Rattle.std.specs.Prelude.{ℕ, ◌^◌, ◌==◌, ◌&&◌, ◌||◌, nat_lt, not, Bool, List, length, slice_index, Option, Some, None, if◌then◌else◌}
use Rattle.std.specs.Char.{is_ascii_digit}
use Rattle.std.specs.List.{list_all}
use Rattle.std.specs.Str.Parse.{digits_value}
use Rattle.units.specs.Digits.{is_hex_digit}

-- decimal digits, with no zero before another digit
abbrev pub is_decimal : List ℕ → Bool
is_decimal word =
    nat_lt 0 (length word) && (length word == 1 || not (slice_index word 0 == 0x30)) && list_all is_ascii_digit word

-- the number that a word spells, if it is one below 2^64
abbrev pub number_of : List ℕ → Option ℕ
number_of word = if is_decimal word && nat_lt (digits_value 10 word) (2 ^ 64) then Some (digits_value 10 word) else None

-- 16 such digits
abbrev pub is_value : List ℕ → Bool
is_value word = length word == 16 && list_all is_hex_digit word

-- the value that a word spells, if it is one
abbrev pub value_of : List ℕ → Option ℕ
value_of word = if is_value word then Some (digits_value 16 word) else None
