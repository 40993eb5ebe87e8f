-- The digits of words. Source: this project's own.
use Rattle.std.specs.Prelude.{ℕ, ◌||◌, ◌&&◌, nat_le, Bool}
use Rattle.std.specs.Char.{is_ascii_digit}

-- a lower-case hexadecimal digit
abbrev pub is_hex_digit : ℕ → Bool
is_hex_digit c = is_ascii_digit c || (nat_le 0x61 c && nat_le c 0x66)
