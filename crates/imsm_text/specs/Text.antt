-- How bytes and numbers of a block are printed, and lines of them. Source: this project's own.
use Rattle.std.specs.Prelude.{ℕ, ◌==◌, ◌&&◌, nat_le, not, Bool, if◌then◌else◌, List, [], ◌∷◌, ◌++◌, map}
use Rattle.std.specs.Int.{to_be_bytes, w32}
use Rattle.std.specs.List.{flat_map, list_all}
use Rattle.std.specs.Fmt.{decimal}
use Rattle.hex.specs.Hex.{encode_lower}
use Rattle.units.specs.declared.disk.Serial.{Serial}
use Rattle.imsm_text.specs.declared.word.Word.{Word}
use Rattle.imsm_text.specs.declared.word.Word.TheVariants.{Plain, Number, Hex, Name}

abbrev pub line_feed : List ℕ
line_feed = 0x0a ∷ []

-- a byte as two digits, and a number of four bytes as eight
abbrev pub hex_byte : ℕ → List ℕ
hex_byte b = encode_lower (b ∷ [])

abbrev pub hex_number : ℕ → List ℕ
hex_number n = encode_lower (to_be_bytes w32 n)

-- a byte as it is printed: as it is, or as `\x` and two digits
abbrev pub is_printed : ℕ → Bool
is_printed b = nat_le 0x21 b && nat_le b 0x7e && not (b == 0x5c)

abbrev pub escaped : ℕ → List ℕ
escaped b = if is_printed b then b ∷ [] else 0x5c ∷ 0x78 ∷ hex_byte b

-- bytes without the zeros at their end
abbrev pub without_zeros : List ℕ → List ℕ
without_zeros [] = []
without_zeros (b ∷ bs) = if list_all (λ c. c == 0) (b ∷ bs) then [] else b ∷ without_zeros bs

-- a name as it is printed, of a disk its serial; an empty one is one zero byte
abbrev pub escaped_all : List ℕ → List ℕ
escaped_all [] = escaped 0
escaped_all (b ∷ bs) = flat_map escaped (b ∷ bs)

abbrev pub name_text : List ℕ → List ℕ
name_text bytes = escaped_all (without_zeros bytes)

abbrev pub serial_text : Serial → List ℕ
serial_text s = name_text s.0

-- a line: a first word, words with a space before each, and a line feed
abbrev pub spaced : List ℕ → List ℕ
spaced word = 0x20 ∷ word

abbrev pub line : List ℕ → List (List ℕ) → List ℕ
line first words = first ++ (flat_map spaced words ++ line_feed)

-- a word as it is printed
abbrev pub word_text : Word → List ℕ
word_text (Plain bytes) = bytes.now
word_text (Number n) = decimal n
word_text (Hex n) = hex_number n
word_text (Name bytes) = name_text bytes.now

abbrev pub words_text : List Word → List (List ℕ)
words_text words = map word_text words
