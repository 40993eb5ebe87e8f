-- A word of a line with a space before it, and the line that names a disk. Source: this project's own.
use Rattle.std.specs.Prelude.{ℕ, List, [], ◌∷◌, codes}
use Rattle.units.specs.declared.disk.Serial.{Serial}
use Rattle.imsm_text.specs.declared.word.Word.{Word}
use Rattle.imsm_text.specs.Text.{line, serial_text, spaced, word_text}

abbrev pub spaced_text : Word → List ℕ
spaced_text word = spaced (word_text word)

-- a call on this disk failed
abbrev pub failed_member_line : Serial → List ℕ
failed_member_line s = line (codes "member") (serial_text s ∷ [])
