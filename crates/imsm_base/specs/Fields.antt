-- Fields: short runs of bytes. A part of a metadata block is a list of fields.
-- Source: the structures of super-intel.c are packed, and all their numbers are little-endian (__le16, __le32).
use Rattle.std.specs.Prelude.{ℕ, ◌+◌, ◌*◌, List, [], ◌∷◌, ◌++◌, take, drop, slice_index_or}
use Rattle.byteorder.specs.Endian.{little_bytes}

-- a part, as the bytes of each of its fields
abbrev pub Part : Type 0
Part = List (List ℕ)

-- the number that bytes spell, the lowest byte first
abbrev pub number : List ℕ → ℕ
number [] = 0
number (b ∷ bs) = b + 256 * number bs

-- field k of a part, and the number in it
abbrev pub field : ℕ → Part → List ℕ
field k part = slice_index_or part k []

abbrev pub number_in : ℕ → Part → ℕ
number_in k part = number (field k part)

-- the number in the n bytes at a place
abbrev pub number_at : ℕ → ℕ → List ℕ → ℕ
number_at n at bytes = number (take n (drop at bytes))

-- the bytes with a number put into the n bytes at a place
abbrev pub with_number_at : ℕ → ℕ → ℕ → List ℕ → List ℕ
with_number_at n at value bytes = take at bytes ++ (little_bytes n value ++ drop (at + n) bytes)
