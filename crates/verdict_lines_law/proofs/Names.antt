-- The name of a disk tells its serial.
use Rattle.std.proofs.Common.{◌≡◌, ◌<◌, ◌≤◌, ◌^◌, ◌==◌, ℕ, zero, suc, Bool, true, false, cond, List, [], ◌∷◌, ◌++◌, length, drop, take, replicate, get_or, refl, sym, ◌∙◌, ap, subst, inl, inr, arith}
use Rattle.std.specs.Int.{to_be_bytes, from_be_bytes, w32}
use Rattle.std.specs.List.{AllByRecursion, flat_map, list_all}
use Rattle.std.specs.Result.{result_unwrap_or}
use Rattle.std.proofs.lemmas.Bool.{and_parts, cases_lt, false≢true}
use Rattle.std.proofs.lemmas.Bool.Decides.{nat_tests}
use Rattle.std.proofs.lemmas.List.{get_or_past}
use Rattle.std.proofs.lemmas.List.Elements.{All-from_recursion, All-get_or}
use Rattle.std.proofs.lemmas.Nat.{from_be_bytes-to_be_bytes_4}
use Rattle.hex.specs.Hex.{IsBytes, decode_of, encode_lower, encode_with}
use Rattle.hex.proofs.HexLemmas.{decode_of-encode_lower}
use Rattle.units.specs.declared.disk.Serial.{Serial}
use Rattle.imsm_text.specs.Text.{escaped, escaped_all, hex_number, is_printed, serial_text, without_zeros}
use Rattle.verdict_lines_law.specs.Same.{IsSerial}

-- DIGITS

abbrev AreBytes : List ℕ → Type 0
AreBytes bytes = AllByRecursion (λ (b : ℕ). b < 256) bytes

within : (bytes : List ℕ) → AreBytes bytes → IsBytes bytes
within bytes all i = elim (cases_lt i (length bytes)) [
  | inl below ↦ All-get_or (λ (b : ℕ). b < 256) bytes i 0 below (All-from_recursion (λ (b : ℕ). b < 256) bytes all)
  | inr past ↦ subst (λ (b : ℕ). b < 256) (sym (get_or_past bytes i 0 past)) (omega arith)
]

abbrev pub bytes_in : List ℕ → List ℕ
bytes_in word = result_unwrap_or (decode_of word) []

bytes_told : (bytes : List ℕ) → AreBytes bytes → bytes_in (encode_lower bytes) ≡ bytes
bytes_told bytes all = ap (λ r. result_unwrap_or r []) (decode_of-encode_lower bytes (within bytes all))

-- a number of eight digits
abbrev pub code_in : List ℕ → ℕ
code_in word = from_be_bytes w32 (bytes_in word)

four_bytes : (n : ℕ) → AreBytes (to_be_bytes w32 n)
four_bytes n = (omega arith, (omega arith, (omega arith, (omega arith, tt))))

pub code_told : (n : ℕ) → n < 2 ^ 32 → code_in (hex_number n) ≡ n
code_told n below = ap (from_be_bytes w32) (bytes_told (to_be_bytes w32 n) (four_bytes n)) ∙ from_be_bytes-to_be_bytes_4 n below

-- ESCAPES

same_digits : (a b : ℕ) → a < 256 → b < 256 → encode_lower (a ∷ []) ≡ encode_lower (b ∷ []) → a ≡ b
same_digits a b a_below b_below same =
    ap (λ (l : List ℕ). get_or l 0 0) (sym (bytes_told (a ∷ []) (a_below, tt)) ∙ ap bytes_in same ∙ bytes_told (b ∷ []) (b_below, tt))

-- a printed byte is no backslash
not_escape : (a : ℕ) → is_printed a ≡ true → a ≡ 0x5c → ⊥
not_escape a printed same = false≢true (subst (λ (b : ℕ). is_printed b ≡ true) same printed)

two_more : (a b : ℕ) (s t : List ℕ) → 0x5c ∷ 0x78 ∷ encode_lower (a ∷ []) ++ s ≡ 0x5c ∷ 0x78 ∷ encode_lower (b ∷ []) ++ t → (encode_lower (a ∷ []) ≡ encode_lower (b ∷ [])) × (s ≡ t)
unfolding encode_with
two_more a b s t same = (ap (take 2) rest, ap (drop 2) rest) where
  rest : encode_lower (a ∷ []) ++ s ≡ encode_lower (b ∷ []) ++ t
  rest = ap (drop 2) same

one_byte : (a b : ℕ) (s t : List ℕ) → a < 256 → b < 256 → escaped a ++ s ≡ escaped b ++ t → (a ≡ b) × (s ≡ t)
one_byte a b s t a_below b_below same = at (is_printed a) (is_printed b) refl refl same where
  at : (p q : Bool) → is_printed a ≡ p → is_printed b ≡ q
      → cond p (a ∷ []) (0x5c ∷ 0x78 ∷ encode_lower (a ∷ [])) ++ s ≡ cond q (b ∷ []) (0x5c ∷ 0x78 ∷ encode_lower (b ∷ [])) ++ t → (a ≡ b) × (s ≡ t)
  at true true p q same = (ap (λ (l : List ℕ). get_or l 0 0) same, ap (drop 1) same)
  at true false p q same = absurd (not_escape a p (ap (λ (l : List ℕ). get_or l 0 0) same))
  at false true p q same = absurd (not_escape b q (sym (ap (λ (l : List ℕ). get_or l 0 0) same)))
  at false false p q same = let rest = two_more a b s t same in (same_digits a b a_below b_below rest.0, rest.1)

some_escape : (b : ℕ) (t : List ℕ) → [] ≡ escaped b ++ t → ⊥
some_escape b t same = at (is_printed b) same where
  at : (q : Bool) → [] ≡ cond q (b ∷ []) (0x5c ∷ 0x78 ∷ encode_lower (b ∷ [])) ++ t → ⊥
  at true same = cc same
  at false same = cc same

same_escapes : (xs ys : List ℕ) → AreBytes xs → AreBytes ys → flat_map escaped xs ≡ flat_map escaped ys → xs ≡ ys
same_escapes [] [] x y same = refl
same_escapes [] (b ∷ ys) x y same = absurd (some_escape b (flat_map escaped ys) same)
same_escapes (a ∷ xs) [] x y same = absurd (some_escape a (flat_map escaped xs) (sym same))
same_escapes (a ∷ xs) (b ∷ ys) x y same =
    let first = one_byte a b (flat_map escaped xs) (flat_map escaped ys) x.0 y.0 same in
    ap (λ (c : ℕ). c ∷ xs) first.0 ∙ ap (λ (l : List ℕ). b ∷ l) (same_escapes xs ys x.1 y.1 first.1)

-- ZEROS AT THE END

-- an empty name is that of one zero
abbrev or_zero : List ℕ → List ℕ
or_zero [] = 0 ∷ []
or_zero (b ∷ bytes) = b ∷ bytes

escapes_are : (bytes : List ℕ) → escaped_all bytes ≡ flat_map escaped (or_zero bytes)
unfolding encode_with
escapes_are [] = refl
escapes_are (b ∷ bytes) = refl

fewer_bytes : (bytes : List ℕ) → AreBytes bytes → AreBytes (without_zeros bytes)
fewer_bytes [] all = tt
fewer_bytes (b ∷ bytes) all = at (list_all (λ c. c == 0) (b ∷ bytes)) (fewer_bytes bytes all.1) where
  at : (t : Bool) → AreBytes (without_zeros bytes) → AreBytes (cond t [] (b ∷ without_zeros bytes))
  at true more = tt
  at false more = (all.0, more)

or_zero_bytes : (bytes : List ℕ) → AreBytes bytes → AreBytes (or_zero bytes)
or_zero_bytes [] all = (omega arith, tt)
or_zero_bytes (b ∷ bytes) all = all

all_zeros : (bytes : List ℕ) (n : ℕ) → length bytes ≤ n → list_all (λ c. c == 0) bytes ≡ true → take (length bytes) (replicate n 0) ≡ bytes
all_zeros [] n few zeros = refl
all_zeros (b ∷ bytes) zero few zeros = absurd (omega (arith, few))
all_zeros (b ∷ bytes) (suc n) few zeros =
    let parts = and_parts (b == 0) (list_all (λ c. c == 0) bytes) zeros in
    let none : b ≡ 0 = (let first = parts.0 in grind (arith, nat_tests, first)) in
    ap (λ (c : ℕ). c ∷ take (length bytes) (replicate n 0)) (sym none) ∙ ap (λ (l : List ℕ). b ∷ l) (all_zeros bytes n (omega (arith, few)) parts.1)

padded : (bytes : List ℕ) (n : ℕ) → length bytes ≤ n → take (length bytes) (without_zeros bytes ++ replicate n 0) ≡ bytes
padded [] n few = refl
padded (b ∷ bytes) n few = at (list_all (λ c. c == 0) (b ∷ bytes)) refl (padded bytes n (omega (arith, few))) where
  at : (t : Bool) → list_all (λ c. c == 0) (b ∷ bytes) ≡ t → take (length bytes) (without_zeros bytes ++ replicate n 0) ≡ bytes
      → take (length (b ∷ bytes)) (cond t [] (b ∷ without_zeros bytes) ++ replicate n 0) ≡ b ∷ bytes
  at true zeros more = all_zeros (b ∷ bytes) n few zeros
  at false zeros more = ap (λ (l : List ℕ). b ∷ l) more

-- a serial is what its name tells, with zeros behind
or_padded : (bytes : List ℕ) (n : ℕ) → length bytes ≤ n → take (length bytes) (or_zero (without_zeros bytes) ++ replicate n 0) ≡ bytes
or_padded bytes n few = at (without_zeros bytes) refl where
  at : (front : List ℕ) → without_zeros bytes ≡ front → take (length bytes) (or_zero front ++ replicate n 0) ≡ bytes
  at [] is = ap (λ (l : List ℕ). take (length bytes) (l ++ replicate (suc n) 0)) (sym is) ∙ padded bytes (suc n) (omega (arith, few))
  at (b ∷ front) is = ap (λ (l : List ℕ). take (length bytes) (l ++ replicate n 0)) (sym is) ∙ padded bytes n few

pub names_tell : (s t : Serial) → IsSerial s → IsSerial t → serial_text s ≡ serial_text t → s ≡ t
names_tell s t s_is t_is same =
    let front : or_zero (without_zeros s.0) ≡ or_zero (without_zeros t.0) =
    same_escapes (or_zero (without_zeros s.0)) (or_zero (without_zeros t.0)) (or_zero_bytes _ (fewer_bytes s.0 s_is.bytes)) (or_zero_bytes _ (fewer_bytes t.0 t_is.bytes))
    (sym (escapes_are (without_zeros s.0)) ∙ same ∙ escapes_are (without_zeros t.0)) in
    let length_same : length s.0 ≡ length t.0 = s_is.long ∙ sym t_is.long in
    ap (λ (l : List ℕ). let serial : Serial = record { 0 = l } in serial)
    (sym (or_padded s.0 16 (let long = s_is.long in omega (arith, long)))
    ∙ ap (λ (n : ℕ). take n (or_zero (without_zeros s.0) ++ replicate 16 0)) length_same
    ∙ ap (λ (l : List ℕ). take (length t.0) (l ++ replicate 16 0)) front
    ∙ or_padded t.0 16 (let long = t_is.long in omega (arith, long)))
