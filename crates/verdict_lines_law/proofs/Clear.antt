-- No word of a verdict's lines has a space or a line feed in it, whatever its numbers are.
use Rattle.std.proofs.Common.{◌≡◌, ℕ, zero, suc, ◌+◌, ◌/◌, ◌%◌, ◌<◌, ◌≤◌, ◌==◌, ◌&&◌, nat_le, nat_lt, not, Bool, true, false, cond, List, [], ◌∷◌, ◌++◌, map, Option, Some, None, refl, ap, inl, inr, arith}
use Rattle.std.specs.Prelude.{slice_index, slice_index_or}
use Rattle.std.specs.Fmt.{decimal, digits, digits_onto, digit_glyph}
use Rattle.std.specs.List.{flat_map, list_all, AllByRecursion}
use Rattle.std.proofs.lemmas.Bool.{and_from, and_parts, cases_lt}
use Rattle.std.proofs.lemmas.Bool.Decides.{nat_tests, Decides-below_and}
use Rattle.std.proofs.lemmas.List.{get_or_past}
use Rattle.hex.specs.Hex.{encode_with, encode_lower, lower_digits}
use Rattle.units.specs.declared.disk.Serial.{Serial}
use Rattle.imsm_text.specs.Text.{escaped, escaped_all, hex_number, is_printed, serial_text, without_zeros}
use Rattle.imsm_codec.specs.declared.fault.MpbFault.{MpbFault}
use Rattle.imsm_codec.specs.declared.fault.MpbFault.TheVariants.{Short, Signature, Size, Cut, Checksum, Counts, Serials, Volume, BadBlocks}
use Rattle.mpb_store.specs.declared.answer.StoreFault.{StoreFault}
use Rattle.mpb_store.specs.declared.answer.StoreFault.TheVariants.{Mpb, NoOwn, Small}
use Rattle.fault_text.specs.Words.{block_words, torn_words}
use Rattle.imsm_view.specs.declared.fault.VolumeFault.{VolumeFault}
use Rattle.imsm_view.specs.declared.fault.VolumeFault.TheVariants.{Level, Policy, Migration, DiskIndex, Geometry, Overlap}
use Rattle.generation_pick.specs.declared.fault.PickFault.{PickFault}
use Rattle.generation_pick.specs.declared.fault.PickFault.TheVariants as pick
use Rattle.container.specs.declared.missing.Lack.{Lack}
use Rattle.container.specs.declared.missing.Lack.TheVariants as lack
use Rattle.container.specs.declared.missing.Missing.{Missing}
use Rattle.container.specs.declared.role.DiskRole.{DiskRole}
use Rattle.container.specs.declared.role.DiskRole.TheVariants as role
use Rattle.container.specs.declared.verdict.Verdict.{Verdict}
use Rattle.container.specs.declared.verdict.Verdict.TheVariants.{Refused, Large, GenerationEnd, Waiting, Ready}
use Rattle.container.specs.declared.volume.VolumeVerdict.{VolumeVerdict}
use Rattle.container.specs.declared.volume.VolumeVerdict.TheVariants.{Unsupported, Broken, Unfinished, Degraded, Started}
use Rattle.verdict_text.specs.Lines.{blank_serial, lack_words, pass_words, pick_words, role_words, volume_fault_words, volume_words}
use Rattle.verdict_lines_law.specs.Words.{disks_say, family_says, verdict_words, volumes_say, waiting_says}

-- WORDS

abbrev pub clear : ℕ → Bool
clear b = not (b == 32) && not (b == 10)

abbrev pub IsClear : List ℕ → Type 0
IsClear word = list_all clear word ≡ true

abbrev pub AreClear : List (List ℕ) → Type 0
AreClear words = AllByRecursion IsClear words

-- a line has a first word
abbrev pub IsLine : List (List ℕ) → Type 0
IsLine [] = ⊥
IsLine (first ∷ words) = IsClear first × AreClear words

abbrev pub AreLines : List (List (List ℕ)) → Type 0
AreLines lines = AllByRecursion IsLine lines

high_clear : (b : ℕ) → 33 ≤ b → clear b ≡ true
high_clear b high =
    let space : (b == 32) ≡ false = grind (arith, nat_tests, high) in
    let feed : (b == 10) ≡ false = grind (arith, nat_tests, high) in
    rw (space, feed) refl

clear_cons : (b : ℕ) (bytes : List ℕ) → clear b ≡ true → IsClear bytes → IsClear (b ∷ bytes)
clear_cons b bytes one more = and_from (clear b) (list_all clear bytes) one more

clear_append : (xs ys : List ℕ) → IsClear xs → IsClear ys → IsClear (xs ++ ys)
clear_append [] ys one more = more
clear_append (x ∷ xs) ys one more =
    let parts = and_parts (clear x) (list_all clear xs) one in
    clear_cons x (xs ++ ys) parts.0 (clear_append xs ys parts.1 more)

all_append : {X : Type 0} (P : X → Type 0) (xs ys : List X) → AllByRecursion P xs → AllByRecursion P ys → AllByRecursion P (xs ++ ys)
all_append P [] ys one more = more
all_append P (x ∷ xs) ys one more = (one.0, all_append P xs ys one.1 more)

-- NUMBERS

glyph_clear : (d : ℕ) → clear (digit_glyph false d) ≡ true
glyph_clear d = at (nat_lt d 10) where
  at : (b : Bool) → clear (cond b (48 + d) (87 + d)) ≡ true
  at true = high_clear (48 + d) (omega arith)
  at false = high_clear (87 + d) (omega arith)

onto_clear : (k n : ℕ) (acc : List ℕ) → IsClear acc → IsClear (digits_onto k 10 false n acc)
onto_clear zero n acc is = is
onto_clear (suc k) n acc is =
    let more = clear_cons (digit_glyph false (n % 10)) acc (glyph_clear (n % 10)) is in
    at (n / 10 == 0) more (onto_clear k (n / 10) (digit_glyph false (n % 10) ∷ acc) more)
  where
    at : (b : Bool) → IsClear (digit_glyph false (n % 10) ∷ acc) → IsClear (digits_onto k 10 false (n / 10) (digit_glyph false (n % 10) ∷ acc))
        → IsClear (cond b (digit_glyph false (n % 10) ∷ acc) (digits_onto k 10 false (n / 10) (digit_glyph false (n % 10) ∷ acc)))
    at true here more = here
    at false here more = more

pub clear_decimal : (n : ℕ) → IsClear (decimal n)
unfolding digits
clear_decimal n = onto_clear 64 n [] refl

abbrev digits_clear : ℕ → Bool
digits_clear zero = true
digits_clear (suc n) = clear (slice_index lower_digits n) && digits_clear n

low_digit : (d : ℕ) → d < 16 → clear (slice_index lower_digits d) ≡ true
low_digit =
    (Decides-below_and (λ k. clear (slice_index lower_digits k)) (λ k. clear (slice_index lower_digits k) ≡ true) digits_clear
    (λ k. (λ h. h, λ h. h)) refl (λ n. refl) 16).0 refl

digit_clear : (d : ℕ) → clear (slice_index lower_digits d) ≡ true
digit_clear d = elim (cases_lt d 16) [
  | inl low ↦ low_digit d low
  | inr past ↦ ap clear (get_or_past lower_digits d 0 past)
]

hex_clear : (bytes : List ℕ) → IsClear (encode_lower bytes)
unfolding encode_with
hex_clear [] = refl
hex_clear (b ∷ bytes) =
    clear_cons (slice_index lower_digits (b / 16)) (slice_index lower_digits (b % 16) ∷ encode_lower bytes) (digit_clear (b / 16))
    (clear_cons (slice_index lower_digits (b % 16)) (encode_lower bytes) (digit_clear (b % 16)) (hex_clear bytes))

pub clear_hex : (n : ℕ) → IsClear (hex_number n)
clear_hex n = hex_clear _

-- NAMES

escaped_clear : (b : ℕ) → IsClear (escaped b)
escaped_clear b = at (is_printed b) refl where
  at : (t : Bool) → is_printed b ≡ t → IsClear (cond t (b ∷ []) (0x5c ∷ 0x78 ∷ encode_lower (b ∷ [])))
  at true is =
      let low : nat_le 0x21 b ≡ true = (and_parts (nat_le 0x21 b) (nat_le b 0x7e) (and_parts (nat_le 0x21 b && nat_le b 0x7e) (not (b == 0x5c)) is).0).0 in
      clear_cons b [] (high_clear b (grind (arith, nat_tests, low))) refl
  at false is = clear_cons 0x5c (0x78 ∷ encode_lower (b ∷ [])) refl (clear_cons 0x78 (encode_lower (b ∷ [])) refl (hex_clear (b ∷ [])))

all_escaped_clear : (bytes : List ℕ) → IsClear (flat_map escaped bytes)
all_escaped_clear [] = refl
all_escaped_clear (b ∷ bytes) = clear_append (escaped b) (flat_map escaped bytes) (escaped_clear b) (all_escaped_clear bytes)

escapes_clear : (bytes : List ℕ) → IsClear (escaped_all bytes)
escapes_clear [] = escaped_clear 0
escapes_clear (b ∷ bytes) = all_escaped_clear (b ∷ bytes)

pub clear_serial : (s : Serial) → IsClear (serial_text s)
clear_serial s = escapes_clear (without_zeros s.0)

-- THE WORDS OF A VERDICT

block_clear : (fault : MpbFault) → AreClear (block_words fault)
block_clear (Short given) = (refl, (clear_decimal given, tt))
block_clear Signature = (refl, tt)
block_clear (Size n) = (refl, (clear_decimal n, tt))
block_clear (Cut n given) = (refl, (clear_decimal n, (clear_decimal given, tt)))
block_clear (Checksum kept summed) = (refl, (clear_hex kept, (clear_hex summed, tt)))
block_clear (Counts disks volumes) = (refl, (clear_decimal disks, (clear_decimal volumes, tt)))
block_clear (Serials i j) = (refl, (clear_decimal i, (clear_decimal j, tt)))
block_clear (Volume i) = (refl, (clear_decimal i, tt))
block_clear (BadBlocks n) = (refl, (clear_decimal n, tt))

torn_clear : (fault : StoreFault) → AreClear (torn_words fault)
torn_clear (Mpb fault) = (refl, block_clear fault)
torn_clear NoOwn = (refl, (refl, tt))
torn_clear (Small named has) = (refl, (refl, (clear_decimal named, (clear_decimal has, tt))))

pick_clear : (serials : List Serial) (fault : PickFault) → AreClear (pick_words serials fault)
pick_clear serials pick.None = (refl, tt)
pick_clear serials (pick.Families a b) = (refl, (clear_hex a, (clear_hex b, tt)))
pick_clear serials (pick.Twins d e) =
    (refl, (clear_serial (slice_index_or serials d.0 blank_serial), (clear_serial (slice_index_or serials e.0 blank_serial), tt)))

pub lack_clear : (cause : Lack) → AreClear (lack_words cause)
lack_clear lack.Absent = (refl, tt)
lack_clear lack.Blank = (refl, tt)
lack_clear lack.Spare = (refl, tt)
lack_clear lack.Unread = (refl, tt)
lack_clear (lack.Torn fault) = torn_clear fault

fault_clear : (fault : VolumeFault) → AreClear (volume_fault_words fault)
fault_clear (Level byte members) = (refl, (clear_decimal byte, (clear_decimal members, tt)))
fault_clear (Policy byte) = (refl, (clear_decimal byte, tt))
fault_clear (Migration type) = (refl, (clear_decimal type, tt))
fault_clear (DiskIndex slot) = (refl, (clear_decimal slot.0, tt))
fault_clear Geometry = (refl, tt)
fault_clear (Overlap other) = (refl, (clear_decimal other.0, tt))

pass_clear : (pass : Option ℕ) → AreClear (pass_words pass)
pass_clear None = tt
pass_clear (Some row) = (refl, (clear_decimal row, tt))

pub volume_clear : (v : VolumeVerdict) → AreClear (volume_words v)
volume_clear (Unsupported fault) = (refl, fault_clear fault)
volume_clear Broken = (refl, tt)
volume_clear Unfinished = (refl, tt)
volume_clear (Degraded pass) = (refl, pass_clear pass)
volume_clear (Started pass) = (refl, pass_clear pass)

pub role_clear : (r : DiskRole) → AreClear (role_words r)
role_clear (role.Member i) = (refl, tt)
role_clear (role.Failed i) = (refl, tt)
role_clear role.Spare = (refl, tt)
role_clear role.Stranger = (refl, tt)
role_clear role.Blank = (refl, tt)
role_clear (role.Torn fault) = torn_clear fault
role_clear role.Unread = (refl, tt)

-- THE LINES OF A VERDICT

family_line_clear : (family generation : ℕ) → IsLine (family_says family generation)
family_line_clear family generation = (refl, (clear_hex family, (refl, (clear_decimal generation, tt))))

waiting_lines_clear : (list : List Missing) → AreLines (map waiting_says list)
waiting_lines_clear [] = tt
waiting_lines_clear (m ∷ list) = ((refl, (clear_serial m.serial, lack_clear m.cause)), waiting_lines_clear list)

volume_lines_clear : (k : ℕ) (list : List VolumeVerdict) → AreLines (volumes_say k list)
volume_lines_clear k [] = tt
volume_lines_clear k (v ∷ list) = ((refl, (clear_decimal k, volume_clear v)), volume_lines_clear (k + 1) list)

disk_lines_clear : (serials : List Serial) (roles : List DiskRole) → AreLines (disks_say serials roles)
disk_lines_clear [] roles = tt
disk_lines_clear (serial ∷ serials) [] = tt
disk_lines_clear (serial ∷ serials) (r ∷ roles) = ((refl, (clear_serial serial, role_clear r)), disk_lines_clear serials roles)

pub verdict_clear : (serials present : List Serial) (v : Verdict) → AreLines (verdict_words serials present v)
verdict_clear serials present (Refused fault) = ((refl, pick_clear serials fault), tt)
verdict_clear serials present (Large family generation size) =
    (family_line_clear family generation, ((refl, (refl, (clear_decimal size, tt))), tt))
verdict_clear serials present (GenerationEnd family generation) =
    (family_line_clear family generation, ((refl, (refl, (clear_decimal generation, tt))), tt))
verdict_clear serials present (Waiting family generation list) =
    (family_line_clear family generation, waiting_lines_clear list.items)
verdict_clear serials present (Ready o) =
    (family_line_clear o.family o.generation, all_append IsLine _ _ (volume_lines_clear 0 o.volumes.items) (disk_lines_clear present o.disks.items))
