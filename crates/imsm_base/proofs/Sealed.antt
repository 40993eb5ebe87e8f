-- A block that is sealed has its size and its checksum, and stays whole under the edits.
use Rattle.std.proofs.Common.{◌≡◌, ◌≢◌, ℕ, zero, suc, ◌+◌, ◌*◌, ◌/◌, ◌%◌, ◌^◌, ◌≤◌, ◌<◌, ◌==◌, if◌then◌else◌, Bool, true, false, inl, inr, List, [], length, take, get_or, set, refl, sym, ◌∙◌, ap, subst, arith}
use Rattle.std.proofs.lemmas.Bool.{cases_order, eq-eqb, both_ways}
use Rattle.std.proofs.lemmas.List.{get_or-set_other, get_or-set_same}
use Rattle.byteorder.specs.Endian.{little_bytes}
use Rattle.byteorder.specs.Numbers.{little_number-reads_back}
use Rattle.units.specs.declared.bounds.TheConstants.{MAX_BLOCK_BYTES}
use Rattle.imsm_base.specs.Fields.{number, number_at}
use Rattle.imsm_base.specs.Layout.{Block, Spells, header_lengths, signature_of, size_of, checksum_of, disk_count_of, volume_count_of}
use Rattle.imsm_base.specs.Whole.{IsWholeBlock, IsSize, AreCounts, AreApart, IsAcceptedTail, the_signature, expected_serials, words_sum, block_sum}
use Rattle.imsm_base.specs.Edits.{with_generation, with_dirty, sized, sealed, with_header_field, block_with_generation, block_with_dirty, block_with_size, block_sealed}
use Rattle.imsm_base.proofs.Cut.{total}
use Rattle.imsm_base.proofs.Joined.{room_of-spelled}
use Rattle.imsm_base.proofs.Spliced.{spliced, length-spliced, number_at-before, number_at-behind}
use Rattle.imsm_base.proofs.Edited.{IsFree, fields_of, other_field, header-spells, generation_is_free, size_is_free, checksum_is_free, dirty-spells, dirty-length}

-- a number of four bytes is read back
pub number-four : (n : ℕ) → n < 2 ^ 32 → number (little_bytes 4 n) ≡ n
number-four n below = little_number-reads_back 4 n [] below

-- THE SUM

-- each word but the checksum is left where the checksum is put
other_word : (n : ℕ) (f bytes : List ℕ) → length f ≡ 4 → 36 ≤ length bytes → (n == 8) ≡ false → number_at 4 (4 * n) (spliced 32 f bytes) ≡ number_at 4 (4 * n) bytes
other_word n f bytes len inside apart =
    elim (cases_order n 8) [
      | inl same ↦ absurd (both_ways (n == 8) apart (eq-eqb n 8 same))
      | inr (inl below) ↦ number_at-before 4 (4 * n) 32 f bytes (omega arith) (omega arith)
      | inr (inr above) ↦ number_at-behind 4 (4 * n) 32 f bytes (omega arith) (omega arith)
    ]

pub words_sum-spliced : (n : ℕ) (f bytes : List ℕ) → length f ≡ 4 → 36 ≤ length bytes → words_sum (spliced 32 f bytes) n ≡ words_sum bytes n
words_sum-spliced zero f bytes len inside = refl
words_sum-spliced (suc n) f bytes len inside =
    let before : words_sum (spliced 32 f bytes) n ≡ words_sum bytes n = words_sum-spliced n f bytes len inside in
    ap (λ (x : ℕ). x + (if n == 8 then 0 else number_at 4 (4 * n) (spliced 32 f bytes))) before
    ∙ ap (λ (x : ℕ). words_sum bytes n + x) (word (n == 8) refl)
  where
    word : (b : Bool) → (n == 8) ≡ b → (if b then 0 else number_at 4 (4 * n) (spliced 32 f bytes)) ≡ (if b then 0 else number_at 4 (4 * n) bytes)
    word true at = refl
    word false at = other_word n f bytes len inside at

-- the sum doesn't count the checksum
pub block_sum-spliced : (f bytes : List ℕ) → length f ≡ 4 → 36 ≤ length bytes → block_sum (spliced 32 f bytes) ≡ block_sum bytes
block_sum-spliced f bytes len inside =
    ap (λ (n : ℕ). words_sum (spliced 32 f bytes) (n / 4) % 2 ^ 32) (length-spliced 32 f bytes (omega arith))
    ∙ ap (λ (n : ℕ). n % 2 ^ 32) (words_sum-spliced (length bytes / 4) f bytes len inside)

block_sum-small : (bytes : List ℕ) → block_sum bytes < 2 ^ 32
block_sum-small bytes = omega arith

-- A BLOCK BEFORE ITS SEAL

-- what a whole block is, but for its size and its checksum
pub record IsUnsealed (bytes : List ℕ) (b : Block) : Type 0 where
  pub signed : signature_of b ≡ the_signature
  pub size : IsSize (length bytes)
  pub counted : AreCounts (disk_count_of b) (volume_count_of b)
  pub apart : AreApart (expected_serials b)
  pub spells : Spells bytes b
  pub tail : IsAcceptedTail b.tail

pub unsealed_whole : (bytes : List ℕ) (b : Block) → IsWholeBlock bytes b → IsUnsealed bytes b
unsealed_whole bytes b w = record {
  signed = w.signed;
  size = subst IsSize w.given w.sized;
  counted = w.counted;
  apart = w.apart;
  spells = w.spells;
  tail = w.tail;
}

pub header-unsealed : (bytes : List ℕ) (b : Block) (k : ℕ) (f : List ℕ) → 0 ≢ k → IsFree k f → IsUnsealed bytes b → IsUnsealed (spliced (total (take k header_lengths)) f bytes) (with_header_field k f b)
header-unsealed bytes b k f front free u =
    let inside : total (take k header_lengths) + length f ≤ 216 = free.inside in
    let least : 216 ≤ length bytes = u.size.least in
    record {
      signed = get_or-set_other b.header k 0 f [] front ∙ u.signed;
      size = subst IsSize (sym (length-spliced (total (take k header_lengths)) f bytes (omega arith))) u.size;
      counted = subst (λ (n : ℕ). AreCounts n (number (get_or (set b.header k f) 9 []))) (sym (other_field b k 8 f free.disks))
          (subst (λ (n : ℕ). AreCounts (disk_count_of b) n) (sym (other_field b k 9 f free.volumes)) u.counted);
      apart = u.apart;
      spells = header-spells bytes b k f u.spells free;
      tail = u.tail;
    }

pub generation-unsealed : (bytes : List ℕ) (b : Block) (g : ℕ) → IsUnsealed bytes b → IsUnsealed (with_generation bytes g) (block_with_generation b g)
generation-unsealed bytes b g u = header-unsealed bytes b 5 (little_bytes 4 g) (λ e. omega arith) (generation_is_free g) u

pub dirty-unsealed : (bytes : List ℕ) (b : Block) (k : ℕ) (on : Bool) → k < length b.volumes → IsUnsealed bytes b → IsUnsealed (with_dirty bytes k on) (block_with_dirty b k on)
dirty-unsealed bytes b k on below u = record {
  signed = u.signed;
  size = subst IsSize (sym (dirty-length bytes b k on u.spells below)) u.size;
  counted = u.counted;
  apart = u.apart;
  spells = dirty-spells bytes b k on u.spells below;
  tail = u.tail;
}

-- THE SEAL

pub sealed-spells : (bytes : List ℕ) (b : Block) → Spells bytes b → Spells (sealed bytes) (block_sealed b (length bytes) (block_sum (sized bytes)))
sealed-spells bytes b s =
    header-spells (sized bytes) (block_with_size b (length bytes)) 2 (little_bytes 4 (block_sum (sized bytes)))
    (header-spells bytes b 3 (little_bytes 4 (length bytes)) s (size_is_free (length bytes)))
    (checksum_is_free (block_sum (sized bytes)))

pub length-sized : (bytes : List ℕ) → 216 ≤ length bytes → length (sized bytes) ≡ length bytes
length-sized bytes long = length-spliced 36 (little_bytes 4 (length bytes)) bytes (omega arith)

pub length-sealed : (bytes : List ℕ) → 216 ≤ length bytes → length (sealed bytes) ≡ length bytes
length-sealed bytes long =
    length-spliced 32 (little_bytes 4 (block_sum (sized bytes))) (sized bytes) (omega (arith, length-sized bytes long)) ∙ length-sized bytes long

pub size-sealed : (b : Block) (n sum : ℕ) → length b.header ≡ 15 → n < 2 ^ 32 → size_of (block_sealed b n sum) ≡ n
size-sealed b n sum count below =
    other_field (block_with_size b n) 2 3 (little_bytes 4 sum) (λ e. omega arith)
    ∙ ap number (get_or-set_same b.header 3 (little_bytes 4 n) [] (omega arith))
    ∙ number-four n below

pub checksum-sealed : (b : Block) (n : ℕ) (bytes : List ℕ) → length (set b.header 3 (little_bytes 4 n)) ≡ 15 → 36 ≤ length bytes →
    checksum_of (block_sealed b n (block_sum bytes)) ≡ block_sum (spliced 32 (little_bytes 4 (block_sum bytes)) bytes)
checksum-sealed b n bytes count long =
    ap number (get_or-set_same (set b.header 3 (little_bytes 4 n)) 2 (little_bytes 4 (block_sum bytes)) [] (omega arith))
    ∙ number-four (block_sum bytes) (block_sum-small bytes)
    ∙ sym (block_sum-spliced (little_bytes 4 (block_sum bytes)) bytes refl long)

-- size and checksum of a sealed block
pub record IsSealed (bytes : List ℕ) (b : Block) : Type 0 where
  pub given : size_of b ≡ length bytes
  pub summed : checksum_of b ≡ block_sum bytes

pub sealed-is : (bytes : List ℕ) (b : Block) → Spells bytes b → length bytes < 2 ^ 32 → IsSealed (sealed bytes) (block_sealed b (length bytes) (block_sum (sized bytes)))
sealed-is bytes b s short =
    let long : 216 ≤ length bytes = let room = room_of-spelled bytes b s in omega arith in
    let count : length b.header ≡ 15 = fields_of header_lengths b.header s.parts.header in
    let resized : Spells (sized bytes) (block_with_size b (length bytes)) = header-spells bytes b 3 (little_bytes 4 (length bytes)) s (size_is_free (length bytes)) in
    record {
      given = size-sealed b (length bytes) (block_sum (sized bytes)) count short ∙ sym (length-sealed bytes long);
      summed = checksum-sealed b (length bytes) (sized bytes) (fields_of header_lengths (set b.header 3 (little_bytes 4 (length bytes))) resized.parts.header)
          (omega (arith, length-sized bytes long));
    }

-- a sealed block is whole
pub sealed-whole : (bytes : List ℕ) (b : Block) → IsUnsealed bytes b → IsWholeBlock (sealed bytes) (block_sealed b (length bytes) (block_sum (sized bytes)))
sealed-whole bytes b u =
    let most : length bytes ≤ MAX_BLOCK_BYTES = u.size.most in
    let seal = sealed-is bytes b u.spells (omega arith) in
    let first : IsUnsealed (sized bytes) (block_with_size b (length bytes)) = header-unsealed bytes b 3 (little_bytes 4 (length bytes)) (λ e. omega arith) (size_is_free (length bytes)) u in
    let both : IsUnsealed (sealed bytes) (block_sealed b (length bytes) (block_sum (sized bytes))) =
    header-unsealed (sized bytes) (block_with_size b (length bytes)) 2 (little_bytes 4 (block_sum (sized bytes))) (λ e. omega arith) (checksum_is_free (block_sum (sized bytes))) first in
    record {
      signed = both.signed;
      sized = subst IsSize (sym seal.given) both.size;
      given = seal.given;
      summed = seal.summed;
      counted = both.counted;
      apart = both.apart;
      spells = both.spells;
      tail = both.tail;
    }
