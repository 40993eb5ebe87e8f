-- Two anchors that begin with the same block say the same, whatever bytes follow it in them.
use Rattle.std.proofs.Common.{◌≡◌, ℕ, ◌+◌, ◌≤◌, false, List, [], length, map, take, None, sym, ◌∙◌, ap, subst, arith}
use Rattle.std.specs.Prelude.{is_none}
use Rattle.std.proofs.lemmas.List.{append-nil, length-take}
use Rattle.units.specs.declared.disk.Sector.{Sector}
use Rattle.imsm_base.specs.Fields.{number_at}
use Rattle.imsm_base.specs.Layout.{Block}
use Rattle.imsm_base.specs.Parts.{block_in}
use Rattle.imsm_base.specs.Whole.{expected_serials}
use Rattle.units.specs.Places.{extended_count}
use Rattle.imsm_base.specs.Volumes.{members, is_dirty, volume_fault, pass_of}
use Rattle.imsm_base.proofs.Spliced.{number_at-take}
use Rattle.imsm_codec.specs.Given.{size_in, given_block}
use Rattle.array_model.specs.Blocks.{Laid}
use Rattle.block_meaning.specs.Meaning.{bytes_of_laid, has_serial, of_volume, slot_words}
use Rattle.array_model.specs.Renewal.{SaysSame}
use Rattle.block_meaning.specs.Reading.{parts_of, block_words}
use Rattle.block_meaning.specs.Whole.{is_whole_disk}
use Rattle.stage_machine.specs.Opens.{SaysAll}

-- a block of one sector
abbrev pub alone_in : Sector → Laid
alone_in s = record { anchor = s; extended = [] }

pub bytes-alone : (s : Sector) → bytes_of_laid (alone_in s) ≡ given_block s.0
bytes-alone s = ap (take (size_in s.0)) (append-nil s.0)

-- a number within the block is the one in the sector
number-given : (k at : ℕ) (bytes : List ℕ) → at + k ≤ length (given_block bytes) → number_at k at (given_block bytes) ≡ number_at k at bytes
number-given k at bytes inside =
    number_at-take k at (size_in bytes) bytes (let len = length-take (size_in bytes) bytes in omega (arith, len))

same-number : (k at : ℕ) (xs ys : List ℕ) → given_block xs ≡ given_block ys → at + k ≤ length (given_block ys) → number_at k at xs ≡ number_at k at ys
same-number k at xs ys same inside =
    sym (number-given k at xs (subst (λ (zs : List ℕ). at + k ≤ length zs) (sym same) inside))
    ∙ ap (number_at k at) same ∙ number-given k at ys inside

same-words : (m n : Laid) → bytes_of_laid m ≡ bytes_of_laid n → SaysSame block_words m n
same-words m n same =
    let parts : parts_of m ≡ parts_of n = ap block_in same in
    record {
      container = ap (λ (b : Block). length b.volumes) parts;
      expects = λ serial. ap (λ (b : Block). has_serial (expected_serials b) serial) parts;
      is_supported = λ v. ap (λ (b : Block). of_volume b v (λ x. is_none (volume_fault b v x)) false) parts;
      pass = λ v. ap (λ (b : Block). of_volume b v pass_of None) parts;
      slots = λ v. ap (λ (b : Block). of_volume b v (λ x. map (slot_words b) (members x)) []) parts;
    }

pub says-all : (s t : Sector) → given_block s.0 ≡ given_block t.0 → 216 ≤ length (given_block t.0) → SaysAll block_words (alone_in s) (alone_in t)
says-all s t same long =
    let bytes : bytes_of_laid (alone_in s) ≡ bytes_of_laid (alone_in t) = bytes-alone s ∙ same ∙ sym (bytes-alone t) in
    record {
      extra = ap extended_count (same-number 4 36 s.0 t.0 same (omega (arith, long)));
      generation = same-number 4 44 s.0 t.0 same (omega (arith, long));
      dirty = λ v. ap (λ (xs : List ℕ). of_volume (block_in xs) v is_dirty false) bytes;
      same = same-words (alone_in s) (alone_in t) bytes;
      whole = λ serial n. ap (λ (xs : List ℕ). is_whole_disk serial n xs (block_in xs)) bytes;
    }
