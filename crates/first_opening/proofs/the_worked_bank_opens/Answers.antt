use Rattle.std.proofs.Common.{◌≡◌, ◌≢◌, ℕ, zero, suc, ◌+◌, ◌<◌, List, [], ◌∷◌, ◌++◌, length, get_or, map, replicate, slice_get, slice_index, slice_index_or, Option, Some, refl, sym, ◌∙◌, ap, subst, true, arith, lit≤}
use Rattle.std.specs.List.{list_all}
use Rattle.std.specs.Option.{IsSomeAnd}
use Rattle.std.proofs.lemmas.List.{length-append, length-replicate, take_at}
use Rattle.units.specs.declared.disk.Sector.{Sector}
use Rattle.imsm_base.specs.FirstForm.{IsFirstForm}
use Rattle.imsm_base.specs.Layout.{serial_of}
use Rattle.imsm_base.specs.Parts.{block_in}
use Rattle.imsm_base.specs.Vector.{mirror_bytes}
use Rattle.imsm_base.specs.Whole.{IsWhole, IsWholeBlock, IsWholeDisk}
use Rattle.units.specs.Places.{anchor_place}
use Rattle.imsm_base.proofs.Joined.{block_in-spelled}
use Rattle.imsm_codec.specs.Given.{size_in, given_block}
use Rattle.block_meaning.specs.Meaning.{has_serial}
use Rattle.first_opening.specs.Opened.{serial_at, block_of}
use Rattle.first_opening.specs.Worked.{zeros, mirror_anchor, mirror_disk, serial_of_letter, mirror_opened}
use Rattle.first_opening.proofs.the_worked_bank_opens.Goals as goal
use Rattle.first_opening.proofs.Numbers.{slice_get-behind}

other_head : (x y : ℕ) (xs ys : List ℕ) → (x ≡ y → ⊥) → x ∷ xs ≢ y ∷ ys
other_head x y xs ys other e = other (ap (λ (zs : List ℕ). get_or zs 0 0) e)

disk-size : (rest : List ℕ) → length (mirror_disk rest) ≡ 4096
disk-size rest = length-append (replicate 4094 zeros) (mirror_anchor rest ∷ zeros ∷ []) ∙ ap (λ (n : ℕ). n + 2) (length-replicate 4094 zeros)

block-whole : IsWhole mirror_bytes → IsWholeBlock mirror_bytes (block_in mirror_bytes)
block-whole w = subst (IsWholeBlock mirror_bytes) (sym (block_in-spelled mirror_bytes w.0 w.1.spells)) w.1

whole-a : IsWholeBlock mirror_bytes (block_in mirror_bytes) → IsWholeDisk (serial_of_letter 65) 4096 mirror_bytes (block_in mirror_bytes)
unfolding block_in
whole-a w = record { enough = lit≤ tt; whole = w; own_fits = lit≤ tt }

whole-b : IsWholeBlock mirror_bytes (block_in mirror_bytes) → IsWholeDisk (serial_of_letter 66) 4096 mirror_bytes (block_in mirror_bytes)
unfolding block_in
whole-b w = record { enough = lit≤ tt; whole = w; own_fits = lit≤ tt }

whole-at : (rest other : List ℕ) (d : ℕ) → d < 2 → IsWholeBlock mirror_bytes (block_in mirror_bytes) →
    IsWholeDisk (serial_at (mirror_opened rest other) d) (slice_index (mirror_opened rest other).sizes d) mirror_bytes (block_in mirror_bytes)
whole-at rest other zero below w = whole-a w
whole-at rest other (suc zero) below w = whole-b w
whole-at rest other (suc (suc d)) below w = absurd (omega arith)

-- the block is what the anchor begins with
given : (rest : List ℕ) → given_block (mirror_bytes ++ rest) ≡ mirror_bytes
given rest = take_at mirror_bytes rest (size_in (mirror_bytes ++ rest)) refl

stands : (rest : List ℕ) → slice_get (mirror_disk rest) 4094 ≡ Some (mirror_anchor rest)
stands rest = slice_get-behind 4094 zeros (mirror_anchor rest) (zeros ∷ [])

-- each anchor begins with the block of the first
begins : (rest other : List ℕ) → IsSomeAnd (slice_get (mirror_disk other) 4094) (λ s. given_block s.0 ≡ given_block (mirror_anchor rest).0)
begins rest other = subst (λ (s : Option Sector). IsSomeAnd s (λ s. given_block s.0 ≡ given_block (mirror_anchor rest).0)) (sym (stands other)) (given other ∙ sym (given rest))

anchored-at : (rest other : List ℕ) (d : ℕ) → d < 2
    → IsSomeAnd (slice_get (slice_index_or (mirror_opened rest other).contents d []) (anchor_place (slice_index (mirror_opened rest other).sizes d))) (λ s. given_block s.0 ≡ block_of (mirror_opened rest other))
anchored-at rest other zero below = begins rest rest
anchored-at rest other (suc zero) below = begins rest other
anchored-at rest other (suc (suc d)) below = absurd (omega arith)

there : list_all (has_serial (serial_of_letter 65 ∷ serial_of_letter 66 ∷ [])) (map serial_of (block_in mirror_bytes).disks) ≡ true
unfolding block_in
there = refl

pub returns : goal.returns
returns c rest other =
    let w : IsWholeBlock mirror_bytes (block_in mirror_bytes) = block-whole c.example_of_a_whole_block.ensures.whole in
    record {
      sizes = sym (ap (λ (n : ℕ). n ∷ length (mirror_disk other) ∷ []) (disk-size rest) ∙ ap (λ (n : ℕ). 4096 ∷ n ∷ []) (disk-size other));
      apart = ((other_head 65 66 _ _ (λ e. absurd (omega arith)), tt), (tt, tt));
      there = ap (λ (bytes : List ℕ). list_all (has_serial (mirror_opened rest other).serials) (map serial_of (block_in bytes).disks)) (given rest) ∙ there;
      first = subst (λ (bytes : List ℕ). IsFirstForm (block_in bytes)) (sym (given rest)) (c.example_of_a_whole_block.ensures.first_form (block_in mirror_bytes) w);
      whole = λ d below.
          subst (λ (bytes : List ℕ). IsWholeDisk (serial_at (mirror_opened rest other) d) (slice_index (mirror_opened rest other).sizes d) bytes (block_in bytes)) (sym (given rest)) (whole-at rest other d below w);
      anchored = λ d below. anchored-at rest other d below;
      read = (0, lit≤ tt, stands rest);
    }
