-- What is found on a disk is a whole block exactly where a whole block stands there.
use Rattle.std.proofs.Common.{◌≡◌, ◌-◌, ◌%◌, ◌≤◌, ◌==◌, nat_le, ℕ, Bool, true, cond, List, ◌++◌, length, take, bytes_eq, refl, sym, ◌∙◌, ap, subst, arith}
use Rattle.std.specs.List.{range_with_len}
use Rattle.std.proofs.lemmas.Bool.Decides.{nat_tests}
use Rattle.std.proofs.lemmas.List.{length-take, take-take, take-append-le}
use Rattle.std.proofs.lemmas.Slice.Eq.{bytes_eq-Decides}
use Rattle.units.specs.declared.disk.Sector.{Sector}
use Rattle.units.specs.Places.{anchor_place, extended_count}
use Rattle.imsm_base.specs.Fields.{number_at}
use Rattle.imsm_base.specs.Layout.{generation_of}
use Rattle.imsm_base.specs.Parts.{block_in}
use Rattle.imsm_base.specs.Whole.{IsSize, IsWholeBlock, IsWholeDisk, is_size, sectors_from, standing, the_signature}
use Rattle.imsm_base.proofs.Spliced.{number_at-front, number_at-take}
use Rattle.imsm_codec.specs.Given.{given_block, size_in}
use Rattle.imsm_codec.proofs.Wholeness.{header_of-whole}
use Rattle.mpb_store.specs.declared.answer.Found.TheVariants.{Whole}
use Rattle.mpb_store.specs.Answers.{IsFound, bytes_on}
use Rattle.mpb_store.specs.Reading.{bytes_at, extended_by, is_sized}
use Rattle.mpb_store.proofs.Told.{from_places}
use Rattle.block_meaning.proofs.Renewal.{generation-at}

size_tests : (n : ℕ) → IsSize n → is_size n ≡ true
size_tests n s =
    let least : nat_le 216 n ≡ true = grind (arith, nat_tests, s.least) in
    let most : nat_le n 8192 ≡ true = grind (arith, nat_tests, s.most) in
    let words : (n % 4 == 0) ≡ true = grind (arith, nat_tests, s.words) in
    rw (least, most, words) refl

module _ (n : ℕ) (at : ℕ → Sector) (full : length (at (anchor_place n)).0 ≡ 512) where
  abbrev first : List ℕ
  first = (at (anchor_place n)).0

  abbrev size : ℕ
  size = size_in first

  abbrev behind : List ℕ
  behind = bytes_at at (range_with_len (anchor_place n - extended_by first) (extended_by first))

  -- the size and the signature stand in the anchor, whatever bytes follow
  module _ (more : List ℕ) (w : IsWholeBlock (take size (first ++ more)) (block_in (take size (first ++ more)))) where
    abbrev bytes : List ℕ
    bytes = take size (first ++ more)

    least : 216 ≤ size
    least =
        let header = header_of-whole bytes w in
        let few : length bytes ≤ size = omega (arith, length-take size (first ++ more)) in
        omega (arith, header.1.least, header.2, few)

    size_same : size_in bytes ≡ size
    size_same = number_at-take 4 36 size (first ++ more) (omega (arith, least)) ∙ number_at-front 4 36 first more (omega (arith, full))

    sized : is_sized first ≡ true
    sized =
        let header = header_of-whole bytes w in
        let front : take 24 bytes ≡ take 24 first = take-take 24 size (first ++ more) (omega (arith, least)) ∙ take-append-le 24 first more (omega (arith, full)) in
        let signed : bytes_eq (take 24 first) the_signature ≡ true = (bytes_eq-Decides (take 24 first) the_signature).1 (sym front ∙ header.0) in
        let sizes : is_size size ≡ true = size_tests size (subst IsSize size_same header.1) in
        rw (signed, sizes) refl

    generation_same : number_at 4 44 first ≡ generation_of (block_in bytes)
    generation_same =
        sym (number_at-take 4 44 size (first ++ more) (omega (arith, least)) ∙ number_at-front 4 44 first more (omega (arith, full))) ∙ generation-at bytes

  found_size : size_in (bytes_on n at) ≡ size
  found_size = number_at-front 4 36 first behind (omega (arith, full))

  same_block : is_sized first ≡ true → given_block (bytes_on n at) ≡ standing n at
  same_block sized =
      let count : extended_by first ≡ extended_count size = ap (λ (b : Bool). cond b (extended_count size) 0) sized in
      ap (λ (k : ℕ). take k (first ++ behind)) found_size
      ∙ ap (λ (c : ℕ). take size (first ++ bytes_at at (range_with_len (anchor_place n - c) c))) count
      ∙ ap (λ (more : List ℕ). take size (first ++ more)) (from_places at (anchor_place n - extended_count size) (extended_count size))

  pub whole_found : (own : List ℕ) → IsFound own n (bytes_on n at) Whole → IsWholeDisk own n (standing n at) (block_in (standing n at))
  whole_found own is =
      let whole = subst (λ (k : ℕ). IsWholeBlock (take k (first ++ behind)) (block_in (take k (first ++ behind)))) found_size is.whole in
      subst (λ (b : List ℕ). IsWholeDisk own n b (block_in b)) (same_block (sized behind whole)) is

  abbrev following : List ℕ
  following = sectors_from at (anchor_place n - extended_count size) (extended_count size)

  pub found_whole : (own : List ℕ) → IsWholeDisk own n (standing n at) (block_in (standing n at)) → IsFound own n (bytes_on n at) Whole
  found_whole own is = subst (λ (b : List ℕ). IsWholeDisk own n b (block_in b)) (sym (same_block (sized following is.whole))) is

  pub generation_stands : IsWholeBlock (standing n at) (block_in (standing n at)) → number_at 4 44 first ≡ generation_of (block_in (standing n at))
  generation_stands w = generation_same following w
