-- A whole block whose sectors stand at their places is what is found there.
use Rattle.std.proofs.Common.{◌≡◌, ℕ, zero, suc, ◌+◌, ◌-◌, ◌*◌, ◌<◌, ◌≤◌, List, ◌++◌, length, map, take, replicate, refl, sym, ◌∙◌, ap, subst, arith}
use Rattle.std.specs.List.{range_with_len}
use Rattle.std.proofs.lemmas.List.{take_at, take-take, take-append-le}
use Rattle.units.specs.declared.disk.Sector.{Sector}
use Rattle.imsm_base.specs.Edits.{first_sector}
use Rattle.imsm_base.specs.Parts.{block_in}
use Rattle.imsm_base.specs.Whole.{sectors_from, IsWholeBlock, IsWholeDisk}
use Rattle.units.specs.Places.{anchor_place, extended_count}
use Rattle.imsm_base.proofs.Spliced.{number_at-take, number_at-front}
use Rattle.imsm_codec.specs.Given.{size_in, given_block, IsSized}
use Rattle.mpb_store.specs.declared.answer.Found.TheVariants.{Whole}
use Rattle.mpb_store.specs.Answers.{IsFound, bytes_on}
use Rattle.mpb_store.specs.Banks.{IsAnswerOn}
use Rattle.mpb_store.specs.Reading.{bytes_at, extended_by}
use Rattle.mpb_store.specs.Sectors.{block_sector, bytes_in}
use Rattle.mpb_store.proofs.Filling.{bytes_in-front}
use Rattle.mpb_store.proofs.Followed.{extended_same}
use Rattle.mpb_store.proofs.Judged.{found_is_one}
use Rattle.mpb_store.proofs.Placing.{extended_sized}
use Rattle.mpb_store.proofs.Told.{from_places, places_by}
use Rattle.imsm_codec.proofs.Wholeness.{header_of-whole}

sized_of : (bytes : List ℕ) → IsWholeBlock bytes (block_in bytes) → IsSized bytes
sized_of bytes w =
    let header = header_of-whole bytes w in
    let least : 216 ≤ size_in bytes = header.1.least in
    let given : size_in bytes ≡ length bytes = header.2 in
    record { signed = record { long = omega arith; signed = header.0 }; sized = header.1 }

-- the header stands in the anchor
anchor-signed : (bytes : List ℕ) → 216 ≤ length bytes → take 24 (first_sector bytes) ≡ take 24 bytes
anchor-signed bytes long = take-take 24 512 (bytes ++ replicate 512 0) (omega arith) ∙ take-append-le 24 bytes (replicate 512 0) (omega arith)

anchor-size : (bytes : List ℕ) → 216 ≤ length bytes → size_in (first_sector bytes) ≡ size_in bytes
anchor-size bytes long = number_at-take 4 36 512 (bytes ++ replicate 512 0) (omega arith) ∙ number_at-front 4 36 bytes (replicate 512 0) (omega arith)

-- the sectors at consecutive places are those of the block
placed : (at : ℕ → Sector) (bytes : List ℕ) (from j m : ℕ) → ((k : ℕ) → k < j + m → at (from + k) ≡ block_sector bytes (k + 1))
    → bytes_at at (range_with_len (from + j) m) ≡ bytes_in (map (block_sector bytes) (range_with_len (suc j) m))
placed at bytes from j zero each = refl
placed at bytes from j (suc m) each =
    let here : at (from + j) ≡ block_sector bytes (suc j) = each j (omega arith) ∙ ap (block_sector bytes) (let same : j + 1 ≡ suc j = omega arith in same) in
    ap (λ (s : Sector). s.0 ++ bytes_at at (range_with_len (from + j + 1) m)) here
    ∙ ap (λ (x : List ℕ). (block_sector bytes (suc j)).0 ++ x)
    (ap (λ (k : ℕ). bytes_at at (range_with_len k m)) (let same : from + j + 1 ≡ from + suc j = omega arith in same)
    ∙ placed at bytes from (suc j) m (λ k below. each k (omega arith))
    ∙ ap (λ (k : ℕ). bytes_in (map (block_sector bytes) (range_with_len k m))) (let same : suc (suc j) ≡ suc j + 1 = omega arith in same))

-- the anchor and the extended sectors of a block are these bytes
stands_so : (n : ℕ) (at : ℕ → Sector) (bytes : List ℕ) (e : ℕ) → e ≤ 15 → at (anchor_place n) ≡ block_sector bytes 0
    → ((k : ℕ) → k < e → at (anchor_place n - e + k) ≡ block_sector bytes (k + 1))
    → bytes_at at (places_by n e) ≡ take (512 * (e + 1)) (bytes ++ replicate 8192 0)
stands_so n at bytes e few anchor each =
    ap (λ (s : Sector). s.0 ++ bytes_at at (range_with_len (anchor_place n - e) e)) anchor
    ∙ ap (λ (x : List ℕ). (block_sector bytes 0).0 ++ x)
    (ap (λ (k : ℕ). bytes_at at (range_with_len k e)) (let same : anchor_place n - e ≡ anchor_place n - e + 0 = omega arith in same)
    ∙ placed at bytes (anchor_place n - e) 0 e (λ k below. each k (omega arith)))
    ∙ ap (λ (k : ℕ). bytes_in (map (block_sector bytes) (range_with_len 0 k))) (let same : suc e ≡ e + 1 = omega arith in same)
    ∙ bytes_in-front bytes (e + 1) (omega arith)

-- as many first bytes as the block has are the block
front-block : (bytes : List ℕ) (e : ℕ) → length bytes ≤ 512 * (e + 1) → take (length bytes) (take (512 * (e + 1)) (bytes ++ replicate 8192 0)) ≡ bytes
front-block bytes e few =
    take-take (length bytes) (512 * (e + 1)) (bytes ++ replicate 8192 0) few ∙ take_at bytes (replicate 8192 0) (length bytes) refl

-- a disk of n sectors on which the sectors of a block stand is whole by it
pub answer_standing : (own : List ℕ) (n : ℕ) (at : ℕ → Sector) (bytes : List ℕ) → IsWholeDisk own n bytes (block_in bytes)
    → at (anchor_place n) ≡ block_sector bytes 0
    → ((k : ℕ) → k < extended_count (length bytes) → at (anchor_place n - extended_count (length bytes) + k) ≡ block_sector bytes (k + 1))
    → IsAnswerOn own n at Whole bytes
answer_standing own n at bytes w anchor each = record {
  exact = λ read g. (λ same. subst (IsFound own n (bytes_on n at)) same found, λ is. found_is_one own n (bytes_on n at) Whole g found is);
  loaded = λ is.
      sym (ap (λ (s : ℕ). take s (first ++ sectors_from at (anchor_place n - extended_count s) (extended_count s))) size_first
      ∙ ap (λ (x : List ℕ). take (length bytes) (first ++ x)) (sym (from_places at (anchor_place n - e) e))
      ∙ ap (take (length bytes)) sectors
      ∙ front-block bytes e (omega arith));
}
  where
    e : ℕ
    e = extended_count (length bytes)

    sized : IsSized bytes
    sized = sized_of bytes w.whole

    given : size_in bytes ≡ length bytes
    given = (header_of-whole bytes w.whole).2

    long : 216 ≤ length bytes
    long = sized.signed.long

    most : length bytes ≤ 8192
    most = let few : size_in bytes ≤ 8192 = sized.sized.most in omega arith

    first : List ℕ
    first = (at (anchor_place n)).0

    first_is : first ≡ first_sector bytes
    first_is = ap (λ (s : Sector). s.0) anchor

    size_first : size_in first ≡ length bytes
    size_first = ap size_in first_is ∙ anchor-size bytes long ∙ given

    extended : extended_by first ≡ e
    extended =
        ap extended_by first_is
        ∙ extended_same (first_sector bytes) bytes (anchor-signed bytes long) (anchor-size bytes long)
        ∙ extended_sized bytes sized
        ∙ ap extended_count given

    sectors : bytes_at at (places_by n e) ≡ take (512 * (e + 1)) (bytes ++ replicate 8192 0)
    sectors = stands_so n at bytes e (omega arith) anchor each

    on_disk : bytes_on n at ≡ take (512 * (e + 1)) (bytes ++ replicate 8192 0)
    on_disk = ap (λ (c : ℕ). bytes_at at (places_by n c)) extended ∙ sectors

    size_on : size_in (bytes_on n at) ≡ length bytes
    size_on =
        ap size_in on_disk
        ∙ number_at-take 4 36 (512 * (e + 1)) (bytes ++ replicate 8192 0) (omega arith)
        ∙ number_at-front 4 36 bytes (replicate 8192 0) (omega arith)
        ∙ given

    block_on : given_block (bytes_on n at) ≡ bytes
    block_on =
        ap (λ (s : ℕ). take s (bytes_on n at)) size_on ∙ ap (take (length bytes)) on_disk ∙ front-block bytes e (omega arith)

    found : IsFound own n (bytes_on n at) Whole
    found = subst (λ (x : List ℕ). IsWholeDisk own n x (block_in x)) (sym block_on) w
