-- The block that stands on a disk whose sectors are those of a whole block's bytes.
use Rattle.std.proofs.Common.{◌≡◌, ℕ, zero, suc, ◌+◌, ◌-◌, ◌<◌, ◌≤◌, List, [], ◌∷◌, ◌++◌, length, replicate, refl, ap, ◌∙◌, arith}
use Rattle.units.specs.declared.disk.Sector.{Sector}
use Rattle.units.specs.Places.{anchor_place, extended_count}
use Rattle.device_log.specs.Cells.{resting}
use Rattle.imsm_base.specs.Edits.{first_sector}
use Rattle.imsm_base.specs.Fields.{number_at}
use Rattle.imsm_base.specs.Layout.{generation_of}
use Rattle.imsm_base.specs.Parts.{block_in}
use Rattle.imsm_base.specs.Whole.{IsWholeBlock}
use Rattle.imsm_base.proofs.Spliced.{number_at-front, number_at-take}
use Rattle.imsm_codec.proofs.Wholeness.{header_of-whole}
use Rattle.mpb_store.specs.Sectors.{block_sector}
use Rattle.array_model.specs.Blocks.{Laid, Words}
use Rattle.array_model.specs.Candidates.{standing_from}
use Rattle.block_meaning.specs.Meaning.{ReadsBlocks}
use Rattle.block_meaning.proofs.Renewal.{generation-at}
use Rattle.sound_images.specs.Images.{Image, block_on}

-- the sectors of a block behind number j, so many
abbrev pub sectors_behind : List ℕ → ℕ → ℕ → List Sector
sectors_behind bytes j zero = []
sectors_behind bytes j (suc count) = block_sector bytes (j + 1) ∷ sectors_behind bytes (j + 1) count

-- a block by its bytes, with zeros behind their end
abbrev pub laid_of : List ℕ → Laid
laid_of bytes = record { anchor = block_sector bytes 0; extended = sectors_behind bytes 0 (extended_count (length bytes)) }

extended_is : (at : ℕ → Sector) (bytes : List ℕ) (from j count : ℕ) → ((k : ℕ) → k < j + count → at (from + k) ≡ block_sector bytes (k + 1))
    → standing_from (λ p. resting (at p)) (from + j) count ≡ sectors_behind bytes j count
extended_is at bytes from j zero each = refl
extended_is at bytes from j (suc count) each =
    let here : at (from + j) ≡ block_sector bytes (j + 1) = each j (omega arith) in
    let next : from + j + 1 ≡ from + (j + 1) = omega arith in
    ap (λ (s : Sector). s ∷ standing_from (λ p. resting (at p)) (from + j + 1) count) here
    ∙ ap (λ (xs : List Sector). block_sector bytes (j + 1) ∷ xs)
    (ap (λ (k : ℕ). standing_from (λ p. resting (at p)) k count) next ∙ extended_is at bytes from (j + 1) count (λ k below. each k (omega (arith, below))))

-- the header stands in the anchor
front : (k : ℕ) (bytes : List ℕ) → k + 4 ≤ 216 → 216 ≤ length bytes → number_at 4 k (first_sector bytes) ≡ number_at 4 k bytes
front k bytes inside long = number_at-take 4 k 512 (bytes ++ replicate 512 0) (omega (arith, inside)) ∙ number_at-front 4 k bytes (replicate 512 0) (omega (arith, inside, long))

module _ (W : Words) (reads : ReadsBlocks W) (bytes : List ℕ) (whole : IsWholeBlock bytes (block_in bytes)) where
  long : 216 ≤ length bytes
  long = let header = header_of-whole bytes whole in omega (arith, header.1.least, header.2)

  extra_is : W.extra (block_sector bytes 0) ≡ extended_count (length bytes)
  extra_is = reads.extra (block_sector bytes 0) ∙ ap extended_count (front 36 bytes (omega arith) long ∙ (header_of-whole bytes whole).2)

  pub laid_generation : W.generation (laid_of bytes).anchor ≡ generation_of (block_in bytes)
  laid_generation = reads.generation (block_sector bytes 0) ∙ front 44 bytes (omega arith) long ∙ generation-at bytes

  pub stands_laid : (i : Image) → i.at (anchor_place i.sectors) ≡ block_sector bytes 0
      → ((k : ℕ) → k < extended_count (length bytes) → i.at (anchor_place i.sectors - extended_count (length bytes) + k) ≡ block_sector bytes (k + 1))
      → block_on W i ≡ laid_of bytes
  stands_laid i anchor each =
      let count : ℕ = extended_count (length bytes) in
      let from : ℕ = anchor_place i.sectors - count in
      let more : W.extra (i.at (anchor_place i.sectors)) ≡ count = ap W.extra anchor ∙ extra_is in
      let none : from ≡ from + 0 = omega arith in
      ap (λ (s : Sector). record { anchor = s; extended = standing_from (λ p. resting (i.at p)) (anchor_place i.sectors - W.extra (i.at (anchor_place i.sectors))) (W.extra (i.at (anchor_place i.sectors))) }) anchor
      ∙ ap (λ (xs : List Sector). record { anchor = block_sector bytes 0; extended = xs })
      (ap (λ (c : ℕ). standing_from (λ p. resting (i.at p)) (anchor_place i.sectors - c) c) more
      ∙ ap (λ (k : ℕ). standing_from (λ p. resting (i.at p)) k count) none
      ∙ extended_is i.at bytes from 0 count (λ k below. each k (omega (arith, below))))
