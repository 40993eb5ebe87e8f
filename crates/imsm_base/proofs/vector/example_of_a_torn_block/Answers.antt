use Rattle.std.proofs.Common.{◌≡◌, ℕ, subst, sym, arith}
use Rattle.imsm_base.specs.Layout.{checksum_of}
use Rattle.imsm_base.specs.Whole.{IsWholeBlock, block_sum}
use Rattle.imsm_base.specs.Parts.{block_in}
use Rattle.imsm_base.specs.Vector.{torn_mirror_bytes}
use Rattle.imsm_base.proofs.Joined.{block_in-spelled}
use Rattle.imsm_base.proofs.vector.example_of_a_torn_block.Goals as goal

torn : checksum_of (block_in torn_mirror_bytes) ≡ block_sum torn_mirror_bytes → ⊥
unfolding block_in
torn e =
    let kept : ℕ = 0x4770510b in
    let summed : ℕ = 0x4770510c in
    let numbers : kept ≡ summed = e in
    absurd (omega arith)

pub returns : goal.returns
returns c = λ w. torn (subst (IsWholeBlock torn_mirror_bytes) (sym (block_in-spelled torn_mirror_bytes w.0 w.1.spells)) w.1).summed
