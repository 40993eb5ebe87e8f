use Rattle.std.proofs.Common.{ℕ, ◌≤◌, Option, Some, None, refl, arith}
use Rattle.std.specs.Prelude.{MatchOption, IsSome}
use Rattle.imsm_base.specs.Layout.{Block, Volume, disk_count_of}
use Rattle.imsm_base.specs.Volumes.{member}
use Rattle.imsm_codec.specs.Mpb.{block_of, volume_at}
use Rattle.imsm_view.proofs.Members.{index_below}
use Rattle.imsm_view.proofs.slot.slot_of.Goals as goal

there : (r : Option ℕ) (P : Type 0) (Q : ℕ → Type 0) → MatchOption r P Q → (P → ⊥) → IsSome r
there None P Q m other = absurd (other m)
there (Some x) P Q m other = refl

pub unwrap-index-requires : goal.unwrap-index-requires
unwrap-index-requires c =
    let b : Block = block_of c.args.mpb.now in
    let v : Volume = volume_at c.args.v.0 b in
    let below = index_below b v c.args.slot.0 c.requires.good c.requires.slot in
    there c.table_index.result (disk_count_of b ≤ (member v c.args.slot.0).index) _ c.table_index.ensures (λ past. omega arith)
