use Rattle.std.proofs.Common.{◌≡◌, ℕ, false, sym, ◌∙◌, arith}
use borrow.Author.Count.{below_more}
use Rattle.imsm_base.specs.Layout.{Block, Volume, member_count_of}
use Rattle.imsm_base.specs.Volumes.{first_map, members, is_bad_slot}
use Rattle.imsm_codec.specs.Mpb.{block_of, volume_at}
use Rattle.imsm_view.proofs.Members.{find_none, find_least}
use Rattle.imsm_view.proofs.slot.bad_slot.Goals as goal

pub loop-slot-preserved : goal.loop-slot-preserved
loop-slot-preserved c =
    let b : Block = block_of c.args.mpb.now in
    let v : Volume = volume_at c.args.v.0 b in
    below_more (λ (k : ℕ). is_bad_slot b (members v) k ≡ false) c.loop-slot.slot c.loop-slot.invariant (sym c.is_bad_slot.ensures ∙ c.if-is_bad_slot.false)

pub returns-then-is_bad_slot : goal.returns-then-is_bad_slot
returns-then-is_bad_slot c =
    let b : Block = block_of c.args.mpb.now in
    let v : Volume = volume_at c.args.v.0 b in
    find_least (is_bad_slot b (members v)) (member_count_of (first_map v)) c.loop-slot.slot (omega arith) (sym c.is_bad_slot.ensures ∙ c.if-is_bad_slot.true) c.loop-slot.invariant

pub returns : goal.returns
returns c =
    let b : Block = block_of c.args.mpb.now in
    let v : Volume = volume_at c.args.v.0 b in
    find_none (is_bad_slot b (members v)) (member_count_of (first_map v)) (λ k below. c.loop-slot.invariant k (omega arith))
