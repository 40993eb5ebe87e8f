use Rattle.std.proofs.Common.{◌≡◌, ◌==◌, ℕ, Bool, true, false, sym, ◌∙◌, ap, arith}
use Rattle.std.specs.List.{list_any}
use Rattle.imsm_base.specs.Layout.{Volume, member_count_of}
use Rattle.imsm_base.specs.Volumes.{first_map, member, members, has_index}
use Rattle.imsm_codec.specs.Mpb.{block_of, volume_at}
use Rattle.imsm_view.proofs.Members.{any_more, any_here, all_taken}
use Rattle.imsm_view.proofs.overlap.share_disk.Goals as goal

-- an index of the other volume, by what was read of it
had : (v other : Volume) (slot index : ℕ) (r t : Bool) → index ≡ (member v slot).index → r ≡ list_any (λ m. m.index == index) (members other) → r ≡ t → has_index other (member v slot) ≡ t
had v other slot index r t at is e = ap (λ (n : ℕ). list_any (λ m. m.index == n) (members other)) (sym at) ∙ sym is ∙ e

pub loop-slot-preserved : goal.loop-slot-preserved
loop-slot-preserved c =
    let v : Volume = volume_at c.args.v.0 (block_of c.args.mpb.now) in
    let other : Volume = volume_at c.args.other.0 (block_of c.args.mpb.now) in
    any_more (has_index other) v c.loop-slot.slot (omega arith) c.loop-slot.invariant
    (had v other c.loop-slot.slot c.index_of.result c.has_index.result false c.index_of.ensures c.has_index.ensures c.if-has_index.false)

pub returns-then-has_index : goal.returns-then-has_index
returns-then-has_index c =
    let v : Volume = volume_at c.args.v.0 (block_of c.args.mpb.now) in
    let other : Volume = volume_at c.args.other.0 (block_of c.args.mpb.now) in
    let n : ℕ = member_count_of (first_map v) in
    sym (ap (list_any (has_index other)) (sym (all_taken v n (omega arith)))
    ∙ any_here (has_index other) v c.loop-slot.slot n (omega arith) (omega arith)
    (had v other c.loop-slot.slot c.index_of.result c.has_index.result true c.index_of.ensures c.has_index.ensures c.if-has_index.true))

pub returns : goal.returns
returns c =
    let v : Volume = volume_at c.args.v.0 (block_of c.args.mpb.now) in
    let other : Volume = volume_at c.args.other.0 (block_of c.args.mpb.now) in
    sym c.loop-slot.invariant ∙ ap (list_any (has_index other)) (all_taken v c.loop-slot.slot (omega arith))
