use Rattle.std.proofs.Common.{ℕ, ◌++◌, ◌∷◌, [], List, map, take, sym, ◌∙◌, ap, arith}
use Rattle.std.proofs.lemmas.List.{map_more}
use Rattle.imsm_base.specs.Layout.{Block, Volume}
use Rattle.imsm_base.specs.Volumes.{members}
use Rattle.imsm_codec.specs.Mpb.{block_of, volume_at}
use Rattle.imsm_view.specs.declared.volume.SlotView.{SlotView}
use Rattle.imsm_view.specs.Views.{slot_view}
use Rattle.imsm_view.proofs.Members.{length_members, member_here, all_taken, blank}
use Rattle.imsm_view.proofs.slot.slots_of.Goals as goal

pub loop-slot-preserved : goal.loop-slot-preserved
loop-slot-preserved c =
    let b : Block = block_of c.args.mpb.now in
    let v : Volume = volume_at c.args.v.0 b in
    let slot : ℕ = c.loop-slot.slot in
    let len = length_members v in
    c.push.ensures.items ∙ ap (λ (ss : List SlotView). ss ++ c.slot_of.result ∷ []) c.loop-slot.invariant
    ∙ ap (λ (s : SlotView). map (slot_view b) (take slot (members v)) ++ s ∷ []) (c.slot_of.ensures ∙ ap (slot_view b) (sym (member_here v slot blank (omega arith))))
    ∙ sym (map_more (slot_view b) (members v) slot blank (omega arith))

pub returns : goal.returns
returns c =
    let b : Block = block_of c.args.mpb.now in
    let v : Volume = volume_at c.args.v.0 b in
    c.loop-slot.invariant ∙ ap (map (slot_view b)) (all_taken v c.loop-slot.slot (omega arith))
