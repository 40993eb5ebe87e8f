use Rattle.std.proofs.Common.{take, List, [], ◌∷◌, ◌++◌, sym, subst, arith}
use Rattle.generation_pick.specs.declared.found.FoundAt.{FoundAt}
use Rattle.generation_pick.proofs.Lists.{taken_more, refuted}
use Rattle.generation_pick.proofs.Paired.{TwinIs, twin_kept, twin_more}
use Rattle.generation_pick.proofs.twins.twin_of.Goals as goal
use Rattle.generation_pick.proofs.twins.twin_of.Goals.{then-are_twins, else-are_twins}

pub loop-other-preserved : goal.loop-other-preserved
loop-other-preserved c =
    let list : List FoundAt = c.args.list.now in
    let one : FoundAt = c.args.entry.now in
    let g : FoundAt = c.other-item.result in
    let seen : List FoundAt = take c.loop-other.other-index list in
    subst (λ (front : List FoundAt). TwinIs one front c.if-are_twins.least) (sym (taken_more list c.loop-other.other-index g (omega arith) c.other-item.is))
    (elim c.if-are_twins.branch [
      | then-are_twins w ↦ subst (TwinIs one (seen ++ g ∷ [])) (sym w.least-is)
          (twin_more one seen c.loop-other.least g w.lower.result c.loop-other.invariant (c.are_twins.ensures.0 w.if-are_twins.true) w.lower.ensures)
      | else-are_twins w ↦ subst (TwinIs one (seen ++ g ∷ [])) (sym w.least-is)
          (twin_kept one seen c.loop-other.least g c.loop-other.invariant (refuted c.are_twins.result c.are_twins.ensures w.if-are_twins.false))
    ])
