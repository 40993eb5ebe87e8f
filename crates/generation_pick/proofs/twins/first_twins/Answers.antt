use Rattle.std.proofs.Common.{take, List, [], ◌∷◌, ◌++◌, sym, subst, refl, arith}
use Rattle.std.proofs.lemmas.List.{take_all}
use Rattle.generation_pick.specs.declared.found.FoundAt.{FoundAt}
use Rattle.generation_pick.proofs.Lists.{taken_more}
use Rattle.generation_pick.proofs.Paired.{FirstIs, first_twins_from, pairs_kept, pairs_more}
use Rattle.generation_pick.proofs.twins.first_twins.Goals as goal
use Rattle.generation_pick.proofs.twins.first_twins.Goals.{in-Some, in_default}

pub loop-entry-preserved : goal.loop-entry-preserved
loop-entry-preserved c =
    let list : List FoundAt = c.args.list.now in
    let f : FoundAt = c.entry-item.result in
    let seen : List FoundAt = take c.loop-entry.entry-index list in
    subst (λ (front : List FoundAt). FirstIs list front c.match-twin_of.first) (sym (taken_more list c.loop-entry.entry-index f (omega arith) c.entry-item.is))
    (elim c.match-twin_of.branch [
      | in-Some w ↦ subst (FirstIs list (seen ++ f ∷ [])) (sym w.first-is)
          (pairs_more list seen c.loop-entry.first f (record { disk = f.disk; twin = w.in-Some.twin }) w.sooner.result c.loop-entry.invariant
          refl w.in-Some.ensures w.sooner.ensures)
      | in_default w ↦ subst (FirstIs list (seen ++ f ∷ [])) (sym w.first-is)
          (pairs_kept list seen c.loop-entry.first f c.loop-entry.invariant w.in_default.ensures)
    ])

pub returns : goal.returns
returns c =
    first_twins_from c.args.list.now c.loop-entry.first
    (subst (λ (front : List FoundAt). FirstIs c.args.list.now front c.loop-entry.first) (take_all c.loop-entry.entry-index c.args.list.now (omega arith)) c.loop-entry.invariant)
