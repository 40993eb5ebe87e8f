use Rattle.std.proofs.Common.{take, List, sym, subst, arith}
use Rattle.std.specs.Prelude.{Contains}
use Rattle.std.proofs.lemmas.List.{take_all}
use Rattle.std.proofs.lemmas.List.Elements.{All-nil, Contains-get_or}
use Rattle.generation_pick.specs.declared.found.FoundAt.{FoundAt}
use Rattle.generation_pick.proofs.Lists.{taken_more, refuted}
use Rattle.generation_pick.proofs.Leading.{Leads, newest_from, kept, moved}
use Rattle.generation_pick.proofs.newest.newest.Goals as goal
use Rattle.generation_pick.proofs.newest.newest.Goals.{then-is_newer, else-is_newer}

pub loop-entry-init : goal.loop-entry-init
loop-entry-init c = record {
  found = c.args.first.now;
  there = c.requires;
  disk = sym c.pick_of-best.ensures.disk;
  generation = sym c.pick_of-best.ensures.generation;
  family = sym c.pick_of-best.ensures.family;
  highest = All-nil _;
  least = All-nil _;
}

pub loop-entry-preserved : goal.loop-entry-preserved
loop-entry-preserved c =
    let list : List FoundAt = c.args.list.now in
    let f : FoundAt = c.entry-item.result in
    let there : Contains list f = subst (Contains list) (sym c.entry-item.is) (Contains-get_or list c.loop-entry.entry-index f (omega arith)) in
    subst (λ (seen : List FoundAt). Leads list seen c.if-is_newer.best) (sym (taken_more list c.loop-entry.entry-index f (omega arith) c.entry-item.is))
    (elim c.if-is_newer.branch [
      | then-is_newer w ↦ subst (Leads list _) (sym w.best-is)
          (moved list (take c.loop-entry.entry-index list) c.loop-entry.best w.pick_of-best-then-is_newer.result f c.loop-entry.invariant there
          (c.is_newer.ensures.0 w.if-is_newer.true)
          w.pick_of-best-then-is_newer.ensures.disk w.pick_of-best-then-is_newer.ensures.generation w.pick_of-best-then-is_newer.ensures.family)
      | else-is_newer w ↦ subst (Leads list _) (sym w.best-is)
          (kept list (take c.loop-entry.entry-index list) c.loop-entry.best f c.loop-entry.invariant (refuted c.is_newer.result c.is_newer.ensures w.if-is_newer.false))
    ])

pub returns : goal.returns
returns c =
    newest_from c.args.list.now c.loop-entry.best
    (subst (λ (seen : List FoundAt). Leads c.args.list.now seen c.loop-entry.best) (take_all c.loop-entry.entry-index c.args.list.now (omega arith)) c.loop-entry.invariant)
