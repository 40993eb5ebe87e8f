use Rattle.std.proofs.Common.{◌≡◌, ◌+◌, take, drop, sym, ◌∙◌, subst, arith}
use Rattle.std.specs.Prelude.{All}
use Rattle.std.proofs.lemmas.List.{take_all}
use Rattle.std.proofs.lemmas.List.Elements.{All-push}
use Rattle.generation_pick.specs.Found.{family_at}
use Rattle.generation_pick.proofs.Lists.{taken_more, split_here}
use Rattle.generation_pick.proofs.families.other_family.Goals as goal

pub returns-then-other-family : goal.returns-then-other-family
returns-then-other-family c = record {
  front = take c.loop-entry.entry-index c.args.list.now;
  entry = c.entry-item.result;
  rest = drop (c.loop-entry.entry-index + 1) c.args.list.now;
  laid = split_here c.args.list.now c.loop-entry.entry-index c.entry-item.result (omega arith) c.entry-item.is;
  same = c.loop-entry.invariant;
  family = sym c.family-other.ensures;
  differs = c.if-other-family.true;
}

pub loop-entry-preserved : goal.loop-entry-preserved
loop-entry-preserved c =
    subst (All (λ f. family_at f ≡ c.args.family)) (sym (taken_more c.args.list.now c.loop-entry.entry-index c.entry-item.result (omega arith) c.entry-item.is))
    (All-push (λ f. family_at f ≡ c.args.family) (take c.loop-entry.entry-index c.args.list.now) c.entry-item.result c.loop-entry.invariant
    (sym c.family-other.ensures ∙ c.if-other-family.false))

pub returns : goal.returns
returns c =
    subst (All (λ f. family_at f ≡ c.args.family)) (take_all c.loop-entry.entry-index c.args.list.now (omega arith)) c.loop-entry.invariant
