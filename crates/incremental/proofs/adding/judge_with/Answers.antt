use Rattle.std.proofs.Common.{◌≤◌, List, length, sym, ◌∙◌, ap, subst, rules}
use Rattle.container.specs.declared.seen.Seen.{Seen}
use Rattle.container.specs.Verdicts.{IsVerdict}
use Rattle.incremental.specs.Arrivals.{lower, with_disk}
use Rattle.incremental.proofs.More.{few_of, lower_few, placed, with_kept}
use Rattle.incremental.proofs.adding.judge_with.Goals as goal

pub insert-requires : goal.insert-requires
insert-requires c = let few = lower_few c.args.disk.disk c.args.seen.now.items in search rules

pub judge-requires-clause-few : goal.judge-requires-clause-few
judge-requires-clause-few c =
    let kept = with_kept c.args.disk c.args.seen.now.items c.requires.kept c.requires.below c.requires.sound in
    let count = c.count_below-at.ensures ∙ ap (λ (l : List Seen). length (lower c.args.disk.disk l)) c.as_slice.ensures.value in
    let put = placed c.args.disk c.args.seen.now.items c.count_below-at.result c.requires.kept.rising c.requires.new count in
    subst (λ (l : List Seen). length l ≤ 16) (sym (c.as_slice-2.ensures.value ∙ c.in_ok-insert.ensures.items ∙ put)) (few_of (with_disk c.args.disk c.args.seen.now.items) kept)

pub remove-requires : goal.remove-requires
remove-requires c = let few = lower_few c.args.disk.disk c.args.seen.now.items in search rules

pub returns-in-Ok-clause-added : goal.returns-in-Ok-clause-added
returns-in-Ok-clause-added c =
    let count = c.count_below-at.ensures ∙ ap (λ (l : List Seen). length (lower c.args.disk.disk l)) c.as_slice.ensures.value in (
      c.in_ok-insert.ensures.items ∙ placed c.args.disk c.args.seen.now.items c.count_below-at.result c.requires.kept.rising c.requires.new count,
      subst (λ (l : List Seen). IsVerdict l c.args.run c.in-Ok.verdict) c.as_slice-2.ensures.value c.in-Ok.ensures,
    )
