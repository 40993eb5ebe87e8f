use Rattle.std.proofs.Common.{sym, ap, ◌∙◌}
use Rattle.control_state.specs.declared.round.Phase.{Phase}
use Rattle.control_state.specs.declared.round.Phase.TheVariants.{Going}
use Rattle.control_state.specs.declared.round.Step.{Step}
use Rattle.control_state.specs.Book.{laid_at}
use Rattle.control_state.specs.Rounds.{round_of, phase_of, step_of, gone}
use Rattle.control_state.specs.Seen.{numbers, plan_setting}
use Rattle.control_state.proofs.Members.{drop_member, drop_past}
use Rattle.control_state.proofs.Rounded.{gone_anchor, gone_sync, gone_none}
use Rattle.control_state.proofs.round.Round.went.Goals as goal

pub returns-in-None : goal.returns-in-None
returns-in-None c =
    let S = plan_setting c.args.plan.now in
    let r = round_of c.args.plan.now c.args.self.now in
    let m = laid_at c.args.self.now.next.anchor in
    let targets = c.args.plan.now.targets.items in
    gone_none S r m (step_of c.in-Going.step) _ (drop_past targets c.in-Going.at (sym c.in-None.is ∙ c.target_at.ensures.target))
    ∙ sym (ap (λ (x : Phase). gone S r (phase_of (numbers targets) m x)) c.in-Going.is)

pub returns-in-Anchor : goal.returns-in-Anchor
returns-in-Anchor c =
    let S = plan_setting c.args.plan.now in
    let r = round_of c.args.plan.now c.args.self.now in
    let m = laid_at c.args.self.now.next.anchor in
    let targets = c.args.plan.now.targets.items in
    let left = drop_member targets c.in-Going.at c.in-Some.field-0 (sym c.in-Some.is ∙ c.target_at.ensures.target) in
    gone_anchor S r m _ _ _ left
    ∙ sym (ap (λ (x : Phase). gone S r (phase_of (numbers targets) m x)) c.in-Going.is
    ∙ ap (λ (x : Step). gone S r (phase_of (numbers targets) m (Going x c.in-Going.at))) c.in-Anchor.is)

pub returns-in-Sync : goal.returns-in-Sync
returns-in-Sync c =
    let S = plan_setting c.args.plan.now in
    let r = round_of c.args.plan.now c.args.self.now in
    let m = laid_at c.args.self.now.next.anchor in
    let targets = c.args.plan.now.targets.items in
    let left = drop_member targets c.in-Going.at c.in-Some.field-0 (sym c.in-Some.is ∙ c.target_at.ensures.target) in
    c.to_next.ensures
    ∙ gone_sync S r m _ _ _ left
    ∙ sym (ap (λ (x : Phase). gone S r (phase_of (numbers targets) m x)) c.in-Going.is
    ∙ ap (λ (x : Step). gone S r (phase_of (numbers targets) m (Going x c.in-Going.at))) c.in-Sync.is)
