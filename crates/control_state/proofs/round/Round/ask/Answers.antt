use Rattle.std.proofs.Common.{List, ℕ, sym, ap, ◌∙◌}
use Rattle.stage_machine.specs.Rounds as machine
use Rattle.control_state.specs.Book.{laid_at}
use Rattle.control_state.specs.declared.round.Phase.{Phase}
use Rattle.control_state.specs.Rounds.{step_of, phase_of, next_ask}
use Rattle.control_state.specs.Seen.{numbers}
use Rattle.control_state.proofs.Members.{drop_member, drop_past}
use Rattle.control_state.proofs.round.Round.ask.Goals as goal

pub returns-in-Some : goal.returns-in-Some
returns-in-Some c =
    let m = laid_at c.args.self.now.next.anchor in
    let targets = c.args.plan.now.targets.items in
    sym (ap (λ (x : Phase). next_ask (phase_of (numbers targets) m x)) c.in-Going.is
    ∙ ap (λ (ds : List ℕ). next_ask (machine.Going m (step_of c.in-Going.step) ds)) (drop_member targets c.in-Going.at c.in-Some.disk (sym c.in-Some.is ∙ c.target_at.ensures.target)))

pub returns-in-None : goal.returns-in-None
returns-in-None c =
    let m = laid_at c.args.self.now.next.anchor in
    let targets = c.args.plan.now.targets.items in
    sym (ap (λ (x : Phase). next_ask (phase_of (numbers targets) m x)) c.in-Going.is
    ∙ ap (λ (ds : List ℕ). next_ask (machine.Going m (step_of c.in-Going.step) ds)) (drop_past targets c.in-Going.at (sym c.in-None.is ∙ c.target_at.ensures.target)))
