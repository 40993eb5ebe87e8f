use Rattle.std.proofs.Common.{sym, ap, subst, ◌∙◌}
use Rattle.stage_machine.specs.Machine.{Control}
use Rattle.control_state.specs.Book.{laid_at}
use Rattle.stage.specs.Runs.{run_setting}
use Rattle.stage.specs.Stages.{IsStage, given_of}
use Rattle.stage.proofs.stage.Stage.pass_over.Goals as goal

pub invariant_of-self : goal.invariant_of-self
invariant_of-self g c =
    let s = c.self.inside in
    let sizes = g.B.Bank.sizes s.bank in
    subst (λ (C : Control). IsStage (run_setting s.plan (laid_at s.newest) sizes) s.plan sizes C s.calls s.journal.entries s.journal.room (g.B.Bank.opening s.bank) (g.B.Bank.log s.bank))
    (sym c.pass_over.ensures) c.self.invariant

pub returns : goal.returns
returns g c =
    let s = c.self.inside in
    ap (λ (C : Control). record {
      bank = s.bank;
      given = given_of s.plan (laid_at s.newest) (g.B.Bank.sizes s.bank);
      control = C;
      calls = s.calls;
      journal = s.journal.entries;
      room = s.journal.room;
    }) c.pass_over.ensures ∙ c.self.view_is
