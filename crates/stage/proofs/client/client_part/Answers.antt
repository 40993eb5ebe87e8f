use Rattle.std.proofs.Common.{true, sym, ap, ◌∙◌}
use Rattle.array_model.specs.Script.{sector_of}
use Rattle.stage_machine.specs.Jobs.{client_at}
use Rattle.stage_machine.specs.Machine.{Out}
use Rattle.control_state.specs.Events.{read_of}
use Rattle.control_state.specs.Seen.{numbers, job_of, plan_setting}
use Rattle.control_state.specs.Controls.{control_of, out_of, failed_of}
use Rattle.stage.proofs.Asking.{submitted}
use Rattle.stage.proofs.Kept.{counts_same, submit_live}
use Rattle.stage.proofs.client.client_part.Goals as goal

pub returns-in-None-clause-made : goal.returns-in-None-clause-made
returns-in-None-clause-made g c = λ newest.
    let p = c.args.plan.now in (
      record { went = true; stored = 0 },
      sector_of 0,
      submitted p newest (g.B.Bank.sizes c.args.bank.now) (g.B.Bank.log c.args.bank.now) (control_of p c.args.control.now) c.args.calls.now c.args.k (record { went = true; stored = 0 }) (sector_of 0)
          (out_of p c.submit.new.self c.submit.result) (ap failed_of c.requires.live) (sym (c.work.ensures p) ∙ ap (job_of (numbers p.members.items) (read_of c.args.control.now.clients c.args.k)) c.in-None.is) c.submit.ensures (g.B.Bank.opening c.args.bank.now),
    )

-- nothing was called
pub returns-in-None-clause-cause : goal.returns-in-None-clause-cause
returns-in-None-clause-cause g c =
    let C = control_of c.args.plan.now c.args.control.now in
    counts_same (g.B.Bank.faults_of c.args.bank.now) (failed_of c.submit.new.self.failed)
    (ap (λ (o : Out). o.next.failed) c.submit.ensures ∙ submit_live (plan_setting c.args.plan.now) C c.args.k (client_at C.clients c.args.k).left ∙ ap failed_of c.requires.live)
