use Rattle.std.proofs.Common.{sym, ap, ◌∙◌, Some}
use Rattle.stage_machine.specs.States.{is_readonly}
use Rattle.control_state.specs.Seen.{plan_setting, state_of}
use Rattle.control_state.specs.Controls.{control_of}
use Rattle.control_state.proofs.Submitted.{submits_write, submits_read}
use Rattle.control_state.proofs.control.Control.submit_op.Goals as goal

pub returns-in-Some-Write : goal.returns-in-Some-Write
returns-in-Some-Write c =
    c.submit_write.ensures
    ∙ submits_write (plan_setting c.args.plan.now) (control_of c.args.plan.now c.args.self.now) c.args.k c.args.op _ _ _ _ (is_readonly (state_of c.args.self.now.state)) (sym c.is_readonly.ensures ∙ c.if-is_readonly.false)
    (sym c.kind.ensures ∙ c.in-Some-Write.is ∙ ap Some c.in-Some-Write.field-0-is)

pub returns-in-Some-Read : goal.returns-in-Some-Read
returns-in-Some-Read c =
    c.submit_read.ensures
    ∙ submits_read (plan_setting c.args.plan.now) (control_of c.args.plan.now c.args.self.now) c.args.k c.args.op _ _ _ (is_readonly (state_of c.args.self.now.state)) (sym c.is_readonly.ensures ∙ c.if-is_readonly.false)
    (sym c.kind.ensures ∙ c.in-Some-Read.is ∙ ap Some c.in-Some-Read.field-0-is)
