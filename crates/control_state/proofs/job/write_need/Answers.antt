use Rattle.std.proofs.Common.{sym, ap, ◌∙◌}
use Rattle.stage_machine.specs.Jobs.{write_need}
use Rattle.control_state.proofs.Members.{drop_member, drop_past}
use Rattle.control_state.proofs.job.write_need.Goals as goal

pub returns-in-Some : goal.returns-in-Some
returns-in-Some c = λ read. sym (ap write_need (drop_member c.args.members.now c.args.at c.in-Some.disk (sym c.in-Some.is ∙ c.member_at.ensures)))

pub returns-in-None : goal.returns-in-None
returns-in-None c = λ read. sym (ap write_need (drop_past c.args.members.now c.args.at (sym c.in-None.is ∙ c.member_at.ensures)))
