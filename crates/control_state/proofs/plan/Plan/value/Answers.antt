use Rattle.std.proofs.Common.{ap, ◌∙◌}
use Rattle.stage_machine.specs.Jobs.{value_in}
use Rattle.control_state.proofs.plan.Plan.value.Goals as goal

pub returns : goal.returns
returns c = c.sector_with.ensures ∙ c.value_named.ensures ∙ ap value_in c.kind.ensures
