use Rattle.std.proofs.Common.{ap, ◌∙◌}
use Rattle.units.specs.declared.disk.Sector.{Sector}
use Rattle.control_state.specs.Book.{laid_at}
use Rattle.control_state.specs.Begins.{begins_at}
use Rattle.stage.proofs.open.control_at.Goals as goal

pub returns : goal.returns
returns c = λ p. c.open.ensures p ∙ ap (λ (s : Sector). begins_at p (laid_at s)) c.in-Ok.ensures.anchor
