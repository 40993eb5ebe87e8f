use Rattle.std.proofs.Common.{subst}
use Rattle.units.specs.declared.disk.Sector.{Sector}
use Rattle.stage_machine.specs.Rounds.{Ended}
use Rattle.stage_machine.specs.Machine.{Asks}
use Rattle.stage.specs.Stages.{Seen, Answered}
use Rattle.stage.proofs.stage.Stage.client_turn.Goals as goal

pub returns-clause-answered : goal.returns-clause-answered
returns-clause-answered g c =
    subst (λ (s : Seen g.row.B.Denot). (x : Ended) × (got : Sector) × Answered s c.client_acts.new.self (Asks c.args.k x got) c.client_acts.result)
    c.pass_over.ensures c.client_acts.ensures.answered
