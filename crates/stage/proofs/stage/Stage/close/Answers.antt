use Rattle.std.proofs.Common.{subst, arith}
use Rattle.array_model.specs.Renewal.{FitsGeneration}
use Rattle.array_model.specs.Room.{BeginsWithRoom}
use Rattle.stage.specs.Runs.{Ran, RanTrue}
use Rattle.stage.specs.Stages.{Seen, setting_of}
use Rattle.stage.proofs.stage.Stage.close.Goals as goal

pub returns-clause-ran : goal.returns-clause-ran
returns-clause-ran g c = subst (λ (v : Seen g.row.B.Denot). Ran (setting_of v.given) v.control v.calls v.journal (g.B.Bank.log v.bank)) c.self.view_is c.self.invariant.ran.ran

pub returns-clause-honest : goal.returns-clause-honest
returns-clause-honest g c = subst (λ (v : Seen g.row.B.Denot). RanTrue (setting_of v.given) v.control v.calls v.journal (g.B.Bank.opening v.bank) (g.B.Bank.log v.bank)) c.self.view_is c.self.invariant.ran

pub returns-clause-fits : goal.returns-clause-fits
returns-clause-fits g c =
    let notes = c.self.invariant.notes in
    let within = c.self.invariant.within in
    subst (λ (v : Seen g.row.B.Denot). FitsGeneration v.control.round.note) c.self.view_is (omega (arith, notes, within))

pub returns-clause-room : goal.returns-clause-room
returns-clause-room g c = subst (λ (v : Seen g.row.B.Denot). BeginsWithRoom v.room v.journal) c.self.view_is c.self.invariant.roomy
