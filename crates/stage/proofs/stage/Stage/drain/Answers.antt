use Rattle.std.proofs.Common.{subst}
use Rattle.stage_machine.specs.Machine.{Quiets}
use Rattle.stage.specs.declared.ends.Cycle.{Cycle}
use Rattle.stage.specs.declared.turned.Turned.{Turned}
use Rattle.stage.specs.Stages.{Answered}
use Rattle.stage.specs.Drives.{Cycled}
use Rattle.stage.proofs.Driven.{all_still, answered_follows, follows_on}
use Rattle.stage.proofs.Kept.{bank_on}
use Rattle.stage.proofs.stage.Stage.drain.Goals as goal

pub returns-in-Idle-clause-over : goal.returns-in-Idle-clause-over
returns-in-Idle-clause-over g c = λ over.
    all_still c.loop-end.self c.cycle.new.self c.quiet.new.self
    (subst (λ (r : Cycle). Cycled c.loop-end.self c.cycle.new.self r) c.in-Rested.is c.cycle.ensures.cycled)
    (subst (λ (r : Turned). Answered c.cycle.new.self c.quiet.new.self Quiets r) c.in-Idle.is c.quiet.ensures.answered)

-- a cycle had nothing to do, and then the volume came to rest
pub loop-end-preserved : goal.loop-end-preserved
loop-end-preserved g c =
    let a = c.args.self.now in
    let b = c.loop-end.self in
    let m = c.cycle.new.self in
    let n = c.quiet.new.self in
    let inv = c.loop-end.invariant in
    record {
      follows = follows_on a m n (follows_on a b m inv.follows c.cycle.ensures.follows) (answered_follows m n Quiets c.quiet.result c.quiet.ensures.answered);
      opening = λ told is. inv.opening told (c.cycle.ensures.opening told (c.quiet.ensures.opening told is));
      bank = bank_on g.B.Bank.serials g.B.Bank.sizes g.B.Bank.log g.B.Bank.faults_of a m n
          (bank_on g.B.Bank.serials g.B.Bank.sizes g.B.Bank.log g.B.Bank.faults_of a b m inv.bank c.cycle.ensures.bank) c.quiet.ensures.bank;
    }

pub returns-in-Ends-clause-bank : goal.returns-in-Ends-clause-bank
returns-in-Ends-clause-bank g c =
    bank_on g.B.Bank.serials g.B.Bank.sizes g.B.Bank.log g.B.Bank.faults_of c.args.self.now c.loop-end.self c.cycle.new.self c.loop-end.invariant.bank c.cycle.ensures.bank
