use Rattle.std.proofs.Common.{◌-◌}
use Rattle.member_bank.specs.Told.{Keeps}
use Rattle.stage.specs.Causes.{KeepsBank}
use Rattle.stage.specs.Drives.{Follows, spent, budget}
use Rattle.stage.proofs.stage.Stage.drain.Given as goal

abbrev pub invariant-loop-end : goal.invariant-loop-end
invariant-loop-end g l = record {
  follows : Follows l.fn.self l.self;
  opening : Keeps (g.B.Bank.opening l.fn.self.bank) (g.B.Bank.opening l.self.bank);
  bank : KeepsBank g.B.Bank.serials g.B.Bank.sizes g.B.Bank.log g.B.Bank.faults_of l.fn.self l.self;
}

abbrev pub decreases-loop-end : goal.decreases-loop-end
decreases-loop-end g l = budget l.self - spent l.self
