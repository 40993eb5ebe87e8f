use Rattle.std.proofs.Common.{take}
use Rattle.member_bank.specs.Told.{Keeps}
use Rattle.stage.specs.Causes.{KeepsBank}
use Rattle.stage.specs.Drives.{Follows}
use Rattle.stage.specs.Turns.{MadeAll}
use Rattle.stage.proofs.stage.Stage.drive.Given as goal

abbrev pub invariant-loop-turn : goal.invariant-loop-turn
invariant-loop-turn g l = record {
  made : MadeAll l.fn.self (take l.turn-index l.turns) l.self;
  follows : Follows l.fn.self l.self;
  opening : Keeps (g.B.Bank.opening l.fn.self.bank) (g.B.Bank.opening l.self.bank);
  bank : KeepsBank g.B.Bank.serials g.B.Bank.sizes g.B.Bank.log g.B.Bank.faults_of l.fn.self l.self;
}
