use Rattle.std.proofs.Common.{◌≡◌, true, false, None}
use Rattle.member_bank.specs.Told.{Keeps}
use Rattle.stage.specs.Causes.{KeepsBank}
use Rattle.stage.specs.Drives.{Follows, Spends, ClientsStill}
use Rattle.stage.proofs.stage.Stage.clients_cycle.Given as goal

abbrev pub invariant-loop-k : goal.invariant-loop-k
invariant-loop-k g l = record {
  follows : Follows l.fn.self l.self;
  opening : Keeps (g.B.Bank.opening l.fn.self.bank) (g.B.Bank.opening l.self.bank);
  bank : KeepsBank g.B.Bank.serials g.B.Bank.sizes g.B.Bank.log g.B.Bank.faults_of l.fn.self l.self;
  live : l.self.control.failed ≡ None;
  spends : l.went ≡ true → Spends l.fn.self l.self;
  rests : l.went ≡ false → (l.self ≡ l.fn.self) × ClientsStill l.self l.k;
}
