use Rattle.std.proofs.Common.{◌≡◌, ℕ, ◌≤◌, length}
use Rattle.member_bank.specs.Told.{Keeps}
use Rattle.image_outside.specs.Told.{bank_told}
use Rattle.image_incremental.proofs.Firsts.{IsSoFar}
use Rattle.image_incremental.proofs.arriving.arrive_all.Given as goal

abbrev pub invariant-loop-d : goal.invariant-loop-d
invariant-loop-d g l = record {
  so_far : IsSoFar l.run (bank_told g.B.Bank l.bank) (g.B.Bank.log l.initial.bank) l.arrivals l.verdicts.items;
  count : length l.verdicts.items ≡ l.d;
  opening : Keeps (g.B.Bank.opening l.initial.bank) (g.B.Bank.opening l.bank);
  later : (k : ℕ) → g.B.Bank.faults_of l.initial.bank k ≤ g.B.Bank.faults_of l.bank k;
  sizes : g.B.Bank.sizes l.bank ≡ g.B.Bank.sizes l.initial.bank;
  serials : g.B.Bank.serials l.bank ≡ g.B.Bank.serials l.initial.bank;
}
