use Rattle.std.proofs.Common.{◌≡◌, ℕ, ◌≤◌}
use Rattle.member_bank.specs.Told.{Keeps}
use Rattle.image_outside.specs.Told.{bank_told}
use Rattle.image_verdict.proofs.Reading.{AreFound}
use Rattle.image_verdict.proofs.images.read_images.Given as goal

abbrev pub invariant-loop-d : goal.invariant-loop-d
invariant-loop-d g l = record {
  found : AreFound (bank_told g.B.Bank l.bank) l.d l.images.items;
  opening : Keeps (g.B.Bank.opening l.initial.bank) (g.B.Bank.opening l.bank);
  later : (k : ℕ) → g.B.Bank.faults_of l.initial.bank k ≤ g.B.Bank.faults_of l.bank k;
  sizes : g.B.Bank.sizes l.bank ≡ g.B.Bank.sizes l.initial.bank;
  serials : g.B.Bank.serials l.bank ≡ g.B.Bank.serials l.initial.bank;
}
