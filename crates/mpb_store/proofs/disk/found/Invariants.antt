use Rattle.std.proofs.Common.{◌≡◌, ℕ, ◌≤◌, true}
use Rattle.std.specs.Prelude.{slice_index}
use Rattle.member_bank.specs.Told.{Keeps}
use Rattle.member_bank.specs.Faults.{Rose}
use Rattle.mpb_store.specs.Banks.{IsReadFrom, LogsReads, LogsReading, bytes_left}
use Rattle.mpb_store.proofs.disk.found.Given as goal

abbrev pub invariant-loop-place : goal.invariant-loop-place
invariant-loop-place g l = record {
  from : IsReadFrom (slice_index (g.B.Bank.sizes l.initial.bank) l.d.0) l.d.0 (g.B.Bank.opening l.bank) (g.B.Bank.log l.bank) l.steps;
  reads : LogsReads (g.B.Bank.log l.initial.bank) (g.B.Bank.log l.bank) l.d.0 l.steps.failed;
  places : LogsReading l.d.0 (g.B.Bank.log l.initial.bank) (g.B.Bank.log l.bank) l.steps;
  opening : Keeps (g.B.Bank.opening l.initial.bank) (g.B.Bank.opening l.bank);
  cause : l.steps.failed ≡ true → Rose (g.B.Bank.faults_of l.initial.bank l.d.0) (g.B.Bank.faults_of l.bank l.d.0);
  later : (k : ℕ) → g.B.Bank.faults_of l.initial.bank k ≤ g.B.Bank.faults_of l.bank k;
  sizes : g.B.Bank.sizes l.bank ≡ g.B.Bank.sizes l.initial.bank;
  serials : g.B.Bank.serials l.bank ≡ g.B.Bank.serials l.initial.bank;
}

abbrev pub decreases-loop-place : goal.decreases-loop-place
decreases-loop-place g l = bytes_left l.steps
