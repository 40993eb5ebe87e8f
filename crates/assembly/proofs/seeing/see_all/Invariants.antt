use Rattle.std.proofs.Common.{◌≡◌, ℕ, ◌≤◌, length, Some}
use Rattle.std.specs.Prelude.{slice_get}
use Rattle.units.specs.declared.bounds.TheConstants.{MAX_BLOCK_BYTES}
use Rattle.member_bank.specs.Told.{Keeps}
use Rattle.container.specs.declared.seen.Seen.{Seen}
use Rattle.assembly.specs.Seen.{IsSeen, Looks, are_unread}
use Rattle.assembly.proofs.seeing.see_all.Given as goal

abbrev pub invariant-loop-d : goal.invariant-loop-d
invariant-loop-d g l = record {
  each : (k : ℕ) (s : Seen) → slice_get l.seen.items k ≡ Some s
      → IsSeen (g.B.Bank.serials l.initial.bank) (g.B.Bank.sizes l.initial.bank) (g.B.Bank.opening l.bank) (g.B.Bank.log l.initial.bank) (g.B.Bank.log l.bank) (g.B.Bank.faults_of l.initial.bank) (g.B.Bank.faults_of l.bank) k s;
  count : length l.seen.items ≡ l.d;
  looks : Looks (g.B.Bank.sizes l.initial.bank) (g.B.Bank.opening l.bank) 0 (g.B.Bank.log l.initial.bank) (are_unread l.seen.items) (g.B.Bank.log l.bank);
  room : MAX_BLOCK_BYTES ≤ l.into.room;
  opening : Keeps (g.B.Bank.opening l.initial.bank) (g.B.Bank.opening l.bank);
  later : (k : ℕ) → g.B.Bank.faults_of l.initial.bank k ≤ g.B.Bank.faults_of l.bank k;
  sizes : g.B.Bank.sizes l.bank ≡ g.B.Bank.sizes l.initial.bank;
  serials : g.B.Bank.serials l.bank ≡ g.B.Bank.serials l.initial.bank;
}
