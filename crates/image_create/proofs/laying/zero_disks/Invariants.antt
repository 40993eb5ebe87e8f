use Rattle.member_bank.specs.Told.{LogsAll}
use Rattle.image_outside.specs.Told.{bank_told}
use Rattle.image_create.specs.Calls.{calls_on, zero_calls}
use Rattle.image_create.specs.Stops.{KeepsBank}
use Rattle.image_create.proofs.laying.zero_disks.Given as goal

abbrev pub invariant-loop-d : goal.invariant-loop-d
invariant-loop-d g l = record {
  made : LogsAll (g.B.Bank.log l.initial.bank) (g.B.Bank.log l.bank) (calls_on (zero_calls l.rows) (g.B.Bank.sizes l.initial.bank) l.d);
  kept : KeepsBank (bank_told g.B.Bank l.initial.bank) (bank_told g.B.Bank l.bank);
}
