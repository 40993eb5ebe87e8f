use Rattle.member_bank.specs.Told.{LogsAll}
use Rattle.image_outside.specs.Told.{bank_told}
use Rattle.image_create.specs.Calls.{block_calls, calls_on}
use Rattle.image_create.specs.Stops.{KeepsBank}
use Rattle.image_create.proofs.laying.write_blocks.Given as goal

abbrev pub invariant-loop-d : goal.invariant-loop-d
invariant-loop-d g l = record {
  made : LogsAll (g.B.Bank.log l.initial.bank) (g.B.Bank.log l.bank) (calls_on (block_calls l.sectors l.size) (g.B.Bank.sizes l.initial.bank) l.d);
  kept : KeepsBank (bank_told g.B.Bank l.initial.bank) (bank_told g.B.Bank l.bank);
}
