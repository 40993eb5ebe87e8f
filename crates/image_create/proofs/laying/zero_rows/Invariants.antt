use Rattle.std.proofs.Common.{map}
use Rattle.std.specs.List.{range_with_len}
use Rattle.member_bank.specs.Told.{LogsAll}
use Rattle.image_outside.specs.Told.{bank_told}
use Rattle.image_create.specs.Calls.{piece_call}
use Rattle.image_create.specs.Stops.{KeepsBank}
use Rattle.image_create.proofs.laying.zero_rows.Given as goal

abbrev pub invariant-loop-piece : goal.invariant-loop-piece
invariant-loop-piece g l = record {
  made : LogsAll (g.B.Bank.log l.initial.bank) (g.B.Bank.log l.bank) (map (piece_call l.d.0 l.rows) (range_with_len 0 l.piece));
  kept : KeepsBank (bank_told g.B.Bank l.initial.bank) (bank_told g.B.Bank l.bank);
}
