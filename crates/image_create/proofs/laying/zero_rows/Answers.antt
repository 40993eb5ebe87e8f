use Rattle.std.proofs.Common.{arith}
use Rattle.image_create.proofs.Making.{kept_both}
use Rattle.image_create.proofs.Zeroed.{piece_made, piece_stopped}
use Rattle.image_create.proofs.laying.zero_rows.Goals as goal
use Rattle.image_outside.proofs.Written.{on_err}

pub loop-piece-preserved : goal.loop-piece-preserved
loop-piece-preserved g c = record {
  made = piece_made c.args.d.0 c.args.rows c.loop-piece.piece c.min-count.result c.zeros-zeros.result c.zeros-zeros.ensures c.min-count.ensures c.loop-piece.invariant.made
      c.in_ok-write.ensures.ok;
  kept = kept_both c.loop-piece.invariant.kept c.write.ensures.kept;
}

pub returns-in_err-write-clause-err : goal.returns-in_err-write-clause-err
returns-in_err-write-clause-err g c =
    on_err c.from_residual.result _
    (piece_stopped c.args.d.0 c.args.rows c.loop-piece.piece c.min-count.result c.zeros-zeros.result c.zeros-zeros.ensures c.min-count.ensures (omega arith) c.loop-piece.invariant.made
    c.in_err-write.ensures.err)
