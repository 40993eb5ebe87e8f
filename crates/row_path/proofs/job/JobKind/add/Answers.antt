use Rattle.std.proofs.Common.{subst, sym}
use Rattle.row_path.proofs.Sums.{sum_more, IsNotFirst}
use Rattle.row_path.proofs.job.JobKind.add.Goals as goal

pub returns-in-Write : goal.returns-in-Write
returns-in-Write c =
    sum_more c.args.self.now c.args.has_read c.args.sum.now c.args.x.now c.xor_into.new.into
    (subst (λ k. IsNotFirst k c.args.has_read) (sym c.in-Write.is) tt) c.xor_into.ensures

pub returns-then-has_read : goal.returns-then-has_read
returns-then-has_read c =
    sum_more c.args.self.now c.args.has_read c.args.sum.now c.args.x.now c.xor_into-then-has_read.new.into
    (subst (λ k. IsNotFirst k c.args.has_read) (sym c.in-Read.is) c.if-has_read.true) c.xor_into-then-has_read.ensures
