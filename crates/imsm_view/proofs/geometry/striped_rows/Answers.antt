use Rattle.std.proofs.Common.{ℕ, ◌*◌, ◌<◌, ap, arith}
use Rattle.std.proofs.lemmas.Nat.{mul-lt}
use Rattle.imsm_view.proofs.Rows.{ceil_is, rows_bound, stripe_some}
use Rattle.imsm_view.proofs.geometry.striped_rows.Goals as goal

pub returns-clause-rows : goal.returns-clause-rows
returns-clause-rows c =
    let some = stripe_some c.args.strips c.args.strip c.requires.some_strips c.requires.some in
    ap (λ (n : ℕ). c.args.strip * n) (ceil_is c.args.size (c.args.strips * c.args.strip) c.div_ceil.result some c.div_ceil.ensures)

pub returns-clause-bound : goal.returns-clause-bound
returns-clause-bound c =
    let some = stripe_some c.args.strips c.args.strip c.requires.some_strips c.requires.some in
    let bound = rows_bound c.args.strips c.args.strip c.args.size c.div_ceil.result c.requires.some_strips some c.div_ceil.ensures in
    let stripe : c.args.strips * c.args.strip < 256 * 65536 = mul-lt c.args.strips c.args.strip 256 65536 c.requires.few_strips c.requires.short in
    omega arith
