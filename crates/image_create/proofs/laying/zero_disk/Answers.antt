use Rattle.std.proofs.Common.{ℕ, List, ◌-◌, ◌∙◌, ap}
use Rattle.std.specs.Prelude.{slice_index}
use Rattle.std.proofs.lemmas.Result.{on_ok_weaker, on_err_weaker}
use Rattle.image_create.proofs.Zeroed.{rows_stopped, anchor_stopped, disk_zeroed, disk_unsynced}
use Rattle.image_create.proofs.laying.zero_disk.Goals as goal
use Rattle.image_outside.proofs.Written.{on_err}

pub returns-in_err-zero_rows-clause-err : goal.returns-in_err-zero_rows-clause-err
returns-in_err-zero_rows-clause-err g c =
    on_err c.from_residual.result _ (rows_stopped c.args.rows c.args.d.0 (slice_index (g.B.Bank.sizes c.args.bank.now) c.args.d.0) c.in_err-zero_rows.ensures.err)

pub returns-in_err-write-clause-err : goal.returns-in_err-write-clause-err
returns-in_err-write-clause-err g c =
    let d : ℕ = c.args.d.0 in
    let there = ap (λ (n : ℕ). n - 2) (c.sectors-anchor.ensures ∙ ap (λ (x : List ℕ). slice_index x d) c.zero_rows.ensures.kept.sized) in
    on_err c.from_residual-in_err-write.result _
    (anchor_stopped c.args.rows d (slice_index (g.B.Bank.sizes c.args.bank.now) d) _ c.zeros.result there c.zeros.ensures c.in_ok-zero_rows.ensures.ok c.in_err-write.ensures.err)

pub returns-clause-ok : goal.returns-clause-ok
returns-clause-ok g c =
    let d : ℕ = c.args.d.0 in
    let there = ap (λ (n : ℕ). n - 2) (c.sectors-anchor.ensures ∙ ap (λ (x : List ℕ). slice_index x d) c.zero_rows.ensures.kept.sized) in
    on_ok_weaker c.sync.result
    (disk_zeroed c.args.rows d (slice_index (g.B.Bank.sizes c.args.bank.now) d) _ c.zeros.result there c.zeros.ensures c.in_ok-zero_rows.ensures.ok c.in_ok-write.ensures.ok)
    c.sync.ensures.ok

pub returns-clause-err : goal.returns-clause-err
returns-clause-err g c =
    let d : ℕ = c.args.d.0 in
    let there = ap (λ (n : ℕ). n - 2) (c.sectors-anchor.ensures ∙ ap (λ (x : List ℕ). slice_index x d) c.zero_rows.ensures.kept.sized) in
    on_err_weaker c.sync.result
    (disk_unsynced c.args.rows d (slice_index (g.B.Bank.sizes c.args.bank.now) d) _ c.zeros.result there c.zeros.ensures c.in_ok-zero_rows.ensures.ok c.in_ok-write.ensures.ok)
    c.sync.ensures.err
