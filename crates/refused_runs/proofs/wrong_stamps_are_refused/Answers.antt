use Rattle.std.proofs.Common.{◌≡◌, ◌≤◌, true, false, arith}
use Rattle.refused_runs.proofs.wrong_stamps_are_refused.Goals as goal

pub returns-clause-late : goal.returns-clause-late
returns-clause-late c ended limit calls admitted =
    let last : 19 ≤ calls = admitted.form.form.stamped.1.1.1.1.1.1.1.1.1.1.1.1.1.1.0 in
    let count : 17 ≡ calls = admitted.counted in
    omega (arith, last, count)

pub returns-clause-counted : goal.returns-clause-counted
returns-clause-counted c ended limit calls admitted = let asked : false ≡ true = admitted.kept.calls.0.under_way.asked in cc asked
