use Rattle.std.proofs.Common.{◌≡◌, ◌≤◌, true, false, length, ap, arith}
use Rattle.units.specs.declared.disk.Sector.{Sector}
use Rattle.array_model.specs.Script.{sector_of}
use Rattle.array_model.specs.Small.{zeros, the_value}
use Rattle.refused_runs.proofs.wrong_answers_are_refused.Goals as goal

pub returns-clause-past : goal.returns-clause-past
returns-clause-past c log ended limit calls admitted = let past : 1024 ≤ 5 = admitted.form.causes.1.1.1.1.0 in omega (arith, past)

pub returns-clause-failed : goal.returns-clause-failed
returns-clause-failed c log ended limit calls admitted = let fault : false ≡ true = admitted.form.causes.1.1.1.1.0.fault in cc fault

pub returns-clause-no_spare : goal.returns-clause-no_spare
returns-clause-no_spare c log ended limit calls admitted = admitted.form.causes.1.1.1.1.0

pub returns-clause-valueless : goal.returns-clause-valueless
returns-clause-valueless c log ended limit calls admitted = admitted.form.causes.1.1.1.1.1.1.1.1.1.1.0

pub returns-clause-stale : goal.returns-clause-stale
returns-clause-stale c log ended limit calls admitted =
    let value : zeros ≡ sector_of the_value = admitted.answers.values.1.1.1.1.1.1.1.1.1.1.0 in
    let bytes : 1 ≡ 512 = ap (λ (s : Sector). length s.0) value in
    cc bytes
