use Rattle.std.proofs.Common.{◌≡◌, ℕ, List, [], refl, sym, ap, subst, arith}
use Rattle.std.specs.Prelude.{slice_index_or}
use Rattle.device_log.specs.Log.{IsReadCall}
use Rattle.assembly.specs.Seen.{are_unread}
use Rattle.imsm_text.specs.Text.{serial_text}
use Rattle.refused_verdicts.specs.Arrivals.{late_says}
use Rattle.refused_verdicts.proofs.Arrived.{arrived, called_below}
use Rattle.refused_verdicts.proofs.LineKinds.{late_at}
use Rattle.refused_verdicts.proofs.Sorted.{looks_place}
use Rattle.refused_verdicts.proofs.arrivals.late_looks_are_refused.Goals as goal

pub returns-clause-late : goal.returns-clause-late
returns-clause-late c opening log bank lines run status k s call tells named has there on does =
    let late = late_at bank.serials does.verdicts lines (late_says s) does.lines_are refl has in
    let printed : serial_text late.2 ≡ serial_text s = ap (λ (ws : List (List ℕ)). slice_index_or ws 1 []) late.4 in
    let place : late.0 ≡ k = tells.own late.0 k late.2 s late.3 named printed in
    let below = called_below opening log bank tells run lines status does call there in
    let count = does.are.count in
    let low = late.1 in
    omega (arith, place, below, count, low, on)

pub returns-clause-changed : goal.returns-clause-changed
returns-clause-changed c opening log bank lines run status call tells there changes does =
    let is = looks_place bank.sizes opening 0 (are_unread does.seen) log (arrived opening log bank tells run lines status does).calls call there in
    changes (subst IsReadCall (sym is.2) tt)
