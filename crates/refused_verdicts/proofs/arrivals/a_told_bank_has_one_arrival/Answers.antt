use Rattle.std.proofs.Common.{◌≡◌, ◌-◌, List, length, Some, sym, ◌∙◌, ap, subst}
use Rattle.std.specs.Prelude.{slice_get}
use Rattle.container.specs.declared.verdict.Verdict.{Verdict}
use Rattle.image_incremental.specs.Lines.{all_lines}
use Rattle.verdict_text.specs.Status.{verdict_status}
use Rattle.refused_verdicts.proofs.Arrived.{same_count, same_verdicts}
use Rattle.refused_verdicts.proofs.Places.{same_at}
use Rattle.refused_verdicts.proofs.arrivals.a_told_bank_has_one_arrival.Goals as goal

pub returns : goal.returns
returns c opening log bank run lines others status other tells does makes =
    let same = same_verdicts opening log bank tells run lines others status other does makes (same_count opening log bank tells run lines others status other does makes) in
    let last : does.last ≡ makes.last =
    same_at makes.verdicts (length makes.verdicts - 1) does.last makes.last (subst (λ (l : List Verdict). slice_get l (length l - 1) ≡ Some does.last) same does.last_is) makes.last_is in (
      does.lines_are ∙ ap (all_lines bank.serials) same ∙ sym makes.lines_are,
      does.status_is ∙ ap verdict_status last ∙ sym makes.status_is,
    )
