use Rattle.std.proofs.Common.{◌≡◌, length, sym, ◌∙◌, ap, subst, arith}
use Rattle.std.proofs.lemmas.List.{take_all}
use Rattle.container.proofs.OneVerdict.{one_verdict}
use Rattle.verdict_text.specs.Lines.{verdict_lines}
use Rattle.verdict_text.specs.Status.{verdict_status}
use Rattle.refused_verdicts.proofs.Assembled.{assembled}
use Rattle.refused_verdicts.proofs.Moved.{AllAlike, verdict_moves}
use Rattle.refused_verdicts.proofs.OneSeen.{own_serials, seen_alike}
use Rattle.refused_verdicts.proofs.looks.a_told_bank_has_one_assembly.Goals as goal

pub returns : goal.returns
returns c opening log bank run lines others status other tells does makes =
    let one = assembled opening log bank tells run lines status does in
    let two = assembled opening log bank tells run others other makes in
    let count : length does.seen ≡ length makes.seen = does.sees.count ∙ sym makes.sees.count in
    let front = seen_alike opening log bank does.seen makes.seen one two (omega (arith, count)) in
    let like = subst (AllAlike does.seen) (take_all (length does.seen) makes.seen (omega (arith, count))) front in
    let same : does.verdict ≡ makes.verdict =
    one_verdict makes.seen run does.verdict makes.verdict (own_serials opening log bank makes.seen tells two.each) (verdict_moves does.seen makes.seen like run does.verdict does.says) makes.says in (
      does.lines_are ∙ ap (verdict_lines bank.serials bank.serials) same ∙ sym makes.lines_are,
      does.status_is ∙ ap verdict_status same ∙ sym makes.status_is,
    )
