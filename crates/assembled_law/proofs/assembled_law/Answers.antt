use Rattle.std.proofs.Common.{false, ◌∙◌, ap, subst}
use Rattle.container.specs.Verdicts.{IsVerdict}
use Rattle.verdict_text.specs.Lines.{verdict_lines}
use Rattle.verdict_law.proofs.Opened.{verdict_keeps}
use Rattle.verdict_law.proofs.Ready.{verdict_is_ready}
use Rattle.assembled_law.specs.Present.{present_on}
use Rattle.assembled_law.proofs.OnImages.{are_seen_on, opened_by}
use Rattle.assembled_law.proofs.assembled_law.Goals as goal

pub returns-clause-keeps : goal.returns-clause-keeps
returns-clause-keeps c W images content unsure mark bank opening log lines reads sound tells among does =
    let opened = opened_by does.verdict does.status_is in
    let says = subst (IsVerdict does.seen false) opened.1 does.says in
    let on = are_seen_on opening log bank tells lines 0 does in
    let (m, opens, keeps, said) = verdict_keeps W images (present_on bank opening) content unsure mark does.seen opened.0 reads sound among on says in
    (opened.0, does.lines_are ∙ ap (verdict_lines bank.serials bank.serials) opened.1, m, opens, keeps, said)

pub returns-clause-opens : goal.returns-clause-opens
returns-clause-opens c W images content unsure mark bank opening log lines status m reads sound tells among newest held complete large fits below does =
    let on = are_seen_on opening log bank tells lines status does in
    let opened = verdict_is_ready W images (present_on bank opening) content unsure mark does.seen m does.verdict reads sound among on newest held complete large fits below does.says in
    (opened.0, does.lines_are ∙ ap (verdict_lines bank.serials bank.serials) opened.1)
