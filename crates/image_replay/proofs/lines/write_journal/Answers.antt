use Rattle.std.proofs.Common.{◌≡◌, ◌++◌, ℕ, List, OnOk, arith, drop, subst, take, take_all, ◌∙◌}
use Rattle.std.proofs.lemmas.Result.{on_err_weaker}
use Rattle.array_model.specs.declared.journal.Entry.{Entry}
use Rattle.journal_text.specs.Lines.{journal_text}
use Rattle.image_outside.specs.Outside.{BreaksOff}
use Rattle.image_outside.proofs.Written.{breaks_first, on_err}
use Rattle.image_replay.proofs.Pieces.{held_breaks, held_next, text_cut}
use Rattle.image_replay.proofs.lines.write_journal.Goals as goal

pub loop-entry-preserved : goal.loop-entry-preserved
loop-entry-preserved g c =
    let told = g.K.Sink.written in
    let left = c.make_room.new.piece.items in
    let held = c.try_extend_from_slice.new.self.items in
    let extended : held ≡ left ++ c.as_slice.result.now = subst (λ r. OnOk r (held ≡ left ++ c.as_slice.result.now)) c.unwrap.ensures c.try_extend_from_slice.ensures.ok in
    record {
      added =
          held_next (told c.args.sink.now) (told c.loop-entry.sink) (told c.make_room.new.sink) c.args.entries.now c.loop-entry.entry-index _
          c.loop-entry.piece.items left c.as_slice.result.now held c.loop-entry-test.true c.loop-entry.invariant.added c.in_ok-make_room.ensures.ok
          extended (c.as_slice.ensures.value ∙ c.line_of-line.ensures);
      later = omega (arith, c.loop-entry.invariant.later, c.make_room.ensures.later);
    }

pub returns-in_err-make_room-clause-err : goal.returns-in_err-make_room-clause-err
returns-in_err-make_room-clause-err g c =
    let told = g.K.Sink.written in
    let faults = g.K.Sink.faults_of in
    let first = told c.args.sink.now in
    let mid = told c.loop-entry.sink in
    let new = told c.make_room.new.sink in
    let before = faults c.args.sink.now in
    let now = faults c.make_room.new.sink in
    let entries = c.args.entries.now in
    let i = c.loop-entry.entry-index in
    on_err c.from_residual.result _
    (subst (λ (l : List ℕ). BreaksOff first new before now l) (text_cut entries i)
    (breaks_first first new before now (journal_text (take i entries)) (journal_text (drop i entries))
    (held_breaks first mid new before (faults c.loop-entry.sink) now (journal_text (take i entries)) c.loop-entry.piece.items
    c.loop-entry.invariant.added c.loop-entry.invariant.later c.in_err-make_room.ensures.err)))

pub returns-clause-err : goal.returns-clause-err
returns-clause-err g c =
    let told = g.K.Sink.written in
    let faults = g.K.Sink.faults_of in
    let first = told c.args.sink.now in
    let mid = told c.loop-entry.sink in
    let new = told c.write_all.new.sink in
    let before = faults c.args.sink.now in
    let between = faults c.loop-entry.sink in
    let now = faults c.write_all.new.sink in
    let entries = c.args.entries.now in
    let i = c.loop-entry.entry-index in
    on_err_weaker c.write_all.result
    (λ (breaks : BreaksOff mid new between now c.as_slice-2.result.now).
    subst (λ (es : List Entry). BreaksOff first new before now (journal_text es)) (take_all i entries c.loop-entry-test.false)
    (held_breaks first mid new before between now (journal_text (take i entries)) c.loop-entry.piece.items
    c.loop-entry.invariant.added c.loop-entry.invariant.later
    (subst (λ (l : List ℕ). BreaksOff mid new between now l) c.as_slice-2.ensures.value breaks)))
    c.write_all.ensures.failed
