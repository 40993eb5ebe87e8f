use Rattle.std.proofs.Common.{ℕ, List, ◌++◌, subst}
use Rattle.std.specs.List.{flat_map}
use Rattle.std.proofs.lemmas.Result.{on_err_weaker, on_ok_weaker}
use Rattle.imsm_text.specs.Text.{line_feed}
use Rattle.image_outside.specs.Outside.{Adds, BreaksOff}
use Rattle.image_outside.specs.Lines.{spaced_text}
use Rattle.image_outside.proofs.Written.{adds_both, breaks_first, breaks_later, on_err}
use Rattle.image_outside.proofs.Lined.{line_is}
use Rattle.image_outside.proofs.line.write_line.Goals as goal

pub returns-in_err-write_all-clause-err : goal.returns-in_err-write_all-clause-err
returns-in_err-write_all-clause-err g c =
    let words = flat_map spaced_text c.args.words.now in
    let told = g.K.Sink.written in
    let faults = g.K.Sink.faults_of in
    on_err c.from_residual.result _
    (subst (λ (l : List ℕ). BreaksOff (told c.args.sink.now) (told c.write_all.new.sink) (faults c.args.sink.now) (faults c.write_all.new.sink) l) (line_is c.args.first.now c.args.words.now)
    (breaks_first (told c.args.sink.now) (told c.write_all.new.sink) (faults c.args.sink.now) (faults c.write_all.new.sink) c.args.first.now (words ++ line_feed) c.in_err-write_all.ensures.failed))

pub returns-in_err-write_words-clause-err : goal.returns-in_err-write_words-clause-err
returns-in_err-write_words-clause-err g c =
    let words = flat_map spaced_text c.args.words.now in
    let told = g.K.Sink.written in
    let faults = g.K.Sink.faults_of in
    on_err c.from_residual-in_err-write_words.result _
    (subst (λ (l : List ℕ). BreaksOff (told c.args.sink.now) (told c.write_words.new.sink) (faults c.args.sink.now) (faults c.write_words.new.sink) l) (line_is c.args.first.now c.args.words.now)
    (breaks_later (told c.args.sink.now) (told c.write_all.new.sink) (told c.write_words.new.sink) (faults c.args.sink.now) (faults c.write_all.new.sink) (faults c.write_words.new.sink)
    c.args.first.now (words ++ line_feed) c.in_ok-write_all.ensures.all c.write_all.ensures.later
    (breaks_first (told c.write_all.new.sink) (told c.write_words.new.sink) (faults c.write_all.new.sink) (faults c.write_words.new.sink) words line_feed c.in_err-write_words.ensures.err)))

pub returns-clause-ok : goal.returns-clause-ok
returns-clause-ok g c =
    let words = flat_map spaced_text c.args.words.now in
    let told = g.K.Sink.written in
    on_ok_weaker c.write_all-2.result
    (λ (last : Adds (told c.write_words.new.sink) (told c.write_all-2.new.sink) line_feed).
    subst (λ (l : List ℕ). Adds (told c.args.sink.now) (told c.write_all-2.new.sink) l) (line_is c.args.first.now c.args.words.now)
    (adds_both (told c.args.sink.now) (told c.write_all.new.sink) (told c.write_all-2.new.sink) c.args.first.now (words ++ line_feed) c.in_ok-write_all.ensures.all
    (adds_both (told c.write_all.new.sink) (told c.write_words.new.sink) (told c.write_all-2.new.sink) words line_feed c.in_ok-write_words.ensures.ok last)))
    c.write_all-2.ensures.all

pub returns-clause-err : goal.returns-clause-err
returns-clause-err g c =
    let words = flat_map spaced_text c.args.words.now in
    let told = g.K.Sink.written in
    let faults = g.K.Sink.faults_of in
    on_err_weaker c.write_all-2.result
    (λ (last : BreaksOff (told c.write_words.new.sink) (told c.write_all-2.new.sink) (faults c.write_words.new.sink) (faults c.write_all-2.new.sink) line_feed).
    subst (λ (l : List ℕ). BreaksOff (told c.args.sink.now) (told c.write_all-2.new.sink) (faults c.args.sink.now) (faults c.write_all-2.new.sink) l) (line_is c.args.first.now c.args.words.now)
    (breaks_later (told c.args.sink.now) (told c.write_all.new.sink) (told c.write_all-2.new.sink) (faults c.args.sink.now) (faults c.write_all.new.sink) (faults c.write_all-2.new.sink)
    c.args.first.now (words ++ line_feed) c.in_ok-write_all.ensures.all c.write_all.ensures.later
    (breaks_later (told c.write_all.new.sink) (told c.write_words.new.sink) (told c.write_all-2.new.sink) (faults c.write_all.new.sink) (faults c.write_words.new.sink) (faults c.write_all-2.new.sink)
    words line_feed c.in_ok-write_words.ensures.ok c.write_words.ensures.later last)))
    c.write_all-2.ensures.failed
